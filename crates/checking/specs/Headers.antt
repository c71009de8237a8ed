-- What the steps of a check tell.
use Rattle.std.specs.Prelude.{ℕ, suc, ◌-◌, ◌<◌, ◌≤◌, true, false, List, ◌≡◌, Some}
use Rattle.graph.specs.Graph.{Graph}
use Rattle.graph.specs.Order.{ascends, Ascending}
use Rattle.graph.specs.Shapes.{Closed}
use Rattle.network.specs.declared.Refusal.{Refusal}
use Rattle.network.specs.File.{version_of, kind_at, graph_of, any_order}
use Rattle.checking.specs.declared.checks.Seen.{Seen}

-- 02, wish 13: each edge has one of the kinds 0 to 7
abbrev pub Known : List ℕ → Type 0
Known f = (e : ℕ) → e < (graph_of f).size → kind_at f e ≤ 7

-- what is told of all edges of a file is so
pub record Sees (f : List ℕ) (seen : Seen) : Type 0 where
  pub ascending : seen.ascending ≡ true → Ascending (graph_of f)
  pub below : seen.below ≡ true → Closed (graph_of f)
  pub known : seen.known ≡ true → Known f

-- r is given for a file wherever its version is read
abbrev pub Gives : List ℕ → Refusal → Type 0
Gives f r = (latest : ℕ) → version_of f ≤ latest → any_order latest f ≡ Some r

-- edge k is the first that does not come after the one preceding it
pub record FallsAt (g : Graph) (k : ℕ) : Type 0 where
  pub edge : k < g.size
  pub some : 1 ≤ k
  pub before : (e : ℕ) → suc e < k → ascends g e (suc e) ≡ true
  pub falls : ascends g (k - 1) k ≡ false
