-- What is read off a peel that has run to its end: two groups, and how many they are.
use Rattle.std.specs.Prelude.{ℕ, ◌+◌, false, List, ◌≡◌, leb, get_or}
use Rattle.graph.specs.Graph.{Graph, Group}
use Rattle.graph.specs.Core.{Core}
use Rattle.network.specs.declared.Totals.{Totals}
use Rattle.network.specs.Groups.{group_of, GroupIn, totals}
use Rattle.peeling.specs.declared.Scope.{Scope}
use Rattle.peeling.specs.Peeling.{Tabled, Kept}

-- the group with nobody in it
abbrev pub nobody : Group
nobody u = false

-- those u for which entry i + u of the table is at least k
abbrev pub at_least : List ℕ → ℕ → ℕ → Group
at_least w i k u = leb k (get_or w (i + u) 0)

-- the groups written are the core of every graph that the table holds, and the numbers returned are theirs
pub record CoreIn (c : Scope) (w w' s s' t t' : List ℕ) (r : Totals) : Type 0 where
  pub core : (g : Graph) → Tabled g c.extent.order c.extent.size w → Core g c.x c.y (group_of s') (group_of t')
  pub counted : (g : Graph) → Tabled g c.extent.order c.extent.size w → r ≡ totals g (group_of s') (group_of t')
  pub sources : GroupIn c.extent.order s s'
  pub targets : GroupIn c.extent.order t t'
  pub kept : Kept c.extent.order c.extent.size w w'
