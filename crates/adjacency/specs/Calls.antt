-- What the index and the row promise.
use Rattle.std.specs.Prelude.{ℕ, suc, ◌+◌, ◌-◌, List, [], ◌∷◌, ◌++◌, ◌≢◌, ◌≡◌, ⊤, None, Result, length, get_or, take, drop}
use Rattle.graph.specs.Graph.{Graph, reverse}
use Rattle.graph.specs.Order.{starts, rows}
use Rattle.network.specs.declared.Refusal.{Refusal}
use Rattle.network.specs.declared.Side.{Side}
use Rattle.network.specs.declared.Side.TheVariants.{Source, Target}
use Rattle.network.specs.File.{graph_of}
use Rattle.network.specs.Refusals.{index_refusal, row_refusal}
use Rattle.network.specs.Calls.{Call}

-- 01: the starts and the rows of one side stand in the first entries of the two tables, and the later ones are as they were
pub record SideIn (g : Graph) (s s' r r' : List ℕ) : Type 0 where
  pub start : s' ≡ starts g ++ drop (suc g.order) s
  pub row : r' ≡ rows g ++ drop g.size r

-- 01: the index: out-starts and out-rows, and in-starts and in-rows, which are the same with the sides exchanged
abbrev pub IndexCall : (f os os' or or' is is' ir ir' : List ℕ) → Result ⊤ Refusal → Type 0
IndexCall f os os' or or' is is' ir ir' =
    Call (index_refusal f (length os) (length or) (length is) (length ir))
    (os ∷ or ∷ is ∷ ir ∷ []) (os' ∷ or' ∷ is' ∷ ir' ∷ [])
    (λ v. SideIn (graph_of f) os os' or or' × SideIn (reverse (graph_of f)) is is' ir ir')

-- 01: of an out table and an in table, the one of a side: a voucher's links go out, a vouched member's come in
abbrev pub by_side : Side → List ℕ → List ℕ → List ℕ
by_side Source out inn = out
by_side Target out inn = inn

-- 01: the row of u in one side's starts and rows: from the start of u to the next start, or the empty part where it is refused
pub record RowCall (starts rows : List ℕ) (u : ℕ) (r : List ℕ) : Type 0 where
  pub refused : row_refusal starts rows u ≢ None → r ≡ []
  pub accepted : row_refusal starts rows u ≡ None → r ≡ take (get_or starts (u + 1) 0 - get_or starts u 0) (drop (get_or starts u 0) rows)
