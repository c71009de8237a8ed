-- Layers in the making: some are made, and the links in no layer yet are still to be searched.
use Rattle.std.specs.Prelude.{ℕ, ◌<◌, ◌≤◌, ◌&&◌, cond, eqb}
use Rattle.graph.specs.Graph.{Graph, Group}
use Rattle.graph.specs.Layers.{keep, joins, Layer}

-- the links in no layer yet
abbrev pub unlayered : Graph → (ℕ → ℕ) → Graph
unlayered g L = keep g (λ e. eqb (L e) 0)

-- the first k layers are made, and no edge is in a later one
pub record Layered (g : Graph) (L : ℕ → ℕ) (k : ℕ) : Type 0 where
  pub most : (e : ℕ) → e < g.size → L e ≤ k
  pub layer : (l : ℕ) → 1 ≤ l → l ≤ k → Layer g L l

-- the links from S to T that are in no layer yet put into layer l
abbrev pub next : Graph → (ℕ → ℕ) → ℕ → Group → Group → ℕ → ℕ
next g L l S T e = cond (eqb (L e) 0 && joins g S T e) l (L e)
