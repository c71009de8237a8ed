-- The vertices that the edges of one vertex lead to.
use Rattle.std.specs.Prelude.{ℕ, Bool, cond, ◌&&◌, List, [], ◌∷◌, eqb, ltb}
use Rattle.graph.specs.Range.{first, flat}
use Rattle.graph.specs.Graph.{Graph}

-- edge e goes from u to v
abbrev pub joins : Graph → ℕ → ℕ → ℕ → Bool
joins g u v e = eqb (g.source e) u && eqb (g.target e) v

-- some edge goes from u to v, whatever its weight
abbrev pub adjacent : Graph → ℕ → ℕ → Bool
adjacent g u v = ltb (first (joins g u v) g.size) g.size

-- the vertices v with an edge from u to v, ascending
unfoldable pub neighbours : Graph → ℕ → List ℕ
neighbours g u = flat (λ v. cond (adjacent g u v) (v ∷ []) []) g.order
