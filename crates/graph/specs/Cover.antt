-- The bipartite double cover: each vertex stands twice, as a source and as a target, so that both sides of a pair are one set of places.
use Rattle.std.specs.Prelude.{ℕ, ◌+◌, ◌-◌, ◌*◌, cond, eqb, ltb}
use Rattle.graph.specs.Graph.{Graph, Group, edges}

-- place u below the order is vertex u as a source, and order + v is vertex v as a target; an edge joins its two places
abbrev pub cover : Graph → Graph
cover g = record { order = 2 * g.order; size = g.size; source = g.source; target = λ e. g.order + g.target e; weight = g.weight }

-- the edges between places p and q
unfoldable pub joined : Graph → ℕ → ℕ → ℕ
joined g p q = edges (cover g) (λ r. eqb r p) (λ r. eqb r q) + edges (cover g) (λ r. eqb r q) (λ r. eqb r p)

-- the edges that place p needs among n vertices: x as a source, y as a target
abbrev pub need : ℕ → ℕ → ℕ → ℕ → ℕ
need n x y p = cond (ltb p n) x y

-- the places of a pair of groups
abbrev pub places : Graph → Group → Group → Group
places g S T p = cond (ltb p g.order) (S p) (T (p - g.order))
