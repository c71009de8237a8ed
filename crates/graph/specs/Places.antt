-- Places: each vertex stands twice, as a source and as a target, so that both groups of a pair are one set of places. Place u, below the order, is
-- vertex u as a source (01: voucher), and place order + v is vertex v as a target (01: vouched).
use Rattle.std.specs.Prelude.{ℕ, ◌+◌, ◌-◌, cond, ltb}
use Rattle.graph.specs.Graph.{Graph, Group, out_degree, in_degree}

-- the vertices that stand in R as targets; those that stand in it as sources are R itself
abbrev pub targets : Graph → Group → Group
targets g R v = R (g.order + v)

-- the links of place p to places of R, by their weights: as a source into the targets of R, as a target from its sources
unfoldable pub links_to : Graph → Group → ℕ → ℕ
links_to g R p = cond (ltb p g.order) (out_degree g (targets g R) p) (in_degree g R (p - g.order))
