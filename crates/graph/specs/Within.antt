-- Two groups A and B as a graph of its own: its cores, cut down to A and B, are those inside A and B.
use Rattle.std.specs.Prelude.{ℕ, Bool, ◌&&◌}
use Rattle.graph.specs.Graph.{Graph, Group}
use Rattle.graph.specs.Layers.{keep}

-- edge e goes from A to B
abbrev pub between : Graph → Group → Group → ℕ → Bool
between g A B e = A (g.source e) && B (g.target e)

-- the graph in which only the edges from A to B count
abbrev pub within : Graph → Group → Group → Graph
within g A B = keep g (between g A B)

-- the vertices of S that are in A
abbrev pub cut : Group → Group → Group
cut S A u = S u && A u
