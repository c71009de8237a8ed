-- A list of links, as a network.
use Rattle.std.specs.Prelude.{ℕ, List, ◌++◌, length}
use Rattle.graph.specs.Graph.{Graph}
use Rattle.network.specs.Bytes.{edge_bytes, kind_bytes}
use Rattle.linkset.specs.Tables.{Pairs, source_at, target_at}

-- the links, as a graph of n vertices
abbrev pub table_graph : ℕ → Pairs → Graph
table_graph n l = record { order = n; size = length l; source = source_at l; target = target_at l; weight = λ e. 1 }

-- the bytes of link e in version 1
abbrev pub pair_bytes : Pairs → ℕ → List ℕ
pair_bytes l e = edge_bytes (source_at l e) (target_at l e) ++ kind_bytes 1 0
