-- `put_edges` stores the edges of the list in its order. The invariant: the first i are stored.
use Rattle.std.proofs.Common.{◌≡◌, get_or}
use Rattle.std.proofs.lemmas.List.Edits.{sets}
use Rattle.graph.specs.Range.{flat}
use Rattle.graph.specs.Listed.{listed}
use Rattle.network.specs.Bytes.{link_bytes}
use Rattle.network.specs.File.{kind_at, graph_of}
use Rattle.calls.proofs.puts.put_edges.Given as goal

abbrev pub invariant-loop-i : goal.invariant-loop-i
invariant-loop-i l =
    let f = l.file.bytes.now in
    l.out ≡ sets l.initial.out 9 (flat (link_bytes l.version (λ i. kind_at f (get_or l.list i 0)) (listed (graph_of f) l.list)) l.i)
