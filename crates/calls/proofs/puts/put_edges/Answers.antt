-- Each edge of the list is stored by its two ends and its kind.
use Rattle.std.proofs.Common.{ℕ, ◌∙◌, get_or}
use Rattle.graph.specs.Listed.{listed}
use Rattle.network.specs.Bytes.{link_bytes}
use Rattle.network.specs.File.{stride, kind_at, graph_of}
use Rattle.network.proofs.Versions.{link-length}
use Rattle.network.proofs.Puts.{sets-runs}
use Rattle.calls.proofs.puts.put_edges.Goals as goal

pub loop-i-preserved : goal.loop-i-preserved
loop-i-preserved c =
    let f = c.args.file.now.bytes.now in
    let list = c.args.list.now in
    let kind : ℕ → ℕ = λ i. kind_at f (get_or list i 0) in
    let g = listed (graph_of f) list in
    c.put_link.ensures
    ∙ rw (c.link_at.ensures, c.stride-bytes.ensures.0, c.from.ensures, c.end_at-source.ensures.0, c.end_at-target.ensures.0, c.kind_at-kind.ensures, c.from-edge.ensures, c.loop-i.invariant)
    (sets-runs (link_bytes c.args.version kind g) (stride c.args.version) (link-length c.args.version kind g) c.args.out.now c.loop-i.i)
