use Rattle.std.proofs.Common.{sym, ◌∙◌, arith}
use Rattle.graph.specs.Within.{between}
use Rattle.network.specs.File.{graph_of}
use Rattle.network.specs.Groups.{group_of}
use Rattle.network.proofs.Groups.{number-of_test}
use Rattle.filling.proofs.Times.{listing-next, keeps-some}
use Rattle.filling.proofs.listings.pick_edges.Goals as goal

pub loop-edge-preserved : goal.loop-edge-preserved
loop-edge-preserved c =
    let g = graph_of c.args.links.now.file.bytes.now in
    let e = c.loop-edge.edge in
    listing-next c.is_between.result c.loop-edge.invariant (omega arith) c.requires
    (keeps-some (between g (group_of c.args.links.now.a.now) (group_of c.args.links.now.b.now) e) (g.weight e) ∙ sym c.is_between.ensures) (c.from-count.ensures ∙ number-of_test _)
