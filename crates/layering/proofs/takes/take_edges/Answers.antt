use Rattle.std.proofs.Common.{◌≡◌, get_or, refl, sym, ◌∙◌, arith}
use Rattle.graph.specs.Layers.{joins}
use Rattle.network.specs.File.{graph_of}
use Rattle.network.specs.Groups.{group_of}
use Rattle.layering.proofs.Times.{taken-begins, taken_next}
use Rattle.layering.proofs.takes.take_edges.Goals as goal
use Rattle.layering.proofs.takes.take_edges.Goals.{then-is_between, else-is_between}

pub loop-edge-init : goal.loop-edge-init
loop-edge-init c = taken-begins _ _

pub loop-edge-preserved : goal.loop-edge-preserved
loop-edge-preserved c =
    let joined : c.is_between.result ≡ joins (graph_of c.args.list.now.file.bytes.now) (group_of c.args.s.now) (group_of c.args.t.now) (get_or c.args.list.now.edges.now c.loop-edge.edge-index 0) =
    rw c.from-edge.ensures at c.is_between.ensures in
    taken_next c.args.list.now.edges.now c.loop-edge.invariant (omega (arith, c.args.list.now.lists c.loop-edge.edge-index c.loop-edge-test.true))
    (elim c.if-is_between.branch [
      | then-is_between w ↦ w.layers-is ∙ rw (c.from-edge.ensures, sym joined ∙ w.if-is_between.true) refl
      | else-is_between w ↦ w.layers-is ∙ rw (sym joined ∙ w.if-is_between.false) refl
    ])
