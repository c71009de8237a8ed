use Rattle.std.proofs.Common.{◌≡◌, ◌-◌, arith}
use Rattle.graph.proofs.Within.{closed-within}
use Rattle.network.specs.File.{graph_of}
use Rattle.network.specs.Groups.{group_of}
use Rattle.layering.proofs.Makings.{turn-once, turn-next, turn-few, turn-ends}
use Rattle.layering.proofs.takes.layer_links.Goals as goal

pub take_layer-left-requires-clause-made : goal.take_layer-left-requires-clause-made
take_layer-left-requires-clause-made c = omega (arith, turn-few c.loop-left.invariant.turn (closed-within c.args.links.now.file.accepted.sound.closed (group_of c.args.links.now.a.now) (group_of c.args.links.now.b.now)))

pub take_layer-left-requires-clause-once : goal.take_layer-left-requires-clause-once
take_layer-left-requires-clause-once c =
    turn-once (graph_of c.args.links.now.file.bytes.now) _ c.args.links.now.file.accepted.sound.header.size-most c.loop-left.invariant.turn {s = c.loop-left.left - 0} (omega arith)

pub overflow_add-made : goal.overflow_add-made
overflow_add-made c =
    omega (arith, turn-few (turn-next (graph_of c.args.links.now.file.bytes.now) _ c.args.links.now.file.accepted.sound.header.size-most c.loop-left.invariant.turn {s = c.loop-left.left - 0} (omega arith) c.take_layer-left.ensures.one_more) (closed-within c.args.links.now.file.accepted.sound.closed (group_of c.args.links.now.a.now) (group_of c.args.links.now.b.now)))

pub loop-left-smaller : goal.loop-left-smaller
loop-left-smaller c =
    omega (arith, turn-few (turn-next (graph_of c.args.links.now.file.bytes.now) _ c.args.links.now.file.accepted.sound.header.size-most c.loop-left.invariant.turn {s = c.loop-left.left - 0} (omega arith) c.take_layer-left.ensures.one_more) (closed-within c.args.links.now.file.accepted.sound.closed (group_of c.args.links.now.a.now) (group_of c.args.links.now.b.now)))

pub loop-left-preserved : goal.loop-left-preserved
loop-left-preserved c = record { turn = turn-next (graph_of c.args.links.now.file.bytes.now) _ c.args.links.now.file.accepted.sound.header.size-most c.loop-left.invariant.turn {s = c.loop-left.left - 0} (omega arith) c.take_layer-left.ensures.one_more; work = omega arith }

pub returns-clause-layering : goal.returns-clause-layering
returns-clause-layering c =
    let none : c.loop-left.left ≡ 0 = omega arith in
    turn-ends (closed-within c.args.links.now.file.accepted.sound.closed (group_of c.args.links.now.a.now) (group_of c.args.links.now.b.now)) (rw none at c.loop-left.invariant.turn)
