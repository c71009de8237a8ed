-- `raise` puts a place past the tail, where it is no part of the queue, and counts it where it falls short of the new numbers.
use Rattle.std.proofs.Common.{arith}
use Rattle.graph.proofs.Tests.{if-le}
use Rattle.network.proofs.Groups.{number-of_test}
use Rattle.peeling.proofs.Queues.{queue-most}
use Rattle.peeling.proofs.Pushes.{put_keeps}
use Rattle.raising.proofs.Raises.{raised-next}
use Rattle.raising.proofs.needs.raise.Goals as goal

pub put-requires-clause-in_queue : goal.put-requires-clause-in_queue
put-requires-clause-in_queue c = queue-most c.requires.peeling.peeling.queued.queue

pub overflow_add-start : goal.overflow_add-start
overflow_add-start c = omega (arith, queue-most c.requires.peeling.peeling.queued.queue, c.degrees_at.ensures, c.degrees_at.type_inv)

pub overflow_add-result : goal.overflow_add-result
overflow_add-result c =
    let one = if-le c.is_between.result 1 in
    omega (arith, queue-most c.requires.peeling.peeling.queued.queue, c.degrees_at.ensures, c.degrees_at.type_inv, c.from.ensures, number-of_test c.is_between.result, one)

pub returns-clause-peeling : goal.returns-clause-peeling
returns-clause-peeling c =
    rw (c.put.ensures, c.from.ensures) (raised-next c.args.step c.requires.side c.requires.on_side c.requires.peeling (rw c.degrees_at.ensures at c.from-degree.ensures) _ (cc))

pub returns-clause-kept : goal.returns-clause-kept
returns-clause-kept c = rw c.put.ensures (put_keeps c.requires.peeling.peeling.queued _ _)
