-- `drop_first` drops the place at the head of the queue: the head goes past it, the total falls by the place's degree, and the place's row is
-- passed.
use Rattle.std.proofs.Common.{arith}
use Rattle.peeling.proofs.Queues.{queue-most}
use Rattle.peeling.proofs.Losses.{first-enough, drop-begins}
use Rattle.peeling.proofs.Peel.drop_first.Goals as goal

pub first-place-requires-clause-in_queue : goal.first-place-requires-clause-in_queue
first-place-requires-clause-in_queue c = omega (arith, queue-most c.requires.peeling.queued.queue)

pub pass_first-requires-clause-in_queue : goal.pass_first-requires-clause-in_queue
pass_first-requires-clause-in_queue c = omega (arith, queue-most c.requires.peeling.queued.queue)

pub pass_first-requires-clause-in_total : goal.pass_first-requires-clause-in_total
pass_first-requires-clause-in_total c = first-enough c.requires.peeling c.requires.waits

pub lower_row-requires : goal.lower_row-requires
lower_row-requires c = rw c.pass_first.ensures (drop-begins c.requires.peeling c.requires.waits c.first-place.ensures)
