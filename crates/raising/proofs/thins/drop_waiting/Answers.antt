use Rattle.std.proofs.Common.{arith}
use Rattle.peeling.proofs.Queues.{queue-most}
use Rattle.raising.proofs.Thinning.{waiting-enough, pass-one}
use Rattle.raising.proofs.thins.drop_waiting.Goals as goal

pub pass_first-peel-requires-clause-in_queue : goal.pass_first-peel-requires-clause-in_queue
pass_first-peel-requires-clause-in_queue c = omega (arith, queue-most c.requires.peeling.queued.queue)

pub pass_first-peel-requires-clause-in_total : goal.pass_first-peel-requires-clause-in_total
pass_first-peel-requires-clause-in_total c = waiting-enough c.requires.one_sided.1 c.requires.peeling c.loop-peel.invariant c.loop-peel-test.true

pub loop-peel-preserved : goal.loop-peel-preserved
loop-peel-preserved c =
    rw c.pass_first-peel.ensures (pass-one c.requires.one_sided.1 c.requires.peeling c.loop-peel.invariant c.loop-peel-test.true)
