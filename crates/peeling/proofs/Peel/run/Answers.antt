use Rattle.std.proofs.Common.{arith}
use Rattle.std.proofs.lemmas.Bool.Decides.{nat_tests}
use Rattle.peeling.proofs.Queues.{queue-most}
use Rattle.peeling.proofs.Peel.run.Goals as goal

pub loop-scope-smaller : goal.loop-scope-smaller
loop-scope-smaller c = grind (arith, nat_tests, queue-most c.loop-scope.invariant.peeling.queued.queue)
