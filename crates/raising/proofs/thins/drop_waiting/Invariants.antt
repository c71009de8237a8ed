-- `drop_waiting` drops every place that waits, but for its row. The loop's invariant: the places up to the head are passed. The measure is the
-- number of places that wait.
use Rattle.std.proofs.Common.{◌-◌}
use Rattle.peeling.specs.Recounts.{Passed}
use Rattle.raising.proofs.thins.drop_waiting.Given as goal

abbrev pub invariant-loop-peel : goal.invariant-loop-peel
invariant-loop-peel l = Passed l.scope.extent.order l.scope.extent.size l.work l.initial.peel l.peel

abbrev pub decreases-loop-peel : goal.decreases-loop-peel
decreases-loop-peel l = l.peel.tail - l.peel.head
