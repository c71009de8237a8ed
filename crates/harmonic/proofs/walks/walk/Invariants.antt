-- `walk` drops all places, and keeps the best state. The loop's invariant: `Going`, the table, the state and the best are those of so many drops.
-- The measure is the number of places left.
use Rattle.std.proofs.Common.{◌+◌}
use Rattle.harmonic.proofs.Walking.{Going}
use Rattle.harmonic.proofs.walks.walk.Given as goal

abbrev pub invariant-loop-place : goal.invariant-loop-place
invariant-loop-place l = Going l.extent.order l.extent.size l.initial.work l.work l.state l.best

abbrev pub decreases-loop-place : goal.decreases-loop-place
decreases-loop-place l = l.state.sources + l.state.targets
