-- `raise_blocks` pushes every place of one side that falls short of the new numbers, block after block. The loop's invariant: the places passed need the
-- new numbers, the others the old ones, and the peel goes by these.
use Rattle.std.proofs.Common.{◌≡◌, ◌-◌, ◌≤◌}
use Rattle.peeling.specs.Peeling.{Kept}
use Rattle.raising.specs.Steps.{Raising}
use Rattle.raising.proofs.needs.raise_blocks.Given as goal

abbrev pub invariant-loop-place : goal.invariant-loop-place
invariant-loop-place l =
    record {
      within : (l.first ≤ l.place) × (l.place ≤ l.end);
      peeling : Raising l.step l.place l.work l.peel;
      head : l.peel.head ≡ l.initial.peel.head;
      kept : Kept l.step.scope.extent.order l.step.scope.extent.size l.initial.work l.work;
    }

abbrev pub decreases-loop-place : goal.decreases-loop-place
decreases-loop-place l = l.end - l.place
