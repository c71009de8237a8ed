-- `raise_places` pushes every one of some places that falls short of the new numbers. The loop's invariant: the places passed need the new numbers, the
-- others the old ones, and the peel that goes by these has so many places more in the queue.
use Rattle.peeling.specs.Peeling.{Kept}
use Rattle.raising.specs.Steps.{RaisedBy}
use Rattle.raising.proofs.needs.raise_places.Given as goal

abbrev pub invariant-loop-place : goal.invariant-loop-place
invariant-loop-place l =
    record {
      raised : RaisedBy l.step l.first l.place l.work l.start l.count;
      kept : Kept l.step.scope.extent.order l.step.scope.extent.size l.initial.work l.work;
    }
