-- `run` drops places until none is short. The loop's invariant: the peel goes by the scope's needs, and the rows are kept. The measure is the
-- number of places that the head has not passed.
use Rattle.std.proofs.Common.{◌-◌, ◌*◌}
use Rattle.peeling.specs.Peeling.{PeelBy, Kept}
use Rattle.peeling.proofs.Peel.run.Given as goal

abbrev pub invariant-loop-scope : goal.invariant-loop-scope
invariant-loop-scope l =
    record {
      peeling : PeelBy l.scope l.work l.peel;
      kept : Kept l.scope.extent.order l.scope.extent.size l.initial.work l.work;
    }

abbrev pub decreases-loop-scope : goal.decreases-loop-scope
decreases-loop-scope l = 2 * l.scope.extent.order - l.peel.head
