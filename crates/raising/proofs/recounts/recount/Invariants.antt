-- `recount` counts the degrees of the other side anew. The loop's invariant: the other side is counted by the places passed, from the table with
-- that side cleared.
use Rattle.std.proofs.Common.{◌-◌}
use Rattle.peeling.specs.Recounts.{Recounted}
use Rattle.raising.proofs.recounts.recount.Given as goal

abbrev pub invariant-loop-place : goal.invariant-loop-place
invariant-loop-place l = Recounted l.scope.extent.order l.scope.extent.size l.first l.least (l.place - l.first) l.initial.work l.work
