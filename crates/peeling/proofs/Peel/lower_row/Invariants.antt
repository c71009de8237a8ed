-- `lower_row` lowers each place of the row of a place that the head has passed. The loop's invariant: the drop has come as far as the entries
-- passed.
use Rattle.peeling.specs.Peeling.{need_of}
use Rattle.peeling.proofs.Passes.{Passing}
use Rattle.peeling.proofs.Peel.lower_row.Given as goal

abbrev pub invariant-loop-k : goal.invariant-loop-k
invariant-loop-k l =
    Passing l.scope.extent.order l.scope.extent.size (need_of l.scope) l.initial.work l.self l.place l.initial.k l.end l.work l.count l.k
