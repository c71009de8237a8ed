-- `lower_row` lowers each place of a row. The loop's invariant: each place that is left has lost the entries passed.
use Rattle.harmonic.proofs.Lowering.{Lowering}
use Rattle.harmonic.proofs.drops.lower_row.Given as goal

abbrev pub invariant-loop-k : goal.invariant-loop-k
invariant-loop-k l = Lowering l.extent.order l.extent.size l.initial.work l.place l.start l.initial.k l.work l.k
