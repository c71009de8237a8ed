-- `gain_row` gives each place of a row the edge that the row has more. The loop's invariant: each place has gained the weight of its entries among
-- those passed.
use Rattle.raising.proofs.Gains.{Gaining}
use Rattle.raising.proofs.recounts.gain_row.Given as goal

abbrev pub invariant-loop-k : goal.invariant-loop-k
invariant-loop-k l = Gaining l.scope.extent.order l.scope.extent.size l.initial.work l.place l.initial.k l.end l.work l.k
