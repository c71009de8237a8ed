-- `add_weights` adds the weight of each entry to its place. The loop's invariant: the entries passed are added.
use Rattle.peeling.proofs.Weighing.{Adding}
use Rattle.peeling.proofs.weights.add_weights.Given as goal

abbrev pub invariant-loop-entry : goal.invariant-loop-entry
invariant-loop-entry l = Adding l.fn.extent.order l.work l.fn.degrees l.degrees l.entry-index
