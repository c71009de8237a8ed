-- `pass_run` puts one edge after the other. The invariant: the first i are put.
use Rattle.merging.specs.Merging.{PutRun}
use Rattle.merging.proofs.walks.Walk.pass_run.Given as goal

abbrev pub invariant-loop-i : goal.invariant-loop-i
invariant-loop-i l = PutRun l.initial.list l.list l.self.both l.self.first l.i
