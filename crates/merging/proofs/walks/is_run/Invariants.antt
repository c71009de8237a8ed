-- `is_run` compares one edge after the other. The invariant: where the answer so far is yes, the first i are one link each.
use Rattle.std.proofs.Common.{◌≡◌, true}
use Rattle.network.specs.File.{graph_of}
use Rattle.merging.specs.Merging.{Run}
use Rattle.merging.proofs.walks.is_run.Given as goal

abbrev pub invariant-loop-i : goal.invariant-loop-i
invariant-loop-i g l = l.same ≡ true → Run (graph_of l.pair.first.bytes.now) (graph_of l.pair.second.bytes.now) l.walk.first l.walk.second l.i
