-- `edges_between` adds up the weights of the edges from one group to the other. The invariant: `total` is the sum of those before e.
use Rattle.std.proofs.Common.{◌≡◌}
use Rattle.network.specs.File.{graph_of}
use Rattle.network.specs.Groups.{group_of}
use Rattle.calls.proofs.Counted.{weighs}
use Rattle.graph.specs.Range.{sum}
use Rattle.calls.proofs.counts.edges_between.Given as goal

abbrev pub invariant-loop-e : goal.invariant-loop-e
invariant-loop-e l = l.total ≡ sum (weighs (graph_of l.file.bytes.now) (group_of l.s) (group_of l.t)) l.e
