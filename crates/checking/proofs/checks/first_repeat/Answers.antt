-- `first_repeat` looks for the repeat in the edges' own part of the table.
use Rattle.std.proofs.Common.{arith}
use Rattle.graph.proofs.Order.{precedes-strict}
use Rattle.graph.proofs.Sorting.{sorted-cut}
use Rattle.network.specs.File.{graph_of}
use Rattle.checking.proofs.checks.first_repeat.Goals as goal

pub least_repeat-least-requires-clause-sorted : goal.least_repeat-least-requires-clause-sorted
least_repeat-least-requires-clause-sorted c =
    sorted-cut _ _ (precedes-strict (graph_of c.args.file.now.bytes.now)) (omega (arith, c.size_of-size.ensures)) c.order_edges.ensures.sorted
