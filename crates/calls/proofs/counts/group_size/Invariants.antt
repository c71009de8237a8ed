-- `group_size` counts the vertices of a group. The invariant: `total` is the number of those before this one.
use Rattle.std.proofs.Common.{◌≡◌}
use Rattle.graph.specs.Range.{sum, if}
use Rattle.network.specs.Groups.{group_of}
use Rattle.calls.proofs.counts.group_size.Given as goal

abbrev pub invariant-loop-byte : goal.invariant-loop-byte
invariant-loop-byte l = l.total ≡ sum (λ k. if (group_of l.group k) 1) l.byte-index
