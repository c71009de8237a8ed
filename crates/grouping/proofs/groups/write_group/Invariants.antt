-- `write_group` writes the group of those whose degree is enough. The loop's invariant: the bytes before u are those of the group.
use Rattle.std.proofs.Common.{◌≡◌, ℕ, ◌<◌, get_or}
use Rattle.graph.specs.Range.{if}
use Rattle.grouping.specs.Groups.{at_least}
use Rattle.grouping.proofs.groups.write_group.Given as goal

abbrev pub invariant-loop-u : goal.invariant-loop-u
invariant-loop-u l = (k : ℕ) → k < l.u → get_or l.byte-items k 0 ≡ if (at_least l.work l.at l.least k) 1
