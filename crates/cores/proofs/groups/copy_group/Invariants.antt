-- `copy_group` writes byte after byte. The invariant: the bytes before u are those of the group, the others as they were, and `count` is the number
-- of its members before u.
use Rattle.network.specs.Groups.{group_of}
use Rattle.cores.proofs.Copying.{Copying}
use Rattle.cores.proofs.groups.copy_group.Given as goal

abbrev pub invariant-loop-u : goal.invariant-loop-u
invariant-loop-u l = Copying (group_of l.from) l.initial.group l.group l.u l.count
