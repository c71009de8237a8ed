-- `is_group` asks of each byte whether it is 0 or 1. The invariant: the answer so far is that of the bytes before this one.
use Rattle.std.proofs.Common.{◌≡◌}
use Rattle.network.specs.Groups.{is_group}
use Rattle.checking.proofs.groups.is_group.Given as goal

abbrev pub invariant-loop-byte : goal.invariant-loop-byte
invariant-loop-byte l = l.fits ≡ is_group l.byte-index l.group
