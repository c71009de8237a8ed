-- `is_everyone` asks of byte after byte. The invariant: where `everyone` holds, the members before this one are all in.
use Rattle.std.proofs.Common.{◌≡◌, true}
use Rattle.network.specs.Groups.{AllIn}
use Rattle.filling.proofs.listings.is_everyone.Given as goal

abbrev pub invariant-loop-byte : goal.invariant-loop-byte
invariant-loop-byte l = l.everyone ≡ true → AllIn l.byte-index l.group
