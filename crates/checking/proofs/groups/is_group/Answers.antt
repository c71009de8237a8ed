use Rattle.checking.proofs.Tested.{group-none, group-next}
use Rattle.checking.proofs.groups.is_group.Goals as goal

pub loop-byte-init : goal.loop-byte-init
loop-byte-init c = group-none c.args.group.now

pub loop-byte-preserved : goal.loop-byte-preserved
loop-byte-preserved c = group-next c.args.group.now c.loop-byte.byte-index c.loop-byte.invariant
