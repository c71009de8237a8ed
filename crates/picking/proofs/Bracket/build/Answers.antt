use Rattle.std.proofs.Common.{arith}
use Rattle.picking.proofs.Tables.{building-begin, building-next}
use Rattle.picking.proofs.Bracket.build.Goals as goal

pub loop-k-init : goal.loop-k-init
loop-k-init c = building-begin c.requires

pub loop-k-preserved : goal.loop-k-preserved
loop-k-preserved c = building-next (omega arith) c.play.ensures c.loop-k.invariant
