use Rattle.std.proofs.Common.{refl, arith}
use Rattle.picking.proofs.Climbs.{climbs-begin, climbs-next, climbs-end}
use Rattle.picking.proofs.Bracket.set_key.Goals as goal

pub loop-k-init : goal.loop-k-init
loop-k-init c = rw c.from.ensures (climbs-begin c.args.place c.args.key c.requires.place_in c.requires.tree)

pub loop-k-preserved : goal.loop-k-preserved
loop-k-preserved c =
    let other = rw c.sibling.ensures at c.rank_at-other.ensures in
    climbs-next c.loop-k.invariant (omega arith) (rw other at c.min-rank.ensures) refl

pub returns-clause-tree : goal.returns-clause-tree
returns-clause-tree c = climbs-end (omega arith) c.loop-k.invariant
