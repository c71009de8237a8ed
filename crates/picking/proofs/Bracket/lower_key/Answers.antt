use Rattle.std.proofs.Common.{refl, arith}
use Rattle.picking.proofs.Rises.{rising-begin, rising-next, rising-stop, rising-end}
use Rattle.picking.proofs.Bracket.lower_key.Goals as goal

pub loop-k-init : goal.loop-k-init
loop-k-init c = rw c.from.ensures (rising-begin c.args.place c.args.key c.requires.place_in c.requires.tree c.requires.not_greater)

pub loop-k-preserved : goal.loop-k-preserved
loop-k-preserved c =
    let other = rw c.sibling.ensures at c.rank_at.ensures in
    rising-next c.loop-k.invariant (omega arith) (omega arith) refl

pub returns-then-rank_at-own-clause-tree : goal.returns-then-rank_at-own-clause-tree
returns-then-rank_at-own-clause-tree c =
    let other = rw c.sibling.ensures at c.rank_at.ensures in
    rising-stop c.loop-k.invariant (omega arith) (omega arith)

pub returns-clause-tree : goal.returns-clause-tree
returns-clause-tree c = rising-end (omega arith) c.loop-k.invariant
