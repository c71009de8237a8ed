-- `try_block` asks for more of one side or the other until the core is empty. The loop's invariant: the block is tried so far that its rows or
-- columns from `fixed` on are left, and the peel has come to its end for what is asked there. The measure is what is left of both numbers.
use Rattle.searching.proofs.Corners.{Cornered, corner_left}
use Rattle.searching.proofs.blocks.try_block.Given as goal

abbrev pub invariant-loop-extent : goal.invariant-loop-extent
invariant-loop-extent l = Cornered l.extent l.line.side l.line.fixed l.fn.start l.fn.work l.work l.best l.fixed l.number l.peel

abbrev pub decreases-loop-extent : goal.decreases-loop-extent
decreases-loop-extent l = corner_left l.line.fixed l.fixed l.number
