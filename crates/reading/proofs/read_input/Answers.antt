use Rattle.reading.proofs.Giving.{given_again, given_more}
use Rattle.reading.proofs.read_input.Goals as goal
use Rattle.reading.proofs.read_input.Goals.{in-Ok, in-Err+else-ne}

pub loop-preserved : goal.loop-preserved
loop-preserved g c =
    elim c.match-read.branch [
      | in-Ok w ↦ rw w.done-is (given_more c.loop.invariant w.in-Ok.more c.read.new.buf _ w.in-Ok.ensures.bound.0 w.in-Ok.ensures.bytes.0)
      | in-Err+else-ne w ↦ rw w.done-is (given_again c.loop.invariant _ w.in-Err.ensures.bytes)
    ]
