-- `read_input` meets its contract. The loop's invariant: `done` bytes stand in the buffer, and they are what the reader gave. A turn adds what one
-- read gave, or nothing where a signal interrupted it.
use Rattle.reading.proofs.Giving.{Given}
use Rattle.reading.proofs.read_input.Given as goal

abbrev pub invariant-loop : goal.invariant-loop
invariant-loop g l = Given (g.R.Read.remaining l.fn.reader) (g.R.Read.remaining l.reader) l.done l.buffer
