-- The links present are copied to the name's.
use Rattle.journal.proofs.Turning.{turned-save}
use Rattle.journal.proofs.steps.save.Goals as goal

pub returns : goal.returns
returns c n s h = rw c.save.ensures (turned-save n s _ _ h _ _ c.copy_out.ensures)
