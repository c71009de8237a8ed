-- 18 for a state never set; else the name's links are copied to those present.
use Rattle.journal.proofs.Turning.{turned-unset, turned-restore}
use Rattle.journal.proofs.steps.restore.Goals as goal

pub returns-in_default : goal.returns-in_default
returns-in_default c n s h = turned-unset n s _ _ h _ (rw c.index.ensures.same at c.index.ensures.small) (rw c.index.ensures.same at c.in_default.is)

pub returns : goal.returns
returns c n s h = rw c.restore.ensures (turned-restore n s _ _ h _ (rw c.index.ensures.same at c.index.ensures.small) _ (rw c.index.ensures.same at c.in-Some.is) _ c.copy_back.ensures)
