-- A malformed entry is refused.
use Rattle.journal.proofs.Turning.{turned-malformed}
use Rattle.journal.proofs.steps.follow.Goals as goal

pub returns-in-Malformed : goal.returns-in-Malformed
returns-in-Malformed c s h = rw c.in-Malformed.is (turned-malformed _ s _ _ h)
