-- A row whose place is told is not refused.
use Rattle.std.proofs.Common.{◌∙◌}
use Rattle.network.proofs.Answers.{err-told}
use Rattle.adjacency.proofs.Refusals.{row-accepted}
use Rattle.adjacency.proofs.rows.refusal_of.Goals as goal

pub returns : goal.returns
returns c = c.err.ensures.value ∙ err-told _ c.row_range.ensures.refused c.row_range.ensures.range (λ p r. row-accepted _ _ _ r.0)
