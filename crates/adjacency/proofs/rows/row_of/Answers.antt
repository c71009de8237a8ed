-- A row whose place is told is not refused, and the part is that place.
use Rattle.adjacency.proofs.Refusals.{row-accepted}
use Rattle.adjacency.proofs.rows.row_of.Goals as goal

pub returns-in-Ok : goal.returns-in-Ok
returns-in-Ok c =
    let (row, start, next) = c.in-Ok.ensures.range in
    record { refused = λ h. absurd (h (row-accepted _ _ _ row)); accepted = λ h. rw (start, next) }
