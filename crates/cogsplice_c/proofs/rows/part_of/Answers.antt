-- A row whose place is told is not refused.
use Rattle.std.proofs.Common.{ap, sym}
use Rattle.network.specs.File.{number_told}
use Rattle.adjacency.proofs.Refusals.{row-accepted}
use Rattle.cogsplice_c.proofs.rows.part_of.Goals as goal

pub returns-in-Ok : goal.returns-in-Ok
returns-in-Ok c =
    let (row, start, next) = c.in-Ok.ensures.range in
    record {
      refusal = ap number_told (sym (row-accepted _ _ _ row));
      refused = λ h. absurd (h (row-accepted _ _ _ row));
      start = λ h. start;
      length = λ h. rw (start, next);
    }
