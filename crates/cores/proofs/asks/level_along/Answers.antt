-- `level_along` is refused on the way in, or answers the level of a climb from 1.
use Rattle.std.proofs.Common.{rules, [], ◌∷◌, refl, ap}
use Rattle.network.specs.Calls as call
use Rattle.network.proofs.Answers.{call-ok, call-handed}
use Rattle.climbing.proofs.Levels.{climbed-level}
use Rattle.cores.proofs.WayIn.{entry-refused, entered-kept}
use Rattle.cores.proofs.asks.level_along.Goals as goal

pub returns-in_err-extent : goal.returns-in_err-extent
returns-in_err-extent c =
    let (e, k) = entry-refused _ _ _ c.in_err-extent.ensures in
    call-handed {q = c.in_err-extent.field-0.0} _ (search rules) (search rules) e (ap (λ w. w ∷ []) k)

pub returns : goal.returns
returns c =
    let (e, r) = call-ok c.in_ok-extent.ensures in
    call.accepted _ e refl (climbed-level _ _ 1 c.climb.ensures (λ h. h) r.tabled, entered-kept r c.climb.ensures.kept)
