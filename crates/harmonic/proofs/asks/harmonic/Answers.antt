-- `harmonic` is refused on the way in, or finds among the links that are laid into the work table, which are all.
use Rattle.std.proofs.Common.{rules, sym, ◌∙◌}
use Rattle.network.proofs.Answers.{call-ok}
use Rattle.cores.proofs.WayIn.{core-entry, entry-refused}
use Rattle.cores.proofs.Everyone.{ones-refusal}
use Rattle.harmonic.proofs.HarmonicCalls.{harmonic-refused, harmonic-done}
use Rattle.harmonic.proofs.asks.harmonic.Goals as goal

pub returns-in_err-extent : goal.returns-in_err-extent
returns-in_err-extent c =
    let (e, k) = entry-refused _ _ _ c.in_err-extent.ensures in
    harmonic-refused {q = c.in_err-extent.field-0.0} _ (search rules) (search rules) (sym (core-entry _ _ _ _ _ _ ∙ ones-refusal _ _ _ _) ∙ e) k

pub returns : goal.returns
returns c =
    let (e, r) = call-ok c.in_ok-extent.ensures in
    harmonic-done (sym (core-entry _ _ _ _ _ _ ∙ ones-refusal _ _ _ _) ∙ e) r c.harmonic_in.ensures
