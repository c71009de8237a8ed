use Rattle.std.proofs.Common.{◌≡◌, sym, ◌∙◌, arith}
use Rattle.peeling.specs.Peeling.{need_of}
use Rattle.raising.specs.Steps.{next_of}
use Rattle.raising.proofs.Raises.{need-side, raise-skips}
use Rattle.raising.proofs.needs.raise_side.Goals as goal

pub returns-then-need-clause-peeling : goal.returns-then-need-clause-peeling
returns-then-need-clause-peeling c =
    let a = c.args in
    let s = c.requires.side in
    let still : need_of a.step.scope a.first ≡ need_of (next_of a.step) a.first = cc in
    raise-skips _ _ (omega arith) (λ p l h. need-side _ _ _ s l h ∙ still ∙ sym (need-side _ _ _ s l h)) c.requires.peeling
