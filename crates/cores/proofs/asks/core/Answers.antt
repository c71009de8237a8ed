-- `core` is refused on the way in, or writes the groups that the peel leaves, and keeps them inside A and B.
use Rattle.std.proofs.Common.{rules, [], ◌∷◌, refl, sym, ap, ◌∙◌, arith}
use Rattle.network.specs.Calls as call
use Rattle.network.proofs.Answers.{call-ok, call-handed}
use Rattle.cores.proofs.WayIn.{core-entry, entry-refused}
use Rattle.cores.proofs.Copying.{kept-cut}
use Rattle.cores.proofs.Told.{core-told}
use Rattle.cores.proofs.asks.core.Goals as goal

pub returns-in_err-extent : goal.returns-in_err-extent
returns-in_err-extent c =
    let a = c.args in
    let (e, k) = entry-refused _ _ _ c.in_err-extent.ensures in
    call-handed {q = c.in_err-extent.field-0.0} _ (search rules) (search rules) (sym (core-entry _ _ _ _ _ _) ∙ e) (ap (λ w. a.s.now ∷ a.t.now ∷ w ∷ []) k)

pub returns : goal.returns
returns c =
    let (e, r) = call-ok c.in_ok-extent.ensures in
    let sources = kept-cut c.args.a.now (omega arith) (omega (arith, r.order, r.long)) c.keep_inside.ensures in
    let targets = kept-cut c.args.b.now (omega arith) (omega (arith, r.order, r.long)) c.keep_inside-2.ensures in
    call.accepted _ (sym (core-entry _ _ _ _ _ _) ∙ e) refl
    (core-told _ r (rw c.of-scope.ensures at c.core_in-totals.ensures) c.from.ensures c.from-2.ensures sources targets)
