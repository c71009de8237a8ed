-- Each way out is a law of kind 0: 10, 16, the number of the place, or a link more.
use Rattle.std.proofs.Common.{rules, sym, ◌∙◌, arith}
use Rattle.journal.proofs.Numbers.{add-outside, told-handed, number-some}
use Rattle.journal.proofs.Turning.{turned-refused, turned-present, turned-unplaced, turned-add, degree-most, due-some}
use Rattle.journal.proofs.steps.add.Goals as goal

pub returns-in_err-link : goal.returns-in_err-link
returns-in_err-link c s h =
    let (member, out) = c.in_err-link.ensures.refused in
    rw (told-handed c.from_residual.result c.in_err-link.field-0.0 (search rules) (search rules), member) (turned-refused _ s _ _ _ 10 (add-outside _ s _ _ out) (omega arith) h)

pub returns-then-is_at : goal.returns-then-is_at
returns-then-is_at c s h =
    let (e, u, v) = c.in_ok-link.ensures.link in
    turned-present _ s _ _ h _ _ _ u v (rw e at c.place-at.ensures) (rw e at (sym c.is_at.ensures ∙ c.if-is_at.true))

pub degree-given-requires-clause-few : goal.degree-given-requires-clause-few
degree-given-requires-clause-few c = let (e, u, v) = c.in_ok-link.ensures.link in let (s, h) = c.requires.holds in rw e (degree-most _ s _ _ h _ u)

pub returns-in_err-check_place : goal.returns-in_err-check_place
returns-in_err-check_place c s h =
    let (e, u, v) = c.in_ok-link.ensures.link in
    let q = c.in_err-check_place.field-0.0 in
    rw (told-handed c.from_residual-in_err-check_place.result q (search rules) (search rules))
    (turned-unplaced _ s _ _ h _ _ _ u v (rw e at c.place-at.ensures) _ (rw e at c.degree-given.ensures) (rw e at (sym c.is_at.ensures ∙ c.if-is_at.false)) _
    c.in_err-check_place.ensures (number-some q))

pub add-requires-clause-due : goal.add-requires-clause-due
add-requires-clause-due c few =
    let (e, u, v) = c.in_ok-link.ensures.link in
    let (s, h) = c.requires.holds in
    due-some _ s _ _ h _ u (omega (arith, few, rw e at c.degree-given.ensures))

pub returns : goal.returns
returns c s h =
    let (e, u, v) = c.in_ok-link.ensures.link in
    rw c.add.ensures
    (turned-add _ s _ _ h _ _ _ u v (rw e at c.place-at.ensures) _ (rw e at c.degree-given.ensures) (rw e at (sym c.is_at.ensures ∙ c.if-is_at.false)) _
    c.check_place.ensures _ (search rules) c.insert.auto.set (rw e at c.insert.ensures))
