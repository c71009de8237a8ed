-- Each way out is a law of kind 1: 10, 17, or a link less.
use Rattle.std.proofs.Common.{rules, sym, ◌∙◌, arith}
use Rattle.journal.proofs.Numbers.{withdraw-outside, told-handed}
use Rattle.journal.proofs.Turning.{turned-refused, turned-absent, turned-withdraw, degree-most}
use Rattle.journal.proofs.steps.withdraw.Goals as goal

pub returns-in_err-link : goal.returns-in_err-link
returns-in_err-link c s h =
    let (member, out) = c.in_err-link.ensures.refused in
    rw (told-handed c.from_residual.result c.in_err-link.field-0.0 (search rules) (search rules), member) (turned-refused _ s _ _ _ 10 (withdraw-outside _ s _ _ out) (omega arith) h)

pub returns-then-not-is_at : goal.returns-then-not-is_at
returns-then-not-is_at c s h =
    let (e, u, v) = c.in_ok-link.ensures.link in
    turned-absent _ s _ _ h _ _ _ u v (rw e at c.place-at.ensures) (rw e at (sym c.is_at.ensures ∙ c.if-not-is_at.true))

pub degree-given-requires-clause-few : goal.degree-given-requires-clause-few
degree-given-requires-clause-few c = let (e, u, v) = c.in_ok-link.ensures.link in let (s, h) = c.requires.holds in rw e (degree-most _ s _ _ h _ u)

pub returns : goal.returns
returns c s h =
    let (e, u, v) = c.in_ok-link.ensures.link in
    rw c.withdraw.ensures
    (turned-withdraw _ s _ _ h _ _ _ u v (rw e at c.place-at.ensures) _ (rw e at c.degree-given.ensures) _ (rw e at (sym c.is_at.ensures ∙ c.if-not-is_at.false))
    c.remove.auto.set c.remove.ensures)
