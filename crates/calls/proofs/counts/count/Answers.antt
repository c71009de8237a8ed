-- `count` refuses by the file, then a short table, then a byte that is neither 0 nor 1; else it counts.
use Rattle.std.proofs.Common.{rules, refl, sym, ◌∙◌, arith}
use mathlib.Core.Logic.{inl, inr}
use Rattle.network.specs.Calls as call
use Rattle.network.specs.File.{file_refusal}
use Rattle.network.specs.Refusals.{count_refusal}
use Rattle.network.proofs.Answers.{call-told, call-refused, or_else-told}
use Rattle.network.proofs.Groups.{groups_cut}
use Rattle.calls.proofs.Counted.{count-short, count-short-other, count-byte, count_none, totals-cut}
use Rattle.calls.proofs.counts.count.Goals as goal

pub returns-in_err-file : goal.returns-in_err-file
unfolding count_refusal
returns-in_err-file c = call-told _ (search rules) (or_else-told (file_refusal c.args.file.now) _ _ (search rules))

pub returns-then-s-n : goal.returns-then-s-n
returns-then-s-n c =
    rw (← c.in_ok-file.ensures.passed)
    (elim c.then-s-n.either [
      | inl short ↦ call-refused (count-short _ _ _ c.in_ok-file.file.accepted (omega (arith, short, c.order_of-n.ensures)))
      | inr (long, short) ↦ call-refused (count-short-other _ _ _ c.in_ok-file.file.accepted (omega (arith, short, c.order_of-n.ensures)))
    ])

pub returns-then-not-are_groups : goal.returns-then-not-are_groups
returns-then-not-are_groups c =
    rw (← c.in_ok-file.ensures.passed)
    (call-refused (count-byte _ _ _ c.in_ok-file.file.accepted (omega (arith, c.order_of-n.ensures)) (omega (arith, c.order_of-n.ensures))
    (rw (← c.order_of-n.ensures.0) (sym (groups_cut _ _ _ c.if-s-n.false c.if-t-n.false) ∙ sym c.are_groups.ensures ∙ c.if-not-are_groups.true))))

pub returns : goal.returns
returns c =
    rw (← c.in_ok-file.ensures.passed)
    (call.accepted _
    (count_none _ _ _ c.in_ok-file.file.accepted (omega (arith, c.order_of-n.ensures)) (omega (arith, c.order_of-n.ensures))
    (rw (← c.order_of-n.ensures.0) (sym (groups_cut _ _ _ c.if-s-n.false c.if-t-n.false) ∙ sym c.are_groups.ensures ∙ c.if-not-are_groups.false)))
    refl (totals-cut c.in_ok-file.file.accepted _ _ _ c.order_of-n.ensures.0 c.if-s-n.false c.if-t-n.false c.edges_between.ensures c.group_size.ensures c.group_size-2.ensures))
