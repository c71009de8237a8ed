-- `check_later` refuses a short table, then bytes that are no groups, then a 0 that is asked for.
use Rattle.std.proofs.Common.{ℕ, rules, ◌≡◌, true, false, Option, None, Some, sym, ap, ◌∙◌, refl, arith, eqb}
use Rattle.std.specs.Option.{option_eq}
use Rattle.network.proofs.Groups.{groups_cut}
use Rattle.cores.specs.Entries.{ask_refusal, later_refusal}
use Rattle.cores.proofs.WayIn.{later-asks, long-for}
use Rattle.cores.proofs.entries.check_later.Goals.{After-are_groups}
use Rattle.cores.proofs.entries.check_later.Goals as goal

-- a number that is not 0, or none, is not refused
not-refused : (ask : Option ℕ) → option_eq eqb ask (Some 0) ≡ false → ask_refusal ask ≡ None
not-refused None e = refl
not-refused (Some x) e = rw e refl

-- after the tests of the tables and of A and B what is asked is left
asks : (c : After-are_groups) → c.are_groups.result ≡ true → let a = c.args in
    later_refusal a.ask a.extent.order a.extent.size a.a.now a.b.now a.s a.t a.work ≡ ask_refusal a.ask
asks c e =
    let a = c.args in
    let long = sym c.is_short.ensures ∙ c.if-is_short.false in
    let l = long-for a.ask _ _ a.a.now a.b.now a.s a.t a.work long in
    later-asks a.ask _ _ a.a.now a.b.now a.s a.t a.work long
    (sym (groups_cut a.extent.order a.a.now a.b.now (omega (arith, l)) (omega (arith, l))) ∙ sym c.are_groups.ensures ∙ e)

pub returns-then-eq-clause-refused : goal.returns-then-eq-clause-refused
returns-then-eq-clause-refused c =
    let zero : c.args.ask ≡ Some 0 = search rules in
    asks (goal.at.returns-then-eq-clause-refused c).After-are_groups c.if-not-are_groups.false ∙ ap ask_refusal zero

pub returns-clause-passed : goal.returns-clause-passed
returns-clause-passed c =
    asks (goal.at.returns-clause-passed c).After-are_groups c.if-not-are_groups.false ∙ not-refused c.args.ask (sym c.eq.ensures ∙ c.if-eq.false)
