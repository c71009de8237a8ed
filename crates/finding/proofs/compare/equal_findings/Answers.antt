-- `equal_findings` is refused by 4 and 9, or by 11; else the people are compared, and x and y.
use Rattle.std.proofs.Common.{rules, refl, ◌∙◌, arith}
use Rattle.std.proofs.lemmas.Bool.Decides.{nat_tests}
use Rattle.network.specs.Calls as call
use Rattle.network.proofs.Answers.{call-told, call-refused}
use Rattle.finding.proofs.Equality.{equal-told}
use Rattle.finding.proofs.compare.equal_findings.Goals as goal

pub returns-in_err-check_lengths : goal.returns-in_err-check_lengths
returns-in_err-check_lengths c = call-told _ (search rules) (search rules)

pub returns-in_default : goal.returns-in_default
returns-in_default c = call-refused (c.in_ok-check_lengths.ensures.left ∙ c.in_default.ensures)

pub returns-then-eq : goal.returns-then-eq
returns-then-eq c =
    let (none, told) = c.in-Some.ensures in
    call.accepted _ (c.in_ok-check_lengths.ensures.left ∙ none) refl (equal-told _ _ {numbers = c.eq.result} (grind (arith, nat_tests, c.eq.ensures)) told (rw c.if-eq.true refl))

pub returns-else-eq : goal.returns-else-eq
returns-else-eq c =
    let (none, told) = c.in-Some.ensures in
    call.accepted _ (c.in_ok-check_lengths.ensures.left ∙ none) refl (equal-told _ _ {numbers = c.eq.result} (grind (arith, nat_tests, c.eq.ensures)) told (rw c.if-eq.false refl))
