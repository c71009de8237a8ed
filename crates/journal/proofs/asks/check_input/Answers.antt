-- A header in order has its 7 bytes.
use Rattle.std.proofs.Common.{rules, sym, ◌∙◌}
use Rattle.journal.proofs.Headers.{headed, journal-header, journal-short, journal-none}
use Rattle.journal.proofs.asks.check_input.Goals as goal

pub returns-in_err-check_header-clause-refused : goal.returns-in_err-check_header-clause-refused
returns-in_err-check_header-clause-refused c = journal-header _ _ _ _ _ _ (search rules)

pub is_short-requires : goal.is_short-requires
is_short-requires c = ((headed _).0 c.in_ok-check_header.ensures.passed).long

pub returns-then-is_short-clause-refused : goal.returns-then-is_short-clause-refused
returns-then-is_short-clause-refused c = journal-short _ _ _ _ _ (search rules) (sym c.is_short.ensures ∙ c.if-is_short.true)

pub returns-clause-passed : goal.returns-clause-passed
returns-clause-passed c = journal-none _ _ _ _ _ (search rules) (sym c.is_short.ensures ∙ c.if-is_short.false)
