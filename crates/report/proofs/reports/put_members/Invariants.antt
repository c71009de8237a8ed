-- `put_members` meets its contract. The loop's invariant: the members below u are appended.
use Rattle.std.proofs.Common.{◌≡◌, ◌++◌}
use Rattle.report.specs.Text.{members_text}
use Rattle.report.proofs.reports.put_members.Given as goal

abbrev pub invariant-loop-u : goal.invariant-loop-u
invariant-loop-u g l = l.text.bytes ≡ l.initial.text.bytes ++ members_text l.group l.u
