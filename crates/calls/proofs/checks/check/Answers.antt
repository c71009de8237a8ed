-- `check` tells the refusal of the file, or n and m.
use Rattle.std.proofs.Common.{rules, refl}
use Rattle.network.specs.Calls as call
use Rattle.network.proofs.Answers.{call-told}
use Rattle.network.proofs.Accepted.{accepted}
use Rattle.calls.proofs.checks.check.Goals as goal

pub returns-in_err-file : goal.returns-in_err-file
returns-in_err-file c = call-told _ (search rules) (search rules)

pub returns : goal.returns
returns c = rw (← c.in_ok-file.ensures.passed) (call.accepted _ ((accepted _).1 c.in_ok-file.file.accepted) refl (search rules))
