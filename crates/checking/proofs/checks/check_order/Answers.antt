-- A repeat is one by every rule that reads the file's version.
use Rattle.std.proofs.Common.{rules}
use Rattle.checking.proofs.Headers.{gives-told}
use Rattle.checking.proofs.checks.check_order.Goals as goal

pub returns-in_err-check_repeats-clause-refused : goal.returns-in_err-check_repeats-clause-refused
returns-in_err-check_repeats-clause-refused c = gives-told _ c.args.file.now.sound (search rules)
