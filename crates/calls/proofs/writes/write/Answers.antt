-- `write` refuses by the file; else the rest is that of an accepted one.
use Rattle.std.proofs.Common.{rules}
use Rattle.network.proofs.Answers.{call-told, or_else-told}
use Rattle.network.specs.File.{file_refusal}
use Rattle.network.specs.Refusals.{out_refusal}
use Rattle.calls.proofs.writes.write.Goals as goal

pub returns-in_err-check_file : goal.returns-in_err-check_file
unfolding out_refusal
returns-in_err-check_file c = call-told _ (search rules) (or_else-told (file_refusal c.args.file.now) _ _ (search rules))

pub returns : goal.returns
returns c = rw (← c.in_ok-check_file.ensures.passed) c.write_accepted.ensures
