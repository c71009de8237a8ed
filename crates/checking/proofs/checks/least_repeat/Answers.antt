-- An edge that has not four bytes has five.
use Rattle.network.proofs.Versions.{five-bytes}
use Rattle.checking.proofs.checks.least_repeat.Goals as goal

pub least_repeat_by-requires-else-file-eq4-clause-stride : goal.least_repeat_by-requires-else-file-eq4-clause-stride
least_repeat_by-requires-else-file-eq4-clause-stride c = five-bytes c.args.file.now.bytes.now c.args.file.now.strided c.if-file-eq4.false
