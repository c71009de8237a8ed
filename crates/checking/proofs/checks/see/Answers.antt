-- An edge that has not four bytes has five.
use Rattle.network.proofs.Versions.{five-bytes}
use Rattle.checking.proofs.checks.see.Goals as goal

pub look-requires-else-file-eq4-clause-stride : goal.look-requires-else-file-eq4-clause-stride
look-requires-else-file-eq4-clause-stride c = five-bytes c.args.file.now.bytes.now c.args.file.now.strided c.if-file-eq4.false
