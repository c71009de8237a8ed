-- An edge of four bytes has the kind 0; of the others the pass over all of them tells.
use Rattle.std.proofs.Common.{arith}
use Rattle.network.proofs.Versions.{stride-five, kind-none}
use Rattle.checking.proofs.checks.check_kinds.Goals as goal
use Rattle.checking.proofs.checks.check_kinds.Goals.{then-file-eq4-via-then-file-eq4, then-file-eq4-via-else-file-eq4+then-see}

pub returns-then-file-eq4-clause-passed : goal.returns-then-file-eq4-clause-passed
returns-then-file-eq4-clause-passed c =
    let file = c.args.file.now in
    elim c.then-file-eq4.branch [
      | then-file-eq4-via-then-file-eq4 w ↦ λ e l. omega (arith, kind-none file.bytes.now e (λ two. omega (arith, stride-five two, file.strided, w.if-file-eq4.true)))
      | then-file-eq4-via-else-file-eq4+then-see w ↦ w.see.ensures.known w.if-see.true
    ]
