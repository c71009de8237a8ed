-- `check_layers` refuses by the file, then by a short layer table, then as the way into every call on cores does.
use Rattle.std.proofs.Common.{rules, arith}
use Rattle.network.specs.File.{file_refusal}
use Rattle.network.specs.Refusals.{layers_refusal}
use Rattle.network.proofs.Answers.{or_else-told}
use Rattle.layering.proofs.LayersCalls.{layers-short, layers-later}
use Rattle.layering.proofs.asks.check_layers.Goals as goal

pub returns-in_err-file-clause-refused : goal.returns-in_err-file-clause-refused
unfolding layers_refusal
returns-in_err-file-clause-refused c = or_else-told (file_refusal c.args.file.now) _ _ (search rules)

pub returns-then-layers-size_of-clause-refused : goal.returns-then-layers-size_of-clause-refused
returns-then-layers-size_of-clause-refused c = rw (← c.in_ok-file.ensures.passed) (layers-short _ _ _ _ _ c.in_ok-file.file.accepted (omega arith))

pub returns-clause-refused : goal.returns-clause-refused
returns-clause-refused c =
    let a = c.args in
    rw (← c.in_ok-file.ensures.passed, layers-later c.in_ok-file.file.bytes.now a.a.now a.b.now a.layers a.work c.in_ok-file.file.accepted (omega (arith, c.size_of.ensures))) c.check_within.ensures.refused

pub returns-clause-none : goal.returns-clause-none
returns-clause-none c =
    let a = c.args in
    rw (← c.in_ok-file.ensures.passed, layers-later c.in_ok-file.file.bytes.now a.a.now a.b.now a.layers a.work c.in_ok-file.file.accepted (omega (arith, c.size_of.ensures))) c.check_within.ensures.none

pub returns-clause-passed : goal.returns-clause-passed
returns-clause-passed c = rw (← c.in_ok-file.ensures.passed) c.check_within.ensures.passed
