-- The kind is one of the eight, and the table has its weight, which is from 1 to 12.
use Rattle.std.proofs.Common.{arith, ap, ◌∙◌}
use Rattle.network.specs.File.{weight_of}
use Rattle.network.proofs.Versions.{weight-range, weight-table}
use Rattle.network.proofs.files.weight_at.Goals as goal

pub returns : goal.returns
returns c =
    let known = c.requires.0.kinds c.args.edge c.requires.1 in
    let told = weight-table c.from.result (omega (arith, known, c.kind_at.ensures, c.from.ensures)) in
    (told ∙ ap weight_of (omega (arith, c.kind_at.ensures, c.from.ensures)), omega (arith, told, weight-range c.from.result), omega (arith, told, weight-range c.from.result))
