-- `put_spaced` meets its contract: the space and the digits are appended in a row.
use Rattle.std.proofs.Common.{[], ◌∷◌, append_assoc}
use Rattle.report.proofs.Decimal.{decimal_printed}
use Rattle.report.proofs.pieces.put_spaced.Goals as goal

pub returns : goal.returns
returns g c = rw (← decimal_printed c.args.n c.ranges.n.fits) (cc (append_assoc c.args.text.now.bytes (32 ∷ []) c.format.result.now))
