-- `is_between` asks of both ends: every edge of a file weighs something.
use Rattle.std.proofs.Common.{rules}
use borrow.Author.Tests.{le-leb}
use Rattle.network.specs.File.{kind_at}
use Rattle.network.proofs.Versions.{weight-range}
use Rattle.filling.proofs.listings.is_between.Goals as goal

pub returns : goal.returns
returns c = rw (le-leb 1 _ (weight-range (kind_at c.args.file.now.bytes.now c.args.edge)).0, ← c.end_at.ensures.0, ← c.end_at-2.ensures.0) (search rules)
