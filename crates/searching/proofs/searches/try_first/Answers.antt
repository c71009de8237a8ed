-- `try_first` keeps the better of the best and the last core of row or column 1, which is that of the greatest degree of the places that rise. Where
-- that is less than the start, the core is empty there, and the best is left.
use Rattle.std.proofs.Common.{arith}
use Rattle.peeling.proofs.Kept.{kept_same}
use Rattle.climbing.proofs.Unreached.{heaviest-stops}
use Rattle.searching.specs.Searches.{rise_of}
use Rattle.searching.proofs.Lines.{tries-none, tries-some, heaviest-climbed}
use Rattle.searching.proofs.searches.try_first.Goals as goal

pub returns-then-most-start : goal.returns-then-most-start
returns-then-most-start c n m w d o h =
    tries-none c.start.ensures c.requires.in_range (kept_same w) (λ g t. heaviest-stops (rise_of c.args.side) 1 _ o h c.if-most-start.true t)

pub returns : goal.returns
returns c n m w d o h =
    let i = c.start.ensures in
    rw c.pair_at.ensures (tries-some i (heaviest-climbed c.args.side o h i.positive c.if-most-start.false c.requires.fits) (omega arith) (omega arith) c.if-most-start.false)
