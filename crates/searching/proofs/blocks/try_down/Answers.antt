-- `try_down` tries as many rows or columns as are best tried as a whole, whatever their number. Where no place that rises has so many edges as the
-- start of the last one, every core from there on is empty, of row or column 1 too.
use Rattle.peeling.proofs.Kept.{kept_same}
use Rattle.climbing.proofs.Unreached.{heaviest-stops}
use Rattle.searching.specs.Searches.{rise_of}
use Rattle.searching.proofs.Lines.{tries-none}
use Rattle.searching.proofs.blocks.try_down.Goals as goal

pub returns-then-most-start-clause-tries : goal.returns-then-most-start-clause-tries
returns-then-most-start-clause-tries c =
    tries-none c.start.ensures c.requires.in_range (kept_same _)
    (λ g t. heaviest-stops (rise_of c.args.line.side) 1 _ c.requires.weighed c.requires.heaviest c.if-most-start.true t)
