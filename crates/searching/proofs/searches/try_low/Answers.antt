-- `try_low` tries the row or column of 1, and after it those in which no core changes.
use Rattle.searching.proofs.Turns.{tries-then}
use Rattle.searching.proofs.searches.try_low.Goals as goal

pub returns-then-low-eq1 : goal.returns-then-low-eq1
returns-then-low-eq1 c = c.try_first-first.ensures _ _ _ _ c.requires.weighed c.requires.heaviest

pub try_down-requires-clause-in_range : goal.try_down-requires-clause-in_range
try_down-requires-clause-in_range c = (c.try_first-first.ensures _ _ _ _ c.requires.weighed c.requires.heaviest).in-range

pub returns : goal.returns
returns c = tries-then (c.try_first-first.ensures _ _ _ _ c.requires.weighed c.requires.heaviest) c.try_down.ensures.tries
