use Rattle.climbing.proofs.Climbing.{climb-some, climb-next, climb-ends}
use Rattle.climbing.proofs.climbs.climb.Goals as goal

pub least_left-k-requires-clause-some : goal.least_left-k-requires-clause-some
least_left-k-requires-clause-some c = climb-some c.loop-extent.invariant (cc) c.asked-scope.ensures

pub loop-extent-preserved : goal.loop-extent-preserved
loop-extent-preserved c =
    climb-next c.loop-extent.invariant c.asked-scope.ensures c.least_left-k.ensures.least (cc) c.least_left-k.ensures.fits (rw (c.asked-scope.ensures, c.asked-x.ensures) at c.advance-peel.ensures)

pub returns : goal.returns
returns c =
    climb-ends c.loop-extent.invariant c.requires.start (cc) (rw c.asked.ensures at c.begin-peel.ensures.kept)
