-- `set_key` meets its contract. The loop's invariant is `Climbs`: node k is reached, and the rank is that of the place that it holds. The
-- measure is k.
use Rattle.picking.proofs.Climbs.{Climbs}
use Rattle.picking.proofs.Bracket.set_key.Given as goal

abbrev pub invariant-loop-k : goal.invariant-loop-k
invariant-loop-k l = Climbs l.self.at l.self.places l.initial.work l.work l.k l.rank

abbrev pub decreases-loop-k : goal.decreases-loop-k
decreases-loop-k l = l.k
