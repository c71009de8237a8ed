-- `lower_key` meets its contract. The loop's invariant is `Rising`: the place has reached node k. The measure is k.
use Rattle.picking.proofs.Rises.{Rising}
use Rattle.picking.proofs.Bracket.lower_key.Given as goal

abbrev pub invariant-loop-k : goal.invariant-loop-k
invariant-loop-k l = Rising l.self.at l.self.places l.place l.own l.initial.work l.work l.k

abbrev pub decreases-loop-k : goal.decreases-loop-k
decreases-loop-k l = l.k
