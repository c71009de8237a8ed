-- `least_left` finds the least degree of the places that are left and rise. The loop's invariant: the least over the places passed that have
-- enough edges, or 65535 where there is none. Enough is k, since a place that is left has at least k edges, and its degree is a number of 16 bits.
use Rattle.std.proofs.Common.{◌<◌, leb, get_or}
use Rattle.climbing.proofs.Leasts.{Lowest}
use Rattle.climbing.proofs.climbs.least_left.Given as goal

abbrev pub invariant-loop-degree : goal.invariant-loop-degree
invariant-loop-degree l =
    record {
      lowest : Lowest (λ p. leb l.enough (get_or l.degree-items p 0)) (λ p. get_or l.degree-items p 0) l.degree-index l.least;
      fits : l.least < 65536;
    }
