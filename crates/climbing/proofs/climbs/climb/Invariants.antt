-- `climb` raises k until the core that is asked for at k is empty. The loop's invariant: the peel has come to its end for what is asked at k, and
-- where k is past the start, the core asked for at k - 1 is not empty. Each turn raises k, since a place that is left and rises has at least k
-- edges, and no degree is above 65535: the measure is what is left up to there.
use Rattle.std.proofs.Common.{◌+◌, ◌-◌}
use Rattle.climbing.proofs.Climbing.{Climbing}
use Rattle.climbing.proofs.climbs.climb.Given as goal

abbrev pub invariant-loop-extent : goal.invariant-loop-extent
invariant-loop-extent l = Climbing l.extent l.rise l.fixed l.start l.initial.work l.work l.k l.peel

abbrev pub decreases-loop-extent : goal.decreases-loop-extent
decreases-loop-extent l = l.start + 65536 - l.k
