-- `find_in` climbs with both needs from 1 to the equal level. Where that is 0 it leaves the [1,1]-core; else the search up to it comes to the best
-- pair, and the core of that pair is the finding of every graph of the table, whose rows stay as they were throughout.
use Rattle.std.proofs.Common.{arith}
use Rattle.peeling.proofs.Kept.{kept_next}
use Rattle.peeling.proofs.Totals.{weighed_kept}
use Rattle.searching.proofs.Rings.{quiet-found, ring-found}
use Rattle.searching.proofs.searches.find_in.Goals as goal

pub core_in-totals-requires-clause-weighed : goal.core_in-totals-requires-clause-weighed
core_in-totals-requires-clause-weighed c = rw c.of.ensures (weighed_kept c.requires.weighed c.climb-equal.ensures.kept)

pub returns-then-equal-eq0 : goal.returns-then-equal-eq0
returns-then-equal-eq0 c = quiet-found _ c.climb-equal.ensures c.if-equal-eq0.true (omega arith) (omega arith) (rw c.of.ensures at c.core_in-totals.ensures)

pub search-best-requires-clause-weighed : goal.search-best-requires-clause-weighed
search-best-requires-clause-weighed c = weighed_kept c.requires.weighed c.climb-equal.ensures.kept

pub core_in-totals-requires-2-clause-weighed : goal.core_in-totals-requires-2-clause-weighed
core_in-totals-requires-2-clause-weighed c =
    rw c.of-2.ensures (weighed_kept c.requires.weighed (kept_next c.climb-equal.ensures.kept c.search-best.ensures.kept))

pub returns : goal.returns
returns c = ring-found _ c.climb-equal.ensures (omega arith) c.search-best.ensures (rw c.of-2.ensures at c.core_in-totals-2.ensures)
