use Rattle.std.proofs.Common.{arith}
use Rattle.peeling.proofs.Totals.{weighed_kept}
use Rattle.searching.proofs.Turns.{search-more, search-turns, search-ends, down-first, down-next, down-all}
use Rattle.searching.proofs.searches.search_from.Goals as goal

pub loop-last-init : goal.loop-last-init
loop-last-init c =
    record {
      within = omega arith;
      searching =
          search-more c.search.invariant c.try_low-best.ensures (down-first _);
    }

pub try_low-best-requires-clause-weighed : goal.try_low-best-requires-clause-weighed
try_low-best-requires-clause-weighed c = weighed_kept c.requires.weighed c.search.invariant.kept

pub try_down-tried-requires-clause-weighed : goal.try_down-tried-requires-clause-weighed
try_down-tried-requires-clause-weighed c = weighed_kept c.requires.weighed c.loop-last.invariant.searching.kept

pub loop-last-preserved : goal.loop-last-preserved
loop-last-preserved c =
    record {
      within = omega arith;
      searching = search-more c.loop-last.invariant.searching c.try_down-tried.ensures.tries (down-next c.try_down-tried.ensures.left);
    }

pub search-preserved : goal.search-preserved
search-preserved c =
    search-turns (rw c.in_default.is at c.loop-last.invariant.searching) (down-all (omega arith))

pub returns : goal.returns
returns c = search-ends (rw c.in-Target.is at c.loop-last.invariant.searching) (down-all (omega arith))
