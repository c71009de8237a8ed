-- `search_from` tries every row and then every column. The inner loop's invariant: 1 and the numbers of the side above `last` are tried, from the
-- table as it came, and the best is the best of what is tried: with the sources' need fixed of these rows, with the targets' of all rows and these
-- columns. The table of degrees is that of every table with these rows. The outer loop's is the same where nothing of
-- the side is tried yet. The measures are what is left of the numbers, and of the sides.
use Rattle.std.proofs.Common.{◌≤◌}
use Rattle.searching.proofs.Turns.{Searching, none_tried, down_tried, sides_left}
use Rattle.searching.proofs.searches.search_from.Given as goal

abbrev pub invariant-loop-last : goal.invariant-loop-last
invariant-loop-last l =
    record {
      within : l.last ≤ l.k;
      searching : Searching l.extent.order l.extent.size l.k l.fn.work l.work l.side (down_tried l.k l.last) l.best;
    }

abbrev pub decreases-loop-last : goal.decreases-loop-last
decreases-loop-last l = l.last

abbrev pub invariant-search : goal.invariant-search
invariant-search l = Searching l.extent.order l.extent.size l.k l.fn.work l.work l.side none_tried l.best

abbrev pub decreases-search : goal.decreases-search
decreases-search l = sides_left l.side
