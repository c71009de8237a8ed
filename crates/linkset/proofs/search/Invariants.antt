-- `search` narrows the links that may come before the one sought, until none is left. The invariant: so they are narrowed, if they were at first.
use Rattle.std.proofs.Common.{◌+◌, ◌≤◌, length}
use Rattle.linkset.specs.Tables.{Sorted, earlier, Narrowed}
use Rattle.linkset.proofs.search.Given as goal

abbrev pub invariant-loop-left : goal.invariant-loop-left
invariant-loop-left g l =
    record {
      within : l.low + l.left ≤ l.initial.low + l.initial.left;
      narrowed : Sorted l.set → Narrowed (earlier g.row.ENDS l.set l.link.source l.link.target) (length l.set) l.initial.low l.initial.left
          → Narrowed (earlier g.row.ENDS l.set l.link.source l.link.target) (length l.set) l.low l.left;
    }

abbrev pub decreases-loop-left : goal.decreases-loop-left
decreases-loop-left g l = l.left
