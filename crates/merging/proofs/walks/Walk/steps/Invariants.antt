-- `steps` takes one step after the other. The invariant: so far the walk has come, by no more edges of either file than there were steps, and the marks
-- of the edges in hand are known.
use Rattle.std.proofs.Common.{◌≡◌, ◌≤◌, ◌+◌, length}
use Rattle.network.specs.File.{graph_of}
use Rattle.merging.specs.Merging.{mark_of, Merged}
use Rattle.merging.proofs.walks.Walk.steps.Given as goal

abbrev pub invariant-loop : goal.invariant-loop
invariant-loop g l =
    record {
      merged : Merged (graph_of l.pair.first.bytes.now) (graph_of l.pair.second.bytes.now) l.list l.walk;
      first_mark : l.first ≡ mark_of (graph_of l.pair.first.bytes.now) l.walk.first;
      second_mark : l.second ≡ mark_of (graph_of l.pair.second.bytes.now) l.walk.second;
      first_near : l.walk.first + 1 ≤ l.initial.walk.first + l.counter;
      second_near : l.walk.second + 1 ≤ l.initial.walk.second + l.counter;
      on : l.initial.walk.first + l.initial.walk.second ≤ l.walk.first + l.walk.second;
      length : length l.list ≡ length l.initial.list;
    }
