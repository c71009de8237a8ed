-- `walk_through` walks through both files. The invariant: so far the walk has come. The measure: each turn passes an edge.
use Rattle.std.proofs.Common.{◌≡◌, ◌+◌, ◌-◌, length}
use Rattle.network.specs.File.{graph_of}
use Rattle.merging.specs.Merging.{Merged}
use Rattle.merging.proofs.walks.walk_through.Given as goal

abbrev pub invariant-loop-walk : goal.invariant-loop-walk
invariant-loop-walk g l =
    record {
      merged : Merged (graph_of l.pair.first.bytes.now) (graph_of l.pair.second.bytes.now) l.list l.walk;
      length : length l.list ≡ length l.initial.list;
    }

abbrev pub decreases-loop-walk : goal.decreases-loop-walk
decreases-loop-walk g l = l.first_size + l.second_size - (l.walk.first + l.walk.second)
