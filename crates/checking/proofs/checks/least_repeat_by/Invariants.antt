-- `least_repeat_by` finds the first edge that repeats an earlier one: the least of those that stand in the order right after one that is the
-- same. The invariant: `least` is the least of those before the pairs that are left, or the number of edges.
use Rattle.std.proofs.Common.{◌≡◌, ◌≤◌, ◌-◌, ◌+◌, length, drop}
use Rattle.std.specs.Slice.Iter.{windows_size, windows_rest}
use Rattle.network.specs.File.{graph_of}
use Rattle.checking.proofs.Repeats.{Least}
use Rattle.checking.proofs.checks.least_repeat_by.Given as goal

abbrev pub invariant-loop-pair : goal.invariant-loop-pair
invariant-loop-pair _ l =
    let all = l.order in
    let rest = windows_rest l.pair-iterator in
    let i = length all - length rest in
    record {
      pairs : windows_size l.pair-iterator ≡ 2;
      short : length rest ≤ length all;
      left : rest ≡ drop i all;
      found : Least (graph_of l.file.bytes.now) (i + 1) l.least;
    }
