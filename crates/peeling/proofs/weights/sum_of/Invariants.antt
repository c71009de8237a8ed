-- `sum_of` adds the degrees up. The loop's invariant: the total is over the degrees passed, each of which is less than 65,536.
use Rattle.std.proofs.Common.{◌≡◌, ◌*◌, ◌≤◌, get_or}
use Rattle.graph.specs.Range.{sum}
use Rattle.peeling.proofs.weights.sum_of.Given as goal

abbrev pub invariant-loop-degree : goal.invariant-loop-degree
invariant-loop-degree l =
    record {
      sum : l.total ≡ sum (λ p. get_or l.degrees p 0) l.degree-index;
      most : l.total ≤ 65535 * l.degree-index;
    }
