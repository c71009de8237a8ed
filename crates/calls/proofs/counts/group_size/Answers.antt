use Rattle.std.proofs.Common.{◌+◌, sym, arith}
use Rattle.graph.proofs.Sums.{sum-empty, sum-next, sum-tests}
use Rattle.network.specs.Groups.{group_of}
use Rattle.network.proofs.Groups.{number-of_test}
use Rattle.graph.specs.Range.{if}
use Rattle.calls.proofs.counts.group_size.Goals as goal

pub loop-byte-init : goal.loop-byte-init
loop-byte-init c = sym (sum-empty _)

pub overflow_add-total : goal.overflow_add-total
overflow_add-total c =
    let S = group_of c.args.group.now in
    let u = c.loop-byte.byte-index in
    omega (arith, c.loop-byte.invariant, c.from-total.ensures, number-of_test (S u), sum-next (λ k. if (S k) 1) u, sum-tests S (u + 1))

pub loop-byte-preserved : goal.loop-byte-preserved
loop-byte-preserved c =
    let S = group_of c.args.group.now in
    let u = c.loop-byte.byte-index in
    omega (arith, c.loop-byte.invariant, c.from-total.ensures, number-of_test (S u), sum-next (λ k. if (S k) 1) u)
