use Rattle.std.proofs.Common.{sym, ◌∙◌, arith}
use borrow.Author.Tests.{eqb-true}
use Rattle.graph.proofs.Tests.{if-le}
use Rattle.network.proofs.Groups.{number-of_test}
use Rattle.peeling.proofs.Queues.{queue-most}
use Rattle.peeling.proofs.Losses.{drop-ends}
use Rattle.peeling.proofs.Passes.{pass-begins, pass-inside, pass-single, pass-place, pass-some, pass-across, pass-next, pass-ends}
use Rattle.peeling.proofs.Peel.lower_row.Goals as goal

pub returns-then-end-start-clause-peeling : goal.returns-then-end-start-clause-peeling
returns-then-end-start-clause-peeling c = drop-ends c.requires (omega arith)

pub loop-k-init : goal.loop-k-init
loop-k-init c =
    pass-begins record { from = omega (arith, c.from.ensures); upto = omega (arith, c.from-2.ensures); begun = omega arith; within = omega (arith, c.if-end-start.false) } c.requires

pub overflow_add-self : goal.overflow_add-self
overflow_add-self c = omega (arith, queue-most c.loop-k.invariant.dropping.queued.queue)

pub overflow_add-count : goal.overflow_add-count
overflow_add-count c = omega (arith, queue-most c.loop-k.invariant.dropping.queued.queue, c.from-count.ensures, number-of_test c.lower-fell.result, if-le c.lower-fell.result 1)

pub grown_by-requires-clause-queue : goal.grown_by-requires-clause-queue
grown_by-requires-clause-queue c = queue-most c.loop-k.invariant.dropping.queued.queue

pub bounds-work-k : goal.bounds-work-k
bounds-work-k c = pass-inside c.requires.queued.rows c.loop-k.invariant c.loop-k-test.true

pub weight_by-weight-requires : goal.weight_by-weight-requires
weight_by-weight-requires c h =
    pass-single c.requires.queued.rows c.loop-k.invariant c.loop-k-test.true (c.requires.queued.single (eqb-true _ _ (sym c.is_single-single.ensures ∙ h)))

pub lower-fell-requires-clause-in_queue : goal.lower-fell-requires-clause-in_queue
lower-fell-requires-clause-in_queue c = queue-most c.loop-k.invariant.dropping.queued.queue

pub lower-fell-requires-clause-is_place : goal.lower-fell-requires-clause-is_place
lower-fell-requires-clause-is_place c =
    pass-place c.requires.queued.rows c.loop-k.invariant c.loop-k-test.true c.place_in.ensures c.weight_by-weight.ensures

pub lower-fell-requires-clause-has_edge : goal.lower-fell-requires-clause-has_edge
lower-fell-requires-clause-has_edge c =
    pass-some c.requires.queued.rows c.loop-k.invariant c.loop-k-test.true c.place_in.ensures c.weight_by-weight.ensures

pub lower-fell-requires-clause-least : goal.lower-fell-requires-clause-least
lower-fell-requires-clause-least c h =
    c.need_across-least.ensures ∙ pass-across c.requires.queued.rows c.loop-k.invariant c.loop-k-test.true c.place_in.ensures c.weight_by-weight.ensures h _ _

pub loop-k-preserved : goal.loop-k-preserved
loop-k-preserved c =
    rw c.from-count.ensures
    (pass-next c.requires.queued.rows c.loop-k.invariant c.loop-k-test.true c.place_in.ensures c.weight_by-weight.ensures _ c.lower-fell.ensures.told c.lower-fell.ensures.table)

pub returns-clause-peeling : goal.returns-clause-peeling
returns-clause-peeling c = rw (c.grown_by.ensures, c.across.ensures) (pass-ends c.requires.queued.rows c.loop-k.invariant c.loop-k-test.false)
