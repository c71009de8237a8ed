-- The places pushed are counted, and the count is put into the peel at the end.
use Rattle.std.proofs.Common.{◌≡◌, arith}
use Rattle.peeling.proofs.Kept.{kept_same, kept_next}
use Rattle.peeling.proofs.Queues.{queue-most}
use Rattle.raising.proofs.Raises.{raised-begins}
use Rattle.raising.proofs.needs.raise_places.Goals as goal

pub loop-place-init : goal.loop-place-init
loop-place-init c = record { raised = raised-begins c.args.step c.args.first c.requires.peeling; kept = kept_same _ }

pub loop-place-preserved : goal.loop-place-preserved
loop-place-preserved c = record { raised = c.raise-count.ensures.peeling; kept = kept_next c.loop-place.invariant.kept c.raise-count.ensures.kept }

pub grown_by-requires-clause-queue : goal.grown_by-requires-clause-queue
grown_by-requires-clause-queue c = queue-most c.loop-place.invariant.raised.peeling.queued.queue

pub returns-clause-peeling : goal.returns-clause-peeling
returns-clause-peeling c =
    let last : c.loop-place.place ≡ c.args.to = omega (arith, c.loop-place-test.false, c.loop-place.auto.place-end c.requires.places.1) in
    rw c.grown_by.ensures (rw last at c.loop-place.invariant.raised.peeling)
