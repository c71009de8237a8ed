use Rattle.std.proofs.Common.{◌≡◌, ◌+◌, ◌-◌, arith}
use Rattle.peeling.proofs.Kept.{rows-kept, single-kept}
use Rattle.peeling.proofs.Totals.{held_rows, held_kept}
use Rattle.raising.proofs.Counts.{recount-begins, recount-room, recount-next, recount-from}
use Rattle.raising.proofs.recounts.recount.Goals as goal

pub loop-place-init : goal.loop-place-init
loop-place-init c = let z : c.args.first - c.args.first ≡ 0 = omega arith in rw z (recount-begins c.requires.side c.clear_other.ensures)

pub recount_place-requires-clause-rows : goal.recount_place-requires-clause-rows
recount_place-requires-clause-rows c =
    rows-kept (held_rows (held_kept c.requires.held c.clear_other.ensures.recounting.kept)) c.loop-place.invariant.recounting.kept

pub recount_place-requires-clause-single : goal.recount_place-requires-clause-single
recount_place-requires-clause-single c h =
    let cleared = c.clear_other.ensures.recounting.kept in
    let rows = held_rows (held_kept c.requires.held cleared) in
    single-kept rows c.loop-place.invariant.recounting.kept (single-kept (held_rows c.requires.held) cleared (c.requires.single h))

pub recount_place-requires-clause-roomy : goal.recount_place-requires-clause-roomy
recount_place-requires-clause-roomy c =
    let e : c.args.first + (c.loop-place.place - c.args.first) ≡ c.loop-place.place = omega arith in
    rw e
    at (recount-room (held_kept c.requires.held c.clear_other.ensures.recounting.kept).tabled c.requires.side (omega arith) c.loop-place.invariant)

pub loop-place-preserved : goal.loop-place-preserved
loop-place-preserved c =
    let e : c.args.first + (c.loop-place.place - c.args.first) ≡ c.loop-place.place = omega arith in
    let z : c.loop-place.place + 1 - c.args.first ≡ c.loop-place.place - c.args.first + 1 = omega arith in
    rw z
    (recount-next (held_kept c.requires.held c.clear_other.ensures.recounting.kept).tabled c.requires.side (omega arith) c.loop-place.invariant (rw e c.recount_place.ensures))

pub returns : goal.returns
returns c =
    let e : c.loop-place.place - c.args.first ≡ c.args.scope.extent.order = omega (arith, c.loop-place.auto.place-end (omega arith)) in
    recount-from c.requires.held.tabled c.requires.side (omega arith) c.clear_other.ensures (rw e at c.loop-place.invariant)
