use Rattle.std.proofs.Common.{refl, arith}
use Rattle.harmonic.proofs.Lowering.{lower-begins, lower-inside, lower-place, lower-some, lower-next, lower-ends}
use Rattle.harmonic.proofs.drops.lower_row.Goals as goal

pub loop-k-init : goal.loop-k-init
loop-k-init c = lower-begins c.requires.rows c.requires.is_place (omega arith) (omega arith) c.requires.tree

pub bounds-work-k : goal.bounds-work-k
bounds-work-k c = lower-inside c.requires.rows c.requires.is_place c.loop-k.invariant c.loop-k-test.true

pub lower-requires-clause-is_place : goal.lower-requires-clause-is_place
lower-requires-clause-is_place c =
    lower-place c.requires.rows c.requires.is_place c.loop-k.invariant c.loop-k-test.true refl c.place_in.ensures c.weight_in-weight.ensures

pub lower-requires-clause-has_edge : goal.lower-requires-clause-has_edge
lower-requires-clause-has_edge c =
    let q = c.requires in
    let l = c.loop-k-test.true in
    let x = c.place_in.ensures in
    let y = c.weight_in-weight.ensures in
    lower-some q.rows q.is_place c.loop-k.invariant l refl x y (q.spare _ (lower-place q.rows q.is_place c.loop-k.invariant l refl x y))

pub loop-k-preserved : goal.loop-k-preserved
loop-k-preserved c =
    lower-next c.requires.rows c.requires.is_place c.loop-k.invariant c.loop-k-test.true refl c.place_in.ensures c.weight_in-weight.ensures c.lower.ensures

pub returns : goal.returns
returns c = lower-ends c.requires.rows c.requires.is_place c.loop-k.invariant c.loop-k-test.false
