use Rattle.std.proofs.Common.{arith}
use Rattle.raising.proofs.Gains.{gain-begins, gain-inside, gain-single, gain-place, gain-room, gain-next, gain-ends}
use Rattle.raising.proofs.recounts.gain_row.Goals as goal

pub loop-k-init : goal.loop-k-init
loop-k-init c = gain-begins c.requires.rows c.requires.is_place (omega arith) (omega arith)

pub bounds-work-k : goal.bounds-work-k
bounds-work-k c = gain-inside c.requires.rows c.requires.is_place c.loop-k.invariant c.loop-k-test.true

pub weight_by-requires : goal.weight_by-requires
weight_by-requires c h = gain-single c.requires.rows c.requires.is_place c.loop-k.invariant c.loop-k-test.true (c.requires.single h)

pub gain-requires-clause-is_place : goal.gain-requires-clause-is_place
gain-requires-clause-is_place c =
    gain-place c.requires.rows c.requires.is_place c.loop-k.invariant c.loop-k-test.true c.place_in.ensures c.weight_by.ensures

pub gain-requires-clause-room : goal.gain-requires-clause-room
gain-requires-clause-room c =
    gain-room c.requires.rows c.requires.is_place c.loop-k.invariant c.loop-k-test.true c.place_in.ensures c.weight_by.ensures c.requires.roomy

pub loop-k-preserved : goal.loop-k-preserved
loop-k-preserved c =
    gain-next c.requires.rows c.requires.is_place c.loop-k.invariant c.loop-k-test.true c.place_in.ensures c.weight_by.ensures c.gain.ensures

pub returns : goal.returns
returns c = gain-ends c.requires.rows c.requires.is_place c.loop-k.invariant c.loop-k-test.false
