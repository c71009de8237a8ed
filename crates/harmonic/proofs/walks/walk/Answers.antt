use Rattle.std.proofs.Common.{arith}
use Rattle.harmonic.proofs.Walking.{going-begins, going_size, going_next, going_less, going-ends}
use Rattle.harmonic.proofs.walks.walk.Goals as goal

pub loop-place-init : goal.loop-place-init
loop-place-init c = going-begins (omega (arith, c.requires.tree.room.some)) c.requires.tree c.requires.held c.requires.begins

pub better_of-best-requires-clause-best_size : goal.better_of-best-requires-clause-best_size
better_of-best-requires-clause-best_size c = omega (arith, going_size c.loop-place.invariant)

pub better_of-best-requires-clause-state_size : goal.better_of-best-requires-clause-state_size
better_of-best-requires-clause-state_size c = omega (arith, going_size c.loop-place.invariant)

pub loop-place-smaller : goal.loop-place-smaller
loop-place-smaller c = going_less c.loop-place.invariant c.turn-state.ensures

pub loop-place-preserved : goal.loop-place-preserved
loop-place-preserved c = rw c.better_of-best.ensures (going_next c.loop-place.invariant c.turn-state.ensures)

pub returns : goal.returns
returns c = going-ends c.loop-place.invariant (omega (arith, c.requires.tree.room.some)) c.in_default.ensures
