-- `harmonic_in` meets its contract: the places found are those whose mark is at least that of the next drop.
use Rattle.std.proofs.Common.{arith}
use Rattle.harmonic.proofs.Readings.{found_size, harmonic-read}
use Rattle.harmonic.proofs.groups.harmonic_in.Goals as goal

pub overflow_add-least : goal.overflow_add-least
overflow_add-least c = omega (arith, found_size c.requires.weighed.held c.best_state-best.ensures)

pub overflow_sub-least : goal.overflow_sub-least
overflow_sub-least c = found_size c.requires.weighed.held c.best_state-best.ensures

pub returns : goal.returns
returns c = harmonic-read c.best_state-best.ensures (rw c.bracket_of-at.ensures at c.write_group.ensures) (rw c.bracket_of-at.ensures at c.write_group-2.ensures)
