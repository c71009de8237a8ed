-- `take_lengths` sets the degree of each place to the length of its row. The loop's invariant: the degrees of the places passed are so.
use Rattle.std.proofs.Common.{ℕ, ◌≡◌, ◌<◌, get_or}
use Rattle.peeling.specs.Peeling.{row_length}
use Rattle.peeling.proofs.weights.take_lengths.Given as goal

abbrev pub invariant-loop-place : goal.invariant-loop-place
invariant-loop-place l = (k : ℕ) → k < l.place → get_or l.degree-items k 0 ≡ row_length l.work k
