-- `compare_groups` compares two groups byte by byte. The invariant: of the bytes passed the greatest is at most 1 exactly where each is 0 or 1, and the
-- answer so far says exactly whether they are the same.
use Rattle.std.proofs.Common.{ℕ, true, ◌↔◌, ◌≡◌, ◌<◌, ◌≤◌, length, get_or}
use Rattle.finding.proofs.compare.compare_groups.Given as goal

abbrev pub invariant-loop-one : goal.invariant-loop-one
invariant-loop-one l =
    ((l.greatest ≤ 1) ↔ ((u : ℕ) → u < length l.yielded → (get_or l.a u 0 ≤ 1) × (get_or l.b u 0 ≤ 1)))
    × ((l.alike ≡ true) ↔ ((u : ℕ) → u < length l.yielded → get_or l.a u 0 ≡ get_or l.b u 0))
