-- A peel with so many places of a side more in the queue, which are taken out of the side.
use Prim.Native.Nat.{ℕ, ◌+◌, ◌-◌, ◌≤◌}
use mathlib.Core.Bool.{Bool, true, false, cond}
use mathlib.Core.Path.{◌≡◌, refl}
use native.Mathlib.Numerals.{unary_clauses}
use native.Mathlib.Omega.{arith}
use lib.Dec.{ltb}
use Rattle.peeling.specs.declared.Peel.{Peel}
use Rattle.peeling.specs.Peeling.{Pushable, side_left, pushed_by, pushed}

-- a peel with so many places in its queue and left on its sides
abbrev with_sides : Peel → ℕ → ℕ → ℕ → Peel
with_sides s tail sources targets = record { head = s.head; tail = tail; sources = sources; targets = targets; edges = s.edges; excess = s.excess }

-- with none of a side more in the queue it is as it was
pub pushed-none : (n first : ℕ) (s : Peel) → pushed_by n s first 0 ≡ s
pushed-none n first s = by-side (ltb first n)
  where
    by-side : (b : Bool) → with_sides s (s.tail + 0) (cond b (s.sources - 0) s.sources) (cond b s.targets (s.targets - 0)) ≡ s
    by-side true = simp unary_clauses refl
    by-side false = simp unary_clauses refl

-- where one more is left of the side,
left-one : (n first count : ℕ) (s : Peel) → count ≤ side_left n s first → 1 ≤ side_left n (pushed_by n s first count) first → count + 1 ≤ side_left n s first
left-one n first count s = by-side (ltb first n)
  where
    by-side : (b : Bool) → count ≤ cond b s.sources s.targets → 1 ≤ cond b (cond b (s.sources - count) s.sources) (cond b s.targets (s.targets - count)) → count + 1 ≤ cond b s.sources s.targets
    by-side true l m = omega (arith, l, m)
    by-side false l m = omega (arith, l, m)

-- it is pushed as all before it
pushed-one : (n first count : ℕ) (s : Peel) → pushed n (pushed_by n s first count) first ≡ pushed_by n s first (count + 1)
pushed-one n first count s = by-side (ltb first n)
  where
    less : (k : ℕ) → k - count - 1 ≡ k - (count + 1)
    less k = omega arith

    more : s.tail + count + 1 ≡ s.tail + (count + 1)
    more = omega arith

    by-side : (b : Bool)
        → with_sides s (s.tail + count + 1) (cond b (cond b (s.sources - count) s.sources - 1) (cond b (s.sources - count) s.sources))
        (cond b (cond b s.targets (s.targets - count)) (cond b s.targets (s.targets - count) - 1))
        ≡ with_sides s (s.tail + (count + 1)) (cond b (s.sources - (count + 1)) s.sources) (cond b s.targets (s.targets - (count + 1)))
    by-side true = rw (more, less s.sources) refl
    by-side false = rw (more, less s.targets) refl

-- so a place of the side that can be pushed is one more of them
pub grown-one : (n first count q : ℕ) (s : Peel) → count ≤ side_left n s first → ltb q n ≡ ltb first n → Pushable n (pushed_by n s first count) q
    → (pushed n (pushed_by n s first count) q ≡ pushed_by n s first (count + 1)) × (count + 1 ≤ side_left n s first)
grown-one n first count q s few alike room = (rw alike (pushed-one n first count s), left-one n first count s few (rw alike at room.side))
