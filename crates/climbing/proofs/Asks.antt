-- What a climb asks of places: as k is raised, more of those on the sides that rise, and as much of the others. What has somebody on both sides
-- has a place that rises.
use Prim.Native.Nat.{ℕ, ◌+◌, ◌*◌, ◌<◌, ◌≤◌}
use mathlib.Core.Bool.{true, false, false≢true}
use mathlib.Core.Path.{◌≡◌, refl, sym}
use native.Mathlib.Omega.{arith}
use borrow.Author.Tests.{leb-false, le-leb, lt-leb, lt-ltb, le-ltb}
use Rattle.std.proofs.lemmas.Bool.Decides.{nat_tests}
use Rattle.graph.specs.Range.{sum, if}
use Rattle.graph.specs.Graph.{Group}
use Rattle.graph.specs.Cover.{need}
use Rattle.graph.proofs.Tests.{if_some}
use Rattle.graph.proofs.Sums.{sum-some}
use Rattle.climbing.specs.declared.Rise.{Rise}
use Rattle.climbing.specs.declared.Rise.TheVariants.{Targets, Sources, Both}
use Rattle.climbing.specs.Climbs.{of_sources, of_targets, rising, first_rising, end_rising}

-- where R has somebody on both sides, a place of it rises
pub rising-some : (n : ℕ) (rise : Rise) (R : Group) → 1 ≤ sum (λ u. if (R u) 1) n → 1 ≤ sum (λ v. if (R (n + v)) 1) n
    → (p : ℕ) × (p < 2 * n) × (rising n rise p ≡ true) × (R p ≡ true)
rising-some n rise R a b = pick rise
  where
    source : (u : ℕ) × (u < n) × (R u ≡ true)
    source = let (u, l, h) = sum-some (λ u. if (R u) 1) n a in (u, l, (if_some _ 1 h).0)

    target : (v : ℕ) × (v < n) × (R (n + v) ≡ true)
    target = let (v, l, h) = sum-some (λ v. if (R (n + v)) 1) n b in (v, l, (if_some _ 1 h).0)

    pick : (rise : Rise) → (p : ℕ) × (p < 2 * n) × (rising n rise p ≡ true) × (R p ≡ true)
    pick Targets = let (v, l, h) = target in (n + v, omega arith, le-leb n (n + v) (omega arith), h)
    pick Sources = let (u, l, h) = source in (u, omega arith, lt-ltb u n l, h)
    pick Both = let (u, l, h) = source in (u, omega arith, refl, h)

-- the places that rise are within the 2n
pub rising-range : (n : ℕ) (rise : Rise) → (first_rising n rise ≤ end_rising n rise) × (end_rising n rise ≤ 2 * n)
rising-range n Targets = (omega arith, omega arith)
rising-range n Sources = (omega arith, omega arith)
rising-range n Both = (omega arith, omega arith)

-- none rises before the first
pub rising-before : (n : ℕ) (rise : Rise) (p : ℕ) → p < first_rising n rise → rising n rise p ≡ false
rising-before n Targets p l = lt-leb n _ l
rising-before n Sources p l = absurd (omega arith)
rising-before n Both p l = absurd (omega arith)

-- from there on all do up to the end
pub rising-between : (n : ℕ) (rise : Rise) (p : ℕ) → first_rising n rise ≤ p → p < end_rising n rise → rising n rise p ≡ true
rising-between n Targets p l h = le-leb n _ l
rising-between n Sources p l h = lt-ltb _ n h
rising-between n Both p l h = refl

-- and past it none does
pub rising-past : (n : ℕ) (rise : Rise) (p : ℕ) → end_rising n rise ≤ p → p < 2 * n → rising n rise p ≡ false
rising-past n Targets p l h = absurd (omega arith)
rising-past n Sources p l h = le-ltb _ n l
rising-past n Both p l h = absurd (omega arith)

-- what a place needs at k
abbrev pub need_at : ℕ → Rise → ℕ → ℕ → ℕ → ℕ
need_at n rise fixed k = need n (of_sources rise fixed k) (of_targets rise fixed k)

-- a place that rises needs k
pub asked-rising : (n : ℕ) (rise : Rise) (fixed k p : ℕ) → rising n rise p ≡ true → need_at n rise fixed k p ≡ k
asked-rising n Targets fixed k p h = grind (arith, nat_tests)
asked-rising n Sources fixed k p h = rw h
asked-rising n Both fixed k p h = grind (arith, nat_tests)

-- one that does not needs as much at every k
pub asked-still : (n : ℕ) (rise : Rise) (fixed k k' p : ℕ) → rising n rise p ≡ false → need_at n rise fixed k p ≡ need_at n rise fixed k' p
asked-still n Targets fixed k k' p h = rw (lt-ltb p n (leb-false n p h))
asked-still n Sources fixed k k' p h = rw h
asked-still n Both fixed k k' p h = absurd (false≢true (sym h))
