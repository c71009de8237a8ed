-- What does not fall from one number to the next is monotone.
use Prim.Native.Nat.{ℕ, zero, suc, ◌+◌, ◌-◌, ◌<◌, ◌≤◌}
use mathlib.Core.Path.{◌≡◌, ap}
use native.Mathlib.Nat.{le_refl}
use native.Mathlib.Numerals.{add-one}
use native.Mathlib.Omega.{arith}
use Rattle.graph.specs.Range.{sum}
use Rattle.graph.proofs.Sums.{below_suc, sum-front}

-- up to N no number is greater than a later one
pub monotone : (f : ℕ → ℕ) (N : ℕ) → ((p : ℕ) → p < N → f p ≤ f (p + 1)) → (p q : ℕ) → p ≤ q → q ≤ N → f p ≤ f q
monotone f N up p zero l h = let e : p ≡ 0 = omega arith in rw e (le_refl _)
monotone f N up p (suc q) l h =
    below_suc {i = p} {n = suc q} (omega arith)
    (λ e. rw e (le_refl _))
    (λ k. let step : f q ≤ f (suc q) = rw (add-one q) at (up q (omega arith)) in omega (arith, monotone f N up p q (omega arith) (omega arith)))

-- a part of the terms has no greater sum
pub sum-part : (f : ℕ → ℕ) (k n : ℕ) → k ≤ n → sum f k ≤ sum f n
sum-part = sum-front

-- the steps from each number to the next are together the way from the first to the last
pub sum-steps : (f : ℕ → ℕ) (n : ℕ) → ((p : ℕ) → p < n → f p ≤ f (p + 1)) → sum (λ p. f (p + 1) - f p) n + f 0 ≡ f n
unfolding sum
sum-steps f zero up = omega arith
sum-steps f (suc n) up = omega (arith, sum-steps f n (λ p l. up p (omega arith)), up n (omega arith), ap f (add-one n))
