-- Laws of finite sums.
use Prim.Native.Nat.{ℕ, zero, suc, ◌+◌, ◌*◌, ◌<◌, ◌≤◌}
use mathlib.Core.Bool.{Bool, true, false}
use mathlib.Core.Logic.{⊎_elim}
use mathlib.Core.Path.{◌≡◌, refl, sym, ap, ◌∙◌}
use native.Mathlib.Decide.{dec_le}
use native.Mathlib.Nat.{add-zero, add-suc, ne_of_lt, eq-or-lt_of_le, le_of_suc-le-suc}
use native.Mathlib.Numerals.{add-one}
use native.Mathlib.Omega.{arith}
use lib.Dec.{eqb}
use Rattle.graph.specs.Range.{sum, if}
use Rattle.graph.proofs.Tests.{if-le, if-same, if-other}

-- a sum of one term more
pub sum-next : (f : ℕ → ℕ) (n : ℕ) → sum f (n + 1) ≡ sum f n + f n
unfolding sum
sum-next f n = rw (add-one n)

-- a sum of none
pub sum-empty : (f : ℕ → ℕ) → sum f 0 ≡ 0
unfolding sum
sum-empty f = refl

-- equal terms have equal sums
pub sum-ext : {f h : ℕ → ℕ} (n : ℕ) → ((i : ℕ) → i < n → f i ≡ h i) → sum f n ≡ sum h n
unfolding sum
sum-ext zero e = refl
sum-ext (suc n) e = omega (arith, sum-ext n (λ i l. e i (omega arith)), e n (omega arith))

-- a sum from its first term on
pub sum_first : (f : ℕ → ℕ) (n : ℕ) → sum f (suc n) ≡ f 0 + sum (λ i. f (suc i)) n
unfolding sum
sum_first f zero = omega arith
sum_first f (suc n) = omega (arith, sum_first f n)

-- smaller terms have a smaller sum
pub sum_mono : {f h : ℕ → ℕ} (n : ℕ) → ((i : ℕ) → i < n → f i ≤ h i) → sum f n ≤ sum h n
unfolding sum
sum_mono zero e = omega arith
sum_mono (suc n) e = omega (arith, sum_mono n (λ i l. e i (omega arith)), e n (omega arith))

-- a sum of sums of two terms
pub sum-add : (f h : ℕ → ℕ) (n : ℕ) → sum (λ i. f i + h i) n ≡ sum f n + sum h n
unfolding sum
sum-add f h zero = refl
sum-add f h (suc n) = omega (arith, sum-add f h n)

-- nothing adds up to nothing
pub sum-zero : (n : ℕ) → sum (λ i. 0) n ≡ 0
unfolding sum
sum-zero zero = refl
sum-zero (suc n) = omega (arith, sum-zero n)

-- ones add up to their number
pub sum_ones : (n : ℕ) → sum (λ i. 1) n ≡ n
unfolding sum
sum_ones zero = refl
sum_ones (suc n) = omega (arith, sum_ones n)

-- no more tests hold than there are
pub sum-tests : (p : ℕ → Bool) (n : ℕ) → sum (λ i. if (p i) 1) n ≤ n
sum-tests p n = omega (arith, sum_mono {h = λ i. 1} n (λ i l. if-le (p i) 1), sum_ones n)

-- the first a terms and the b after them
pub sum-after : (f : ℕ → ℕ) (a b : ℕ) → sum f (a + b) ≡ sum f a + sum (λ i. f (a + i)) b
unfolding sum
sum-after f a zero = rw (add-zero a) (omega arith)
sum-after f a (suc b) = rw (add-suc a b) (omega (arith, sum-after f a b))

-- a factor of every term
pub sum-times : (c : ℕ) (f : ℕ → ℕ) (n : ℕ) → sum (λ i. c * f i) n ≡ c * sum f n
unfolding sum
sum-times c f zero = omega arith
sum-times c f (suc n) = omega (arith, sum-times c f n)

-- a test before a sum goes before each term
pub if-sum : (b : Bool) (f : ℕ → ℕ) (n : ℕ) → if b (sum f n) ≡ sum (λ i. if b (f i)) n
if-sum true f n = refl
if-sum false f n = sym (sum-zero n)

-- two sums, exchanged
pub sum-swap : (f : ℕ → ℕ → ℕ) (m n : ℕ) → sum (λ i. sum (f i) m) n ≡ sum (λ j. sum (λ i. f i j) n) m
unfolding sum
sum-swap f m zero = omega (arith, sum-zero m)
sum-swap f m (suc n) = omega (arith, sum-swap f m n, sum-add (λ j. sum (λ i. f i j) n) (f n) m)

-- a number below suc n is n or below n
pub below_suc : {P : Type 0} {i n : ℕ} → i < suc n → (i ≡ n → P) → (i < n → P) → P
below_suc l f h = ⊎_elim f h (eq-or-lt_of_le (le_of_suc-le-suc l))

-- fewer terms have a smaller sum
pub sum-front : (f : ℕ → ℕ) (i n : ℕ) → i ≤ n → sum f i ≤ sum f n
unfolding sum
sum-front f i zero l = let e : i ≡ 0 = omega arith in rw e (omega arith)
sum-front f i (suc n) l = ⊎_elim (λ e. rw e (omega arith)) (λ h. omega (arith, sum-front f i n (omega arith))) (eq-or-lt_of_le l)

-- no term is greater than the sum
pub term-le-sum : (f : ℕ → ℕ) (n i : ℕ) → i < n → f i ≤ sum f n
unfolding sum
term-le-sum f zero i l = omega arith
term-le-sum f (suc n) i l = below_suc l (λ e. rw e (omega arith)) (λ h. omega (arith, term-le-sum f n i h))

-- a sum that is not 0 has a term that is not 0
pub sum-some : (f : ℕ → ℕ) (n : ℕ) → 1 ≤ sum f n → (i : ℕ) × (i < n) × (1 ≤ f i)
unfolding sum
sum-some f zero l = absurd (omega arith)
sum-some f (suc n) l = elim (dec_le 1 (f n)) [ yes p ↦ (n, omega arith, p) | no p ↦ let (i, h, q) = sum-some f n (omega arith) in (i, omega arith, q) ]

-- terms that are all 0 add up to 0
pub sum-none : (f : ℕ → ℕ) (n : ℕ) → ((i : ℕ) → i < n → f i ≡ 0) → sum f n ≡ 0
sum-none f n e = sum-ext n e ∙ sum-zero n

-- of the terms that a test picks out by their number there is one
pub sum-pick : (f : ℕ → ℕ) (n k : ℕ) → k < n → sum (λ i. if (eqb k i) (f i)) n ≡ f k
unfolding sum
sum-pick f zero k l = absurd (omega arith)
sum-pick f (suc n) k l =
    below_suc l
    (λ e. omega (arith, sum-none (λ i. if (eqb k i) (f i)) n (λ i h. if-other k i (f i) (omega arith)), if-same k n (f n) e, ap f e))
    (λ h. omega (arith, sum-pick f n k h, if-other k n (f n) (ne_of_lt h)))
