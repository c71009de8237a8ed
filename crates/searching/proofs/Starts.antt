-- Where a row or column begins to be better than the best: at the last place whose product is not above that of the best, where the best does not
-- come before the pair there, and else at the next. It begins no earlier for a better one.
use Prim.Native.Nat.{ℕ, suc, ◌+◌, ◌-◌, ◌*◌, ◌/◌, ◌<◌, ◌≤◌}
use mathlib.Core.Logic.{⊎_elim}
use mathlib.Core.Path.{◌≡◌, refl}
use native.Mathlib.Decide.{dec_lt}
use native.Mathlib.Nat.{mul_comm, mul-le-mul, mul-le-mul_left, eq-or-lt_of_le, div-mul-le_self, div-lt_iff_lt-mul, lt-suc_self, eq-zero-or-pos}
use native.Mathlib.Omega.{arith}
use Rattle.graph.specs.Core.{Before}
use Rattle.graph.proofs.Before.{before-trans}
use Rattle.network.specs.declared.Side.{Side}
use Rattle.network.specs.declared.Side.TheVariants.{Source, Target}
use Rattle.searching.specs.declared.Best.{Best}
use Rattle.searching.specs.Searches.{x_at, y_at, InRange, FirstBetter}

-- the product of the best is not 0 and is below 65536 times 65536
pub product-range : {b : Best} → InRange b → (1 ≤ b.x * b.y) × (b.x * b.y < 4294967296)
product-range {b} r =
    let x : b.x ≤ 65535 = omega arith in
    let y : b.y ≤ 65535 = omega arith in
    omega (arith, mul-le-mul r.x-positive r.y-positive, mul-le-mul x y)

-- both ways round the product at j is that of the fixed number and j
pub product_at : (side : Side) (fixed j : ℕ) → x_at side fixed j * y_at side fixed j ≡ fixed * j
product_at Source fixed j = refl
product_at Target fixed j = mul_comm j fixed

-- a quotient is the last number whose multiple is not above what was divided
pub quotient-last : (p fixed : ℕ) → 1 ≤ fixed → (p / fixed * fixed ≤ p) × (p < suc (p / fixed) * fixed)
quotient-last p fixed l = (div-mul-le_self p fixed, (div-lt_iff_lt-mul {k = fixed} l).0 (lt-suc_self _))

-- q is the last place of a row or column whose product is not above that of the best
module _ (side : Side) (fixed q : ℕ) (b : Best) (f : 1 ≤ fixed) (last : (q * fixed ≤ b.x * b.y) × (b.x * b.y < suc q * fixed)) where
  -- before q the best comes first,
  low : (j : ℕ) → j < q → Before b.x b.y (x_at side fixed j) (y_at side fixed j)
  low j i = omega (arith, product_at side fixed j, mul-le-mul_left fixed i)

  -- and past q it does not
  high : (j : ℕ) → q < j → ¬ Before b.x b.y (x_at side fixed j) (y_at side fixed j)
  high j i h = absurd (omega (arith, h.product, product_at side fixed j, mul-le-mul_left fixed i))

  -- so where it does not at q either, a row or column begins there,
  pub first-at : 1 ≤ b.x * b.y → ¬ Before b.x b.y (x_at side fixed q) (y_at side fixed q) → FirstBetter side fixed b q
  first-at p n =
      record {
        positive = ⊎_elim (λ z. absurd (n (omega (arith, product_at side fixed q, zero-times z)))) (λ h. h) (eq-zero-or-pos q);
        low = low;
        high = λ j i. ⊎_elim (λ t. rw (← t) n) (high j) (eq-or-lt_of_le i);
      }
    where
      zero-times : q ≡ 0 → fixed * q ≡ 0
      zero-times z = rw z (omega arith)

  -- and else at the next
  pub first-after : Before b.x b.y (x_at side fixed q) (y_at side fixed q) → FirstBetter side fixed b (q + 1)
  first-after same =
      record {
        positive = omega arith;
        low = λ j i. let k : j ≤ q = omega arith in ⊎_elim (λ t. rw t same) (low j) (eq-or-lt_of_le k);
        high = λ j i. high j (omega arith);
      }

-- a row or column begins past each place that the best comes before,
pub start-past : {side : Side} {fixed : ℕ} {b : Best} {s : ℕ} → FirstBetter side fixed b s → (j : ℕ) → Before b.x b.y (x_at side fixed j) (y_at side fixed j) → j < s
start-past {s = s} f j h = elim (dec_lt j s) [ yes l ↦ l | no l ↦ absurd (f.high j (omega arith) h) ]

-- and so no earlier for a better one
pub start-rises : {side : Side} {fixed : ℕ} {b r : Best} {s s' : ℕ} → FirstBetter side fixed b s → FirstBetter side fixed r s' → Before r.x r.y b.x b.y → s ≤ s'
start-rises {s = s} f f' t = omega (arith, f.positive, start-past f' (s - 1) (before-trans t (f.low (s - 1) (omega (arith, f.positive)))))
