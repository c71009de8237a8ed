-- The first number that none beats: where beating ranks the numbers there is one, and only one, and it is found as it is defined. Smaller keys rank
-- the numbers, and so do greater quotients.
use Prim.Native.Nat.{ℕ, zero, suc, ◌*◌, ◌<◌, ◌≤◌}
use mathlib.Core.Bool.{Bool, true, false, ◌&&◌, false≢true, and-false}
use mathlib.Core.Logic.{◌⊎◌, inl, inr, ⊎_elim}
use mathlib.Core.Path.{◌≡◌, sym, ap, ◌∙◌}
use native.Mathlib.Nat.{mul-le-mul_right, mul-lt-mul_of_pos_right, lt_of_mul-lt-mul_right}
use native.Mathlib.Omega.{arith}
use borrow.Author.Tests.{lt-ltb, le-ltb, ltb-true, ltb-false, eq-eqb, ne_eqb}
use lib.Dec.{eqb}
use Rattle.std.proofs.lemmas.Bool.Decides.{nat_tests}
use Rattle.std.proofs.lemmas.Bool.{cases_Bool}
use Rattle.graph.specs.Range.{sum, if}
use Rattle.graph.specs.Graph.{Group}
use Rattle.graph.specs.Harmonic.{unbeaten}
use Rattle.graph.specs.Drops.{Unbeaten, smaller, Least, higher}
use Rattle.graph.proofs.Tests.{and_both}
use Rattle.graph.proofs.Sums.{sum-ext, sum-none, below_suc, term-le-sum}
use Rattle.graph.proofs.Ranges.{first-le, first-ext, first-is}

-- what is unbeaten is what is looked for
pub unbeaten-is : {beats : ℕ → ℕ → Bool} {R : Group} {n p : ℕ} → Unbeaten beats R n p → unbeaten beats R n ≡ p
unfolding unbeaten
unbeaten-is {beats} {R} {n} {p} s = first-is _ n p (omega (arith, s.below)) before (λ l. and_both s.member (eq-eqb (beaters p) 0 none))
  where
    beaters : ℕ → ℕ
    beaters q = sum (λ r. if (R r && beats r q) 1) n

    none : beaters p ≡ 0
    none = sum-none _ n (λ q l. ⊎_elim (λ t. rw (s.best q l t, and-false)) (λ t. rw t) (cases_Bool (R q)))

    before : (q : ℕ) → q < p → (R q && eqb (beaters q) 0) ≡ false
    before q l =
        ⊎_elim
        (λ t.
        let some : 1 ≤ beaters q = rw (s.member, s.earliest q l t) at (term-le-sum (λ r. if (R r && beats r q) 1) n p s.below) in
        rw t (ne_eqb (beaters q) 0 (λ z. omega arith)))
        (λ t. rw t)
        (cases_Bool (R q))

-- so there is only one
pub unbeaten-unique : {beats : ℕ → ℕ → Bool} {R : Group} {n p q : ℕ} → Unbeaten beats R n p → Unbeaten beats R n q → p ≡ q
unbeaten-unique s t = sym (unbeaten-is s) ∙ unbeaten-is t

-- only what beats what below n counts,
pub unbeaten-below : (beats beats' : ℕ → ℕ → Bool) (R : Group) (n : ℕ) → ((q p : ℕ) → q < n → p < n → beats q p ≡ beats' q p)
    → unbeaten beats R n ≡ unbeaten beats' R n
unfolding unbeaten
unbeaten-below beats beats' R n e = grind (arith, nat_tests, first-ext, sum-ext)

-- and where none is unbeaten it is n
pub unbeaten-le : (beats : ℕ → ℕ → Bool) (R : Group) (n : ℕ) → unbeaten beats R n ≤ n
unfolding unbeaten
unbeaten-le beats R n = first-le _ n

-- beating ranks the numbers below N: none of two beats the other both ways, and what beats a number beats all that do not beat it
pub record Ranks (beats : ℕ → ℕ → Bool) (N : ℕ) : Type 0 where
  pub one_way : (p q : ℕ) → p < N → q < N → beats p q ≡ true → beats q p ≡ false
  pub over : (p q r : ℕ) → p < N → q < N → r < N → beats p q ≡ true → beats r q ≡ false → beats p r ≡ true

-- a number more that does not beat the unbeaten one, or does not count, changes nothing
pub unbeaten-keep : {beats : ℕ → ℕ → Bool} {R : Group} {n i : ℕ} → Unbeaten beats R n i → (R n ≡ true → beats n i ≡ false) → Unbeaten beats R (suc n) i
unbeaten-keep {beats} {R} {n} {i} s h = grind (arith, nat_tests)

module _ {beats : ℕ → ℕ → Bool} {N : ℕ} (ranks : Ranks beats N) where
  -- no number beats itself
  self : (p : ℕ) → p < N → beats p p ≡ false
  self p l = ⊎_elim (λ t. ranks.one_way p p l l t) (λ t. t) (cases_Bool (beats p p))

  -- one that beats all before it is unbeaten
  alone : {R : Group} {n : ℕ} → n < N → R n ≡ true → ((q : ℕ) → q < n → R q ≡ true → beats n q ≡ true) → Unbeaten beats R (suc n) n
  alone {R} {n} l t h = grind (arith, nat_tests)

  -- of one number the first is unbeaten
  pub unbeaten-start : {R : Group} → 1 ≤ N → R 0 ≡ true → Unbeaten beats R 1 0
  unbeaten-start l t = alone l t (λ q k. absurd (omega arith))

  -- a number more that beats the unbeaten one is unbeaten
  pub unbeaten-take : {R : Group} {n i : ℕ} → n < N → R n ≡ true → Unbeaten beats R n i → beats n i ≡ true → Unbeaten beats R (suc n) n
  unbeaten-take {n = n} {i = i} l t s b = grind (arith, nat_tests)

  -- so one is unbeaten, or none counts
  scan : (R : Group) (n : ℕ) → n ≤ N → ((p : ℕ) × Unbeaten beats R n p) ⊎ ((q : ℕ) → q < n → R q ≡ false)
  scan R zero l = inr (λ q k. absurd (omega arith))
  scan R (suc n) l = ⊎_elim some none (scan R n (omega arith))
    where
      some : (p : ℕ) × Unbeaten beats R n p → ((p : ℕ) × Unbeaten beats R (suc n) p) ⊎ ((q : ℕ) → q < suc n → R q ≡ false)
      some (p, s) =
          ⊎_elim
          (λ t. ⊎_elim (λ b. inl (n, unbeaten-take (omega arith) t s b)) (λ b. inl (p, unbeaten-keep s (λ m. b))) (cases_Bool (beats n p)))
          (λ t. inl (p, unbeaten-keep s (λ m. absurd (false≢true (sym t ∙ m)))))
          (cases_Bool (R n))

      none : ((q : ℕ) → q < n → R q ≡ false) → ((p : ℕ) × Unbeaten beats R (suc n) p) ⊎ ((q : ℕ) → q < suc n → R q ≡ false)
      none f =
          ⊎_elim
          (λ t. inl (n, alone (omega arith) t (λ q k m. absurd (false≢true (sym (f q k) ∙ m)))))
          (λ t. inr (λ q k. below_suc k (λ e. ap R e ∙ t) (f q)))
          (cases_Bool (R n))

  -- where some number counts the one that is looked for is unbeaten
  pub unbeaten-found : (R : Group) (q : ℕ) → q < N → R q ≡ true → Unbeaten beats R N (unbeaten beats R N)
  unbeaten-found R q l t = ⊎_elim (λ (p, s). rw (unbeaten-is s) s) (λ f. absurd (false≢true (sym (f q l) ∙ t))) (scan R N (omega arith))

-- smaller keys rank
pub smaller-ranks : (key : ℕ → ℕ) (N : ℕ) → Ranks (smaller key) N
smaller-ranks key N = grind (arith, nat_tests)

-- and greater quotients do where no b is 0
pub higher-ranks : (a b : ℕ → ℕ) (N : ℕ) → ((i : ℕ) → i < N → 1 ≤ b i) → Ranks (higher a b) N
higher-ranks a b N some =
    record {
      one_way = λ p q k l h. le-ltb (a p * b q) (a q * b p) (omega (arith, ltb-true (a q * b p) (a p * b q) h));
      over = λ p q r k l m h j. lt-ltb (a r * b p) (a p * b r) (above p q r m (ltb-true _ _ h) (ltb-false _ _ j));
    }
  where
    above : (p q r : ℕ) → r < N → a q * b p < a p * b q → a r * b q ≤ a q * b r → a r * b p < a p * b r
    above p q r m h j = lt_of_mul-lt-mul_right (b q) (omega (arith, mul-le-mul_right (b p) j, mul-lt-mul_of_pos_right h (some r m)))

-- the least key is no greater than any,
pub least-le : (key : ℕ → ℕ) {R : Group} {n p : ℕ} → Least key R n p → (q : ℕ) → q < n → R q ≡ true → key p ≤ key q
least-le key {p = p} s q l t = ltb-false (key q) (key p) (s.best q l t)

-- and smaller than those before it
pub least_lt : (key : ℕ → ℕ) {R : Group} {n p : ℕ} → Least key R n p → (q : ℕ) → q < p → R q ≡ true → key p < key q
least_lt key {p = p} s q l t = ltb-true (key p) (key q) (s.earliest q l t)

-- a place with such a key is the least
pub least_by : (key : ℕ → ℕ) {R : Group} {n p : ℕ} → p < n → R p ≡ true → ((q : ℕ) → q < n → R q ≡ true → key p ≤ key q)
    → ((q : ℕ) → q < p → R q ≡ true → key p < key q) → Least key R n p
least_by key l t a b = record { below = l; member = t; best = λ q k m. le-ltb _ _ (a q k m); earliest = λ q k m. lt-ltb _ _ (b q k m) }
