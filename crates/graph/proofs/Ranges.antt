-- Laws of the first number that passes a test, of lists written out over the numbers below n, and of maps that permute these numbers.
use Prim.Native.Nat.{ℕ, zero, suc, ◌+◌, ◌*◌, ◌<◌, ◌≤◌}
use mathlib.Core.Bool.{Bool, true, false, false≢true}
use mathlib.Core.List.{List, [], ◌∷◌, ◌++◌}
use mathlib.Core.Path.{◌≡◌, refl, sym, ap, ◌∙◌}
use native.Mathlib.Decide.{dec_le}
use native.Mathlib.Nat.{le_refl, le_antisymm, mul-le-mul_left, one-mul, add-zero}
use native.Mathlib.Omega.{arith}
use borrow.Author.Tests.{eqb-true, eq-eqb}
use lib.Dec.{eqb}
use lib.ListN.{length, get_or, set, drop, length-append, get_or-append}
use lib.Seq.{ext_get_or, drop-cons, set_at, get_or_at, append_snoc, get_or-append-add}
use Rattle.std.proofs.lemmas.Bool.Decides.{nat_tests}
use Rattle.std.proofs.lemmas.Bool.{cond_both}
use Rattle.graph.specs.Range.{sum, if, first, flat, table}
use Rattle.graph.specs.Sorting.{Permutes}
use Rattle.graph.proofs.Tests.{test-ext, if_some}
use Rattle.graph.proofs.Sums.{sum-ext, sum_mono, sum_ones, sum-swap, below_suc, sum-some, sum-pick}

-- the first that passes is at most n
pub first-le : (p : ℕ → Bool) (n : ℕ) → first p n ≤ n
unfolding first
first-le p zero = omega arith
first-le p (suc n) = cond_both (p zero) _ _ (λ k. k ≤ suc n) (λ e. omega arith) (λ e. omega (arith, first-le (λ i. p (suc i)) n))

-- where it is below n it passes
pub first_passes : (p : ℕ → Bool) (n : ℕ) → first p n < n → p (first p n) ≡ true
unfolding first
first_passes p zero = λ l. absurd (omega arith)
first_passes p (suc n) = cond_both (p zero) _ _ (λ k. k < suc n → p k ≡ true) (λ e l. e) (λ e l. first_passes (λ i. p (suc i)) n (omega arith))

-- and none before it does
pub first-before : (p : ℕ → Bool) (n i : ℕ) → i < first p n → p i ≡ false
unfolding first
first-before p zero i = λ l. absurd (omega arith)
first-before p (suc n) zero = cond_both (p zero) _ _ (λ k. 0 < k → p 0 ≡ false) (λ e l. absurd (omega arith)) (λ e l. e)
first-before p (suc n) (suc i) =
    cond_both (p zero) _ _ (λ k. suc i < k → p (suc i) ≡ false) (λ e l. absurd (omega arith)) (λ e l. first-before (λ i. p (suc i)) n i (omega arith))

-- it is at most any number that passes
pub first-least : (p : ℕ → Bool) (n i : ℕ) → p i ≡ true → first p n ≤ i
first-least p n i h = elim (dec_le (first p n) i) [ yes l ↦ l | no l ↦ absurd (false≢true (sym (first-before p n i (omega arith)) ∙ h)) ]

-- so it is below n where a number below n passes
pub first_some : (p : ℕ → Bool) (n i : ℕ) → i < n → p i ≡ true → first p n < n
first_some p n i l h = omega (arith, first-least p n i h)

-- it is k where none before k passes, and k does unless it is n
pub first-is : (p : ℕ → Bool) (n k : ℕ) → k ≤ n → ((i : ℕ) → i < k → p i ≡ false) → (k < n → p k ≡ true) → first p n ≡ k
first-is p n k l none some = grind (arith, nat_tests, le_antisymm, first-least, first-le, first_passes)

-- equal tests pass first at the same number
pub first-ext : (p q : ℕ → Bool) (n : ℕ) → ((i : ℕ) → i < n → p i ≡ q i) → first p n ≡ first q n
unfolding first
first-ext p q zero e = refl
first-ext p q (suc n) e = rw (e 0 (omega arith), first-ext (λ i. p (suc i)) (λ i. q (suc i)) n (λ i l. e (suc i) (omega arith)))

-- so it is n where none passes
pub first-none : (p : ℕ → Bool) (n : ℕ) → ((i : ℕ) → i < n → p i ≡ false) → first p n ≡ n
first-none p n none = first-is p n n (le_refl n) none (λ l. absurd (omega arith))

-- equal parts make equal lists
pub flat-ext : {f h : ℕ → List ℕ} (n : ℕ) → ((i : ℕ) → i < n → f i ≡ h i) → flat f n ≡ flat h n
unfolding flat
flat-ext zero e = refl
flat-ext (suc n) e = rw (flat-ext n (λ i l. e i (omega arith)), e n (omega arith))

-- and so equal entries
pub table-ext : {f h : ℕ → ℕ} (n : ℕ) → ((i : ℕ) → i < n → f i ≡ h i) → table f n ≡ table h n
table-ext n e = flat-ext n (λ i l. rw (e i l))

-- n parts of length c have length c * n
pub length-flat : (f : ℕ → List ℕ) (c n : ℕ) → ((i : ℕ) → i < n → length (f i) ≡ c) → length (flat f n) ≡ c * n
unfolding flat
length-flat f c zero e = omega arith
length-flat f c (suc n) e = omega (arith, length-append (flat f n) (f n), length-flat f c n (λ i l. e i (omega arith)), e n (omega arith))

-- n entries have length n
pub length-table : (f : ℕ → ℕ) (n : ℕ) → length (table f n) ≡ n
length-table f n = omega (arith, length-flat (λ i. f i ∷ []) 1 n (λ i l. refl))

-- entry j of part i, of parts of length c, is entry c * i + j
pub get_or-flat : (f : ℕ → List ℕ) (c n i j : ℕ) → ((k : ℕ) → k < n → length (f k) ≡ c) → i < n → j < c → get_or (flat f n) (c * i + j) 0 ≡ get_or (f i) j 0
unfolding flat
get_or-flat f c zero i j e l h = absurd (omega arith)
get_or-flat f c (suc n) i j e l h =
    let s : length (flat f n) ≡ c * n = length-flat f c n (λ k m. e k (omega arith)) in
    below_suc l
    (λ q. rw (q, ← s, get_or-append-add))
    (λ m. get_or-append (flat f n) (f n) 0 (c * i + j) (omega (arith, mul-le-mul_left c m))
    ∙ get_or-flat f c n i j (λ k m. e k (omega arith)) m h)

-- entry i of a table
pub get_or-table : (f : ℕ → ℕ) (n i : ℕ) → i < n → get_or (table f n) i 0 ≡ f i
get_or-table f n i l = rw (one-mul, add-zero) at (get_or-flat (λ i. f i ∷ []) 1 n i 0 (λ k m. refl) l (omega arith))

-- a list with these entries is the table
pub table-unique : (l : List ℕ) (f : ℕ → ℕ) (n : ℕ) → length l ≡ n → ((i : ℕ) → i < n → get_or l i 0 ≡ f i) → l ≡ table f n
table-unique l f n s e = ext_get_or 0 l (table f n) (s ∙ sym (length-table f n)) (λ i h. e i (omega arith) ∙ sym (get_or-table f n i (omega arith)))

-- a table with one more entry
pub table-suc : (f : ℕ → ℕ) (n : ℕ) → table f (suc n) ≡ table f n ++ (f n ∷ [])
unfolding flat
table-suc f n = refl

-- a list of which the first i entries are filled, filled one further
pub table-fill : (f : ℕ → ℕ) (d : List ℕ) (i : ℕ) → i < length d → set (table f i ++ drop i d) i (f i) ≡ table f (suc i) ++ drop (suc i) d
table-fill f d i l =
    ap (λ t. set (table f i ++ t) i (f i)) (drop-cons d i 0 l)
    ∙ set_at (table f i) (get_or d i 0) (drop (suc i) d) (f i) i (length-table f i)
    ∙ rw (table-suc, append_snoc)

-- the entry that comes next is as it was
pub table-next : (f : ℕ → ℕ) (d : List ℕ) (i : ℕ) → i < length d → get_or (table f i ++ drop i d) i 0 ≡ get_or d i 0
table-next f d i l = rw (drop-cons d i 0 l) (get_or_at (table f i) (get_or d i 0) (drop (suc i) d) 0 i (length-table f i))

-- terms of which none is greater and one is smaller have a smaller sum
pub sum_less : {f h : ℕ → ℕ} (n i : ℕ) → ((k : ℕ) → k < n → f k ≤ h k) → i < n → f i < h i → sum f n < sum h n
unfolding sum
sum_less zero i e l s = absurd (omega arith)
sum_less {f} {h} (suc n) i e l s =
    below_suc l
    (λ q. let t : f n < h n = rw q at s in omega (arith, sum_mono {f = f} {h = h} n (λ k m. e k (omega arith))))
    (λ q. omega (arith, sum_less n i (λ k m. e k (omega arith)) q s, e n (omega arith)))

-- where f takes k to j, a sum over the numbers that it takes to j is the one term of k
permutes-sum-to : {f : ℕ → ℕ} {n : ℕ} → Permutes f n → (w k j : ℕ) → k < n → f k ≡ j → sum (λ i. if (eqb (f i) j) w) n ≡ w
permutes-sum-to {f} {n} p w k j l e =
    sum-ext n (λ i h. rw (same i h)) ∙ sum-pick (λ i. w) n k l
  where
    same : (i : ℕ) → i < n → eqb (f i) j ≡ eqb k i
    same i h = test-ext _ _ (λ t. eq-eqb k i (p.injective k i l h (e ∙ sym (eqb-true _ _ t)))) (λ t. eq-eqb (f i) j (rw (← eqb-true k i t) e))

-- such a map reaches every number below n
pub permutes-onto : {f : ℕ → ℕ} {n : ℕ} → Permutes f n → (j : ℕ) → j < n → (i : ℕ) × (i < n) × (f i ≡ j)
permutes-onto {f} {n} p j l =
    elim (dec_le 1 (reach j)) [
      | yes h ↦ found j h
      | no h ↦ absurd (omega (arith, all, sum_ones n, sum_less {f = reach} {h = λ i. 1} n j (λ i m. once i) l (omega arith)))
    ]
  where
    reach : ℕ → ℕ
    reach j = sum (λ i. if (eqb (f i) j) 1) n

    found : (j : ℕ) → 1 ≤ reach j → (i : ℕ) × (i < n) × (f i ≡ j)
    found j h = let (i, l, t) = sum-some (λ i. if (eqb (f i) j) 1) n h in (i, l, eqb-true _ _ (if_some _ 1 t).0)

    once : (j : ℕ) → reach j ≤ 1
    once j = elim (dec_le 1 (reach j)) [ yes h ↦ let (i, l, e) = found j h in omega (arith, permutes-sum-to p 1 i j l e) | no h ↦ omega arith ]

    all : sum reach n ≡ n
    all = sum-swap (λ j i. if (eqb (f i) j) 1) n n ∙ sum-ext n (λ i l. sum-pick (λ j. 1) n (f i) (p.below i l)) ∙ sum_ones n

-- and a sum over what it makes of them is the sum over them
pub permutes-sum : {f : ℕ → ℕ} {n : ℕ} → Permutes f n → (h : ℕ → ℕ) → sum (λ i. h (f i)) n ≡ sum h n
permutes-sum {f} {n} p h =
    sum-ext n (λ i l. sym (sum-pick h n (f i) (p.below i l)))
    ∙ sum-swap (λ i j. if (eqb (f i) j) (h j)) n n
    ∙ sum-ext n (λ j l. let (k, m, e) = permutes-onto p j l in permutes-sum-to p (h j) k j m e)
