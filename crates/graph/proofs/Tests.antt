-- Laws of tests: `&&`, `if` and `eqb`.
use Prim.Native.Nat.{ℕ, suc, ◌+◌, ◌≤◌}
use mathlib.Core.Bool.{Bool, true, false, not, ◌&&◌}
use mathlib.Core.Logic.{◌≢◌}
use mathlib.Core.Path.{◌≡◌, sym, ap, ◌∙◌}
use native.Mathlib.Decide.{ℕ_discrete}
use native.Mathlib.Nat.{add_left_cancel}
use native.Mathlib.Omega.{arith}
use borrow.Author.Tests.{eq-eqb, ne_eqb, eqb-true}
use lib.Dec.{eqb, ltb}
use Rattle.std.proofs.lemmas.Bool.Decides.{nat_tests}
use Rattle.std.proofs.lemmas.Bool.{and_parts, false_from_ne_true}
use Rattle.graph.specs.Range.{if}

-- where two tests hold together the first holds
pub and_left : (a b : Bool) → (a && b) ≡ true → a ≡ true
and_left a b h = (and_parts a b h).0

-- and so the second
pub and_right : (a b : Bool) → (a && b) ≡ true → b ≡ true
and_right a b h = (and_parts a b h).1

-- and two that each hold hold together
pub and_both : {a b : Bool} → a ≡ true → b ≡ true → (a && b) ≡ true
and_both p q = rw (p, q)

-- two tests of which each holds where the other does are equal
pub test-ext : (a b : Bool) → (a ≡ true → b ≡ true) → (b ≡ true → a ≡ true) → a ≡ b
test-ext a b h i = grind (arith, nat_tests)

-- a test that may not hold fails
pub test-fails : (b : Bool) → (b ≡ true → ⊥) → b ≡ false
test-fails = false_from_ne_true

-- the order of two tests does not count
pub if-comm : (a b : Bool) (w : ℕ) → if (a && b) w ≡ if (b && a) w
if-comm a b w = grind (arith, nat_tests)

-- a test that holds more often counts more
pub if-mono : {a b : Bool} (w : ℕ) → (a ≡ true → b ≡ true) → if a w ≤ if b w
if-mono w h = grind (arith, nat_tests)

-- nor does it count less with a greater weight, which is asked for only where it holds
pub if-heavier : (b : Bool) {i j : ℕ} → (b ≡ true → i ≤ j) → if b i ≤ if b j
if-heavier b h = grind (arith, nat_tests)

-- no test counts more than its weight
pub if-le : (b : Bool) (w : ℕ) → if b w ≤ w
if-le b w = grind (arith, nat_tests)

-- what counts was tested for
pub if_some : (b : Bool) (w : ℕ) → 1 ≤ if b w → (b ≡ true) × (1 ≤ w)
if_some b w h = grind (arith, nat_tests)

-- nor does it one after the other
pub if-swap : (a b : Bool) (w : ℕ) → if a (if b w) ≡ if b (if a w)
if-swap a b w = grind (arith, nat_tests)

-- two tests one within the other change places
pub if-turn : (a q b : Bool) (w : ℕ) → if a (if (q && b) w) ≡ if q (if (a && b) w)
if-turn a q b w = grind (arith, nat_tests)

-- a test that covers q counts what it counts outside q, and what q counts
pub if-split : (q s : Bool) (w : ℕ) → (q ≡ true → s ≡ true) → if s w ≡ if (not q && s) w + if q w
if-split q s w h = grind (arith, nat_tests)

-- equality of numbers that are moved by the same is that of the numbers
pub eqb-shift : (n a b : ℕ) → eqb (n + a) (n + b) ≡ eqb a b
eqb-shift n a b = test-ext _ _ (λ h. eq-eqb a b (add_left_cancel n (eqb-true _ _ h))) (λ h. eq-eqb (n + a) (n + b) (ap (n +◌) (eqb-true a b h)))

-- a test before a sum of two goes before each
pub if-add : (b : Bool) (i j : ℕ) → if b (i + j) ≡ if b i + if b j
if-add b i j = grind (arith, nat_tests)

-- a test for one number counts there
pub if-same : (k i w : ℕ) → k ≡ i → if (eqb k i) w ≡ w
if-same k i w e = rw (eq-eqb _ _ e)

-- it counts nothing elsewhere
pub if-other : (k i w : ℕ) → k ≢ i → if (eqb k i) w ≡ 0
if-other k i w e = rw (ne_eqb _ _ e)

-- a test for equal numbers holds either way round
pub eqb-sym : (a b : ℕ) → eqb a b ≡ eqb b a
eqb-sym a b = elim (ℕ_discrete a b) [ yes e ↦ eq-eqb a b e ∙ sym (eq-eqb b a (sym e)) | no h ↦ ne_eqb a b h ∙ sym (ne_eqb b a (λ e. h (sym e))) ]

-- nothing counts as nothing
pub if-zero : (b : Bool) → if b 0 ≡ 0
if-zero b = grind (arith, nat_tests)

-- a number is below v + 1 where it is below v or v itself
pub if-suc : (t v : ℕ) → if (ltb t (suc v)) 1 ≡ if (ltb t v) 1 + if (eqb t v) 1
if-suc t v = grind (arith, nat_tests)
