-- The order in which the pairs [x,y] of non-empty cores come: it is total, and no two pairs of at least 1 come before each other.
use Prim.Native.Nat.{ℕ, ◌*◌, ◌≤◌}
use mathlib.Core.Logic.{◌⊎◌, ⊎_elim}
use mathlib.Core.Path.{◌≡◌}
use native.Mathlib.Nat.{mul_comm, mul-le-mul_left, mul-le-mul_right, eq-or-lt_of_le}
use native.Mathlib.Omega.{arith}
use Rattle.std.proofs.lemmas.Bool.Decides.{nat_tests}
use Rattle.graph.specs.Core.{apart, Before}

-- 02, wish 4: no star hides a ring: [x,y] of at least 2 comes before the two stars of its product
pub before-stars : {x y : ℕ} → 2 ≤ x → 2 ≤ y → Before x y 1 (x * y) × Before x y (x * y) 1
unfolding apart
before-stars {x} {y} p q = grind (arith, nat_tests)

-- of a pair and the same turned round, which have one product and one difference, the smaller x comes first
pub before-turned : {x y : ℕ} → x ≤ y → Before x y y x
unfolding apart
before-turned {x} {y} l = omega (arith, mul_comm x y)

-- every pair comes before itself
pub before-refl : (x y : ℕ) → Before x y x y
before-refl x y = omega arith

-- of one x the greater y comes first,
pub row_before : {x y y' : ℕ} → 1 ≤ x → y' ≤ y → Before x y x y'
row_before {x} {y} p l = ⊎_elim (λ e. rw e (before-refl x y)) (λ h. omega (arith, mul-le-mul_left x h)) (eq-or-lt_of_le l)

-- and of one y the greater x
pub column-before : {x y x' : ℕ} → 1 ≤ y → x' ≤ x → Before x y x' y
column-before {x} {y} p l = ⊎_elim (λ e. rw e (before-refl x y)) (λ h. omega (arith, mul-le-mul_right y h)) (eq-or-lt_of_le l)

-- a pair comes before whatever comes after one that it comes before
pub before-trans : {x y x' y' x'' y'' : ℕ} → Before x y x' y' → Before x' y' x'' y'' → Before x y x'' y''
before-trans p q = grind (arith, nat_tests)

-- two of which each comes before the other are the same
pub before-unique : {x y x' y' : ℕ} → 1 ≤ x → Before x y x' y' → Before x' y' x y → (x ≡ x') × (y ≡ y')
before-unique {x} {y} {x'} {y'} l p q = grind (arith, nat_tests)

-- one of two comes before the other
pub before-total : (x y x' y' : ℕ) → Before x y x' y' ⊎ Before x' y' x y
before-total x y x' y' = grind (arith, nat_tests)

-- so one before which another does not come comes before that
pub before-else : {x y x' y' : ℕ} → ¬ Before x y x' y' → Before x' y' x y
before-else {x} {y} {x'} {y'} n = ⊎_elim (λ h. absurd (n h)) (λ h. h) (before-total x y x' y')
