-- A pair is compared with the best: by the products, where these are equal by the differences, and where these are equal too by x.
use Prim.Native.Nat.{ℕ, ◌*◌, ◌≤◌}
use mathlib.Core.Bool.{false}
use mathlib.Core.Logic.{◌↔◌}
use mathlib.Core.Path.{◌≡◌}
use native.Mathlib.Omega.{arith}
use borrow.Author.Tests.{ltb-false, le-ltb}
use lib.Dec.{ltb}
use Rattle.graph.specs.Core.{apart, Before}
use Rattle.searching.specs.declared.Best.{Best}

-- a test of two numbers tells what holds exactly where the first is not the smaller one
told : {P : Type 0} (i j : ℕ) → (j ≤ i) ↔ P → (ltb i j ≡ false) ↔ P
told i j (to, from) = (λ h. to (ltb-false i j h), λ p. le-ltb i j (from p))

module _ (p b : Best) where
  -- the greater product comes first
  pub by_product : ¬ (p.x * p.y ≡ b.x * b.y) → (ltb (b.x * b.y) (p.x * p.y) ≡ false) ↔ Before b.x b.y p.x p.y
  by_product n = told (b.x * b.y) (p.x * p.y) (λ l. omega arith, λ h. h.product)

  module _ {d d' : ℕ} (i : d ≡ apart p.x p.y) (j : d' ≡ apart b.x b.y) (e : p.x * p.y ≡ b.x * b.y) where
    -- among equal products the smaller difference
    pub by_difference : ¬ (d ≡ d') → (ltb d d' ≡ false) ↔ Before b.x b.y p.x p.y
    by_difference n = told d d' (λ l. omega arith, λ h. omega (arith, h.even e))

    -- among equal differences the smaller x
    pub by-x : d ≡ d' → (ltb p.x b.x ≡ false) ↔ Before b.x b.y p.x p.y
    by-x q = told p.x b.x (λ l. omega arith, λ h. h.tie e (omega arith))
