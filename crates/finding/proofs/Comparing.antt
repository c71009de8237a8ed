-- Two tables compared, byte by byte; and what that tells of the groups that they begin with.
use Prim.Native.Nat.{ℕ, ◌+◌, ◌-◌, ◌<◌, ◌≤◌, max}
use mathlib.Core.Bool.{Bool, true, false, ◌&&◌}
use mathlib.Core.List.{List}
use mathlib.Core.Logic.{◌↔◌}
use mathlib.Core.Path.{◌≡◌, sym, ap, ◌∙◌}
use native.Mathlib.Omega.{arith}
use borrow.Author.Count.{below_more}
use borrow.Author.Tests.{eqb-true, eq-eqb}
use lib.Dec.{eqb}
use lib.ListN.{length, get_or, take, length-take}
use Rattle.std.proofs.lemmas.Bool.Decides.{nat_tests}
use Rattle.std.proofs.lemmas.List.{get_or-take}
use Rattle.graph.proofs.Tests.{and_left, and_right, and_both, test-fails}
use Rattle.network.specs.Groups.{is_group}
use Rattle.network.proofs.Groups.{group-byte, byte-group}
use Rattle.finding.specs.Compared.{Bits, Alike}
use Rattle.finding.specs.Equality.{Agree}

module _ (a b : List ℕ) (k : ℕ) {one other : ℕ} (p : one ≡ get_or a k 0) (q : other ≡ get_or b k 0) where
  -- the greatest of the bytes passed and of these two is at most 1 exactly where each of them is 0 or 1
  pub bits-next : {greatest : ℕ} → (greatest ≤ 1) ↔ ((u : ℕ) → u < k → (get_or a u 0 ≤ 1) × (get_or b u 0 ≤ 1))
      → (max (max greatest one) other ≤ 1) ↔ ((u : ℕ) → u < k + 1 → (get_or a u 0 ≤ 1) × (get_or b u 0 ≤ 1))
  bits-next (to, from) =
      (λ h. below_more _ _ (to (omega arith)) (omega arith), λ h. omega (arith, from (λ u l. h u (omega arith)), h k (omega arith)))

  -- and they are the same exactly where those passed are, and these two
  pub alike-next : {alike : Bool} → (alike ≡ true) ↔ ((u : ℕ) → u < k → get_or a u 0 ≡ get_or b u 0)
      → ((alike && eqb one other) ≡ true) ↔ ((u : ℕ) → u < k + 1 → get_or a u 0 ≡ get_or b u 0)
  alike-next {alike} (to, from) = (
    (λ h. below_more _ _ (to (and_left alike _ h)) (omega (arith, eqb-true one other (and_right alike _ h)))),
    λ h. and_both (from (λ u l. h u (omega arith))) (eq-eqb one other (omega (arith, h k (omega arith)))),
  )

-- a byte of the first n of a table
first_byte : (n : ℕ) (s : List ℕ) (u : ℕ) → n ≤ length s → u < n → (u < length (take (n - 0) s)) × (get_or (take (n - 0) s) u 0 ≡ get_or s u 0)
first_byte n s u h i = (omega (arith, length-take (n - 0) s), get_or-take (n - 0) s u 0 (omega arith))

-- bytes that are 0 or 1 are the same where they are both 1 or both not
same-byte : (i j : ℕ) → i ≤ 1 → j ≤ 1 → eqb i 1 ≡ eqb j 1 → i ≡ j
same-byte i j h m t = grind (arith, nat_tests)

module _ {n k : ℕ} (a b : List ℕ) (e : n ≡ k) (p : n ≤ length a) (q : k ≤ length b) where
  -- the first n bytes of two tables are 0 and 1 where both are groups
  groups-bits : is_group n a ≡ true → is_group k b ≡ true → Bits (take (n - 0) a) (take (k - 0) b)
  groups-bits g h u l m =
      let i : u < n = omega (arith, length-take (n - 0) a) in
      let j : u < k = omega arith in
      (rw (first_byte n a u p i).1 (group-byte n a g u i), rw (first_byte k b u q j).1 (group-byte k b h u j))

  -- so where they are not, one of the two is no group
  pub bits-faulty : (Bits (take (n - 0) a) (take (k - 0) b) → ⊥) → (is_group n a && is_group k b) ≡ false
  bits-faulty f = test-fails _ (λ h. f (groups-bits (and_left _ (is_group k b) h) (and_right (is_group n a) _ h)))

  -- and where they are, both are, and whether the bytes are the same tells whether the groups agree
  pub bits-told : {alike : Bool} → Bits (take (n - 0) a) (take (k - 0) b) × ((alike ≡ true) ↔ Alike (take (n - 0) a) (take (k - 0) b))
      → (is_group n a ≡ true) × (is_group k b ≡ true) × ((alike ≡ true) ↔ Agree n a b)
  bits-told (bits, (to, from)) = (byte-group n a (λ u i. (here u i).0), byte-group k b (λ u i. (here u (omega arith)).1), (λ h. agree (to h), λ h. from (alike_so h)))
    where
      here : (u : ℕ) → u < n → (get_or a u 0 ≤ 1) × (get_or b u 0 ≤ 1)
      here u i =
          let (l, x) = first_byte n a u p i in
          let (m, y) = first_byte k b u q (omega arith) in
          let (c, d) = bits u l m in
          (rw (← x) c, rw (← y) d)

      agree : Alike (take (n - 0) a) (take (k - 0) b) → Agree n a b
      agree h u i =
          let (l, x) = first_byte n a u p i in
          let (m, y) = first_byte k b u q (omega arith) in
          ap (λ j. eqb j 1) (sym x ∙ h u l m ∙ y)

      alike_so : Agree n a b → Alike (take (n - 0) a) (take (k - 0) b)
      alike_so h u l m =
          let i : u < n = omega (arith, length-take (n - 0) a) in
          let (c, d) = here u i in
          (first_byte n a u p i).1 ∙ same-byte _ _ c d (h u i) ∙ sym (first_byte k b u q (omega arith)).1
