-- A list of links that keeps a set: what its places tell, and what is kept when a link is put in or taken out.
use Prim.Native.Nat.{ℕ, zero, suc, ◌+◌, ◌-◌, ◌<◌, ◌≤◌}
use mathlib.Core.Bool.{Bool, true, false, not, ◌||◌, false≢true}
use mathlib.Core.List.{[], ◌∷◌}
use mathlib.Core.Logic.{◌↔◌}
use mathlib.Core.Path.{◌≡◌, refl, sym, ap, ◌∙◌}
use native.Mathlib.Decide.{ℕ_discrete, dec_lt}
use native.Mathlib.Omega.{arith}
use borrow.Author.Tests.{eqb-true, ltb-true, not-true, eq-eqb, le-ltb}
use lib.Dec.{eqb, ltb}
use lib.ListN.{length, get_or}
use Rattle.std.proofs.lemmas.Bool.Decides.{nat_tests}
use Rattle.std.proofs.lemmas.Bool.{and_parts, or_right}
use Rattle.std.proofs.lemmas.List.Edits.{length-insert, get_or-insert_below, get_or-insert_at, get_or-insert_above, length-remove, get_or-remove_below, get_or-remove_above}
use Rattle.std.specs.List as list
use Rattle.graph.specs.Range.{sum, if}
use Rattle.graph.specs.Order.{lexicographic}
use Rattle.graph.proofs.Tests.{and_both, test-ext, test-fails}
use Rattle.graph.proofs.Sums.{sum-ext, sum-none, sum-pick}
use Rattle.graph.proofs.Order.{lexicographic-same}
use Rattle.linkset.specs.Links.{Links, empty, is, with, without}
use Rattle.linkset.specs.Tables.{Pairs, source_at, target_at, before_at, Sorted, Stands, Keeps, Place, is_at}

-- two links are the same exactly when their ends are
pub is_same : (a b u v : ℕ) → is a b u v ≡ true → (u ≡ a) × (v ≡ b)
is_same a b u v t = let (p, q) = and_parts (eqb u a) (eqb v b) t in (eqb-true u a p, eqb-true v b q)

same-is : (a b u v : ℕ) → u ≡ a → v ≡ b → is a b u v ≡ true
same-is a b u v p q = and_both (eq-eqb u a p) (eq-eqb v b q)

-- no link comes before itself
not_itself : (a b : ℕ) → lexicographic a a (ltb b b) ≡ false
not_itself a b = lexicographic-same a a _ refl ∙ le-ltb b b (omega arith)

-- of two links that differ, one comes before the other
before-other : (u v a b : ℕ) → lexicographic u a (ltb v b) ≡ false → (u ≡ a → v ≡ b → ⊥) → lexicographic a u (ltb b v) ≡ true
before-other u v a b f ne = grind (arith, nat_tests)

-- no two links of a set are the same
pub sorted-once : (l : Pairs) (d e : ℕ) → Sorted l → d < length l → e < length l → source_at l d ≡ source_at l e → target_at l d ≡ target_at l e → d ≡ e
sorted-once l d e s h k p q =
    elim (dec_lt d e) [
      | yes i ↦ absurd (false≢true (sym (not_itself (source_at l e) (target_at l e)) ∙ (rw (p, q) at (s.ascends d e i k))))
      | no i ↦ elim (dec_lt e d) [
        | yes j ↦ absurd (false≢true (sym (not_itself (source_at l d) (target_at l d)) ∙ (rw (← p, ← q) at (s.ascends e d j h))))
        | no j ↦ omega arith
      ]
    ]

-- a link that stands at a place stands below the end
pub place-below : (l : Pairs) (r a b : ℕ) → is_at l r a b ≡ true → r < length l
place-below l r a b at = ltb-true r (length l) (and_parts (ltb r (length l)) (is a b (source_at l r) (target_at l r)) at).0

-- the empty list keeps no link
pub keeps-none : Keeps empty []
keeps-none = record { sorted = record { ascends = λ d e h k. absurd (omega arith) }; linked = λ u v. (λ (e, h, p, q). absurd (omega arith), λ t. absurd (false≢true t)) }

-- a link is in the set exactly where it stands at its place
pub keeps-at : (S : Links) (l : Pairs) (a b r : ℕ) → Keeps S l → Place l a b r → is_at l r a b ≡ S a b
keeps-at S l a b r h pl = grind (arith, nat_tests)

-- each link of the set stands once in the list
pub keeps-once : (S : Links) (l : Pairs) (u v : ℕ) → Keeps S l → sum (λ e. if (is u v (source_at l e) (target_at l e)) 1) (length l) ≡ if (S u v) 1
keeps-once S l u v h = go (S u v) refl
  where
    go : (t : Bool) → S u v ≡ t → sum (λ e. if (is u v (source_at l e) (target_at l e)) 1) (length l) ≡ if t 1
    go false f =
        sum-none _ (length l) (λ e k. ap (λ t. if t 1) (test-fails _ (λ t. let (p, q) = is_same u v _ _ t in false≢true (sym f ∙ (h.linked u v).0 (e, k, p, q)))))
    go true t =
        let (e, k, p, q) = (h.linked u v).1 t in
        sum-ext (length l) (λ d i. ap (λ b. if b 1) (test-ext _ _
        (λ s. let (x, y) = is_same u v _ _ s in eq-eqb e d (sorted-once l e d h.sorted k i (p ∙ sym x) (q ∙ sym y)))
        (λ s. let z = eqb-true e d s in same-is u v _ _ (ap (source_at l) (sym z) ∙ p) (ap (target_at l) (sym z) ∙ q))))
        ∙ sum-pick (λ d. 1) (length l) e k

-- a link put in at its place, and the later ones moved up
module _ (S : Links) (l : Pairs) (r a b : ℕ) (h : Keeps S l) (pl : Place l a b r) (absent : S a b ≡ false) where
  -- they are these then
  abbrev l' : Pairs
  l' = list.insert l r (a ∷ b ∷ [])

  long : length l' ≡ suc (length l)
  long = omega (arith, length-insert l r (a ∷ b ∷ []) pl.most)

  front : (e : ℕ) → e < r → get_or l' e [] ≡ get_or l e []
  front e k = get_or-insert_below l r (a ∷ b ∷ []) [] e k pl.most

  put_in : get_or l' r [] ≡ a ∷ b ∷ []
  put_in = get_or-insert_at l r (a ∷ b ∷ []) [] pl.most

  moved : (e : ℕ) → r < e → get_or l' e [] ≡ get_or l (e - 1) []
  moved e k = ap (λ i. get_or l' i []) (omega arith) ∙ get_or-insert_above l r (a ∷ b ∷ []) [] (e - 1) (omega arith) pl.most

  linked-inserted : (u v : ℕ) → Stands l' u v ↔ (with S a b u v ≡ true)
  linked-inserted u v = (read, λ t. put (is a b u v) refl t)
    where
      old : S u v ≡ true → with S a b u v ≡ true
      old t = or_right (is a b u v) (S u v) t

      -- a link is before the place, or at it, or was moved
      read : Stands l' u v → with S a b u v ≡ true
      read (e, k, p, q) =
          elim (dec_lt e r) [
            | yes i ↦ old ((h.linked u v).0 (e, omega (arith, pl.most), rw (front e i) at p, rw (front e i) at q))
            | no i ↦ elim (ℕ_discrete e r) [
              | yes j ↦ let s = same-is a b u v (sym (rw (j, put_in) at p)) (sym (rw (j, put_in) at q)) in rw s
              | no j ↦ old ((h.linked u v).0 (e - 1, omega (arith, long), rw (moved e (omega arith)) at p, rw (moved e (omega arith)) at q))
            ]
          ]

      put : (x : Bool) → is a b u v ≡ x → (x || S u v) ≡ true → Stands l' u v
      put true s t = let (p, q) = is_same a b u v s in (r, omega (arith, pl.most, long), rw put_in (sym p), rw put_in (sym q))
      put false s t =
          let (e, k, p, q) = (h.linked u v).1 t in
          elim (dec_lt e r) [
            | yes i ↦ (e, omega (arith, long), rw (front e i) p, rw (front e i) q)
            | no i ↦ let z : e + 1 - 1 ≡ e = omega arith in (e + 1, omega (arith, long), rw (moved (e + 1) (omega arith), z) p, rw (moved (e + 1) (omega arith), z) q)
          ]

  -- the link comes before those that were moved
  after : (e : ℕ) → r ≤ e → e < length l → lexicographic a (source_at l e) (ltb b (target_at l e)) ≡ true
  after e k i = before-other (source_at l e) (target_at l e) a b (pl.from e k i) (λ p q. false≢true (sym absent ∙ (h.linked a b).0 (e, i, p, q)))

  ascends-inserted : (d e : ℕ) → d < e → e < length l' → before_at l' (source_at l' e) (target_at l' e) d ≡ true
  ascends-inserted d e i k =
      elim (dec_lt e r) [
        | yes g ↦ rw (front e g, front d (omega arith)) (h.sorted.ascends d e i (omega (arith, pl.most)))
        | no g ↦ elim (ℕ_discrete e r) [
          | yes q ↦ rw (q, put_in, front d (omega arith)) (pl.before d (omega arith))
          | no q ↦ elim (dec_lt d r) [
            | yes x ↦ rw (moved e (omega arith), front d x) (h.sorted.ascends d (e - 1) (omega arith) (omega (arith, long)))
            | no x ↦ elim (ℕ_discrete d r) [
              | yes z ↦ rw (moved e (omega arith), z, put_in) (after (e - 1) (omega arith) (omega (arith, long)))
              | no z ↦ rw (moved e (omega arith), moved d (omega arith)) (h.sorted.ascends (d - 1) (e - 1) (omega arith) (omega (arith, long)))
            ]
          ]
        ]
      ]

  -- the links with one put in at its place keep the set with the link
  pub keeps-inserted : Keeps (with S a b) l'
  keeps-inserted = record { sorted = record { ascends = ascends-inserted }; linked = linked-inserted }

-- a link taken out of its place, and the later ones moved down
module _ (S : Links) (l : Pairs) (r a b : ℕ) (h : Keeps S l) (at : is_at l r a b ≡ true) where
  -- these are left
  abbrev left : Pairs
  left = list.remove l r

  below : r < length l
  below = place-below l r a b at

  short : suc (length left) ≡ length l
  short = omega (arith, length-remove l r below)

  kept : (e : ℕ) → e < r → get_or left e [] ≡ get_or l e []
  kept e k = get_or-remove_below l r [] e k below

  lowered : (e : ℕ) → r ≤ e → get_or left e [] ≡ get_or l (suc e) []
  lowered e k = (let j : suc e ≡ e + 1 = omega arith in rw j (get_or-remove_above l r [] e k below))

  ends : (source_at l r ≡ a) × (target_at l r ≡ b)
  ends = is_same a b _ _ (and_parts (ltb r (length l)) (is a b (source_at l r) (target_at l r)) at).1

  linked-removed : (u v : ℕ) → Stands left u v ↔ (without S a b u v ≡ true)
  linked-removed u v = (read, put)
    where
      -- a link at another place is left
      other : (e : ℕ) → e < length l → (e ≡ r → ⊥) → source_at l e ≡ u → target_at l e ≡ v → without S a b u v ≡ true
      other e k ne p q =
          let f : is a b u v ≡ false = test-fails _ (λ t. let (x, y) = is_same a b u v t in ne (sorted-once l e r h.sorted k below (p ∙ x ∙ sym ends.0) (q ∙ y ∙ sym ends.1))) in
          rw f ((h.linked u v).0 (e, k, p, q))

      read : Stands left u v → without S a b u v ≡ true
      read (e, k, p, q) =
          elim (dec_lt e r) [
            | yes i ↦ other e (omega (arith, short)) (λ z. omega arith) (rw (kept e i) at p) (rw (kept e i) at q)
            | no i ↦ other (suc e) (omega (arith, short)) (λ z. omega arith) (rw (lowered e (omega arith)) at p) (rw (lowered e (omega arith)) at q)
          ]

      later : (e : ℕ) → e < length l → r < e → source_at l e ≡ u → target_at l e ≡ v → Stands left u v
      later zero k i p q = absurd (omega arith)
      later (suc e) k i p q = (e, omega (arith, short), rw (lowered e (omega arith)) p, rw (lowered e (omega arith)) q)

      put : without S a b u v ≡ true → Stands left u v
      put t =
          let (f, s) = and_parts (not (is a b u v)) (S u v) t in
          let (e, k, p, q) = (h.linked u v).1 s in
          elim (dec_lt e r) [
            | yes i ↦ (e, omega (arith, short, below), rw (kept e i) p, rw (kept e i) q)
            | no i ↦ elim (ℕ_discrete e r) [
              | yes z ↦ absurd (false≢true (sym (not-true _ f) ∙ same-is a b u v (sym p ∙ ap (source_at l) z ∙ ends.0) (sym q ∙ ap (target_at l) z ∙ ends.1)))
              | no z ↦ later e k (omega arith) p q
            ]
          ]

  ascends-removed : (d e : ℕ) → d < e → e < length left → before_at left (source_at left e) (target_at left e) d ≡ true
  ascends-removed d e i k = grind (arith, nat_tests, kept, lowered, short, h.sorted.ascends)

  -- the links with one taken out keep the set without the link
  pub keeps-removed : Keeps (without S a b) left
  keeps-removed = record { sorted = record { ascends = ascends-removed }; linked = linked-removed }
