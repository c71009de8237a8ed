-- The harmonic finder drops each place once, and no pair has more than twice the measure of the pair that it finds. Why: a place that is dropped has
-- at most the average number of links of its state, so at most twice the best measure; and of any pair each link is charged to the end that is
-- dropped first, which then has no more links than that.
use Prim.Native.Nat.{ℕ, zero, suc, ◌+◌, ◌-◌, ◌*◌, ◌<◌, ◌≤◌}
use mathlib.Core.Bool.{true, false, not, false≢true, Bool-discrete}
use mathlib.Core.Logic.{⊎_elim}
use mathlib.Core.Path.{◌≡◌, refl, sym, ap, ◌∙◌}
use native.Mathlib.Decide.{dec_le}
use native.Mathlib.Nat.{le_antisymm, one-le-mul, two-mul, add-zero, add-suc, eq-zero-or-pos, le_of_mul-le-mul_right, mul-le-mul_left, mul-le-mul_right}
use native.Mathlib.Omega.{arith}
use borrow.Author.Tests.{eq-eqb, ne_eqb, lt-ltb, le-ltb, ltb-false, not-true}
use lib.Dec.{eqb, ltb}
use Rattle.std.proofs.lemmas.Bool.Decides.{nat_tests}
use Rattle.graph.specs.Range.{sum, if}
use Rattle.graph.specs.Graph.{Graph, Group, everyone, card, edges, out_degree, in_degree}
use Rattle.graph.specs.Shapes.{Closed}
use Rattle.graph.specs.Core.{Inside}
use Rattle.graph.specs.Sorting.{Permutes}
use Rattle.graph.specs.Places.{targets}
use Rattle.graph.specs.Cover.{cover, joined, places}
use Rattle.graph.specs.Harmonic.{fewer, dropped, state_after, links_after, size_after, denser, best_state, harmonic_places, Harmonic, HarmonicBound}
use Rattle.graph.specs.Drops.{Unbeaten, smaller, Least, degree_in, drop_at}
use Rattle.graph.proofs.Tests.{test-ext, and_left, and_right, and_both, if-add}
use Rattle.graph.proofs.Sums.{sum-ext, sum-add, sum-zero, sum_ones, sum-after}
use Rattle.graph.proofs.Degrees.{without, edges-out, edges-in, edges-same, edges_some, edges-everyone, card-same, card-some, card_mono, card-without, inside-without, times-card}
use Rattle.graph.proofs.Linkage.{degree-mono, degree-without}
use Rattle.graph.proofs.Cover.{closed-cover, joined-degree, links-degree, edges-drop, places-source, places-target}
use Rattle.graph.proofs.Unbeaten.{Ranks, unbeaten-below, unbeaten-found, smaller-ranks, higher-ranks, least-le}

-- |S| + |T| of the groups of R is the number of places in R
size-places : (g : Graph) (R : Group) → card (cover g) R ≡ card g R + card g (targets g R)
size-places g R = ap (sum (λ p. if (R p) 1)) (two-mul g.order) ∙ sum-after (λ p. if (R p) 1) g.order g.order

-- the degrees of the places add up to twice E
degrees-sum : {g : Graph} → Closed g → (R : Group) → sum (λ p. if (R p) (degree_in g R p)) (2 * g.order) ≡ 2 * edges g R (targets g R)
degrees-sum {g} k R =
    sum-ext (2 * g.order) (λ p l. rw (joined-degree k R p) (if-add (R p) _ _))
    ∙ sum-add (λ p. if (R p) (out_degree (cover g) R p)) (λ p. if (R p) (in_degree (cover g) R p)) (2 * g.order)
    ∙ omega (arith, edges-out (closed-cover k) R R, edges-in (closed-cover k) R R)

-- so the place with the least degree has at most the average
least-average : {g : Graph} → Closed g → (R : Group) (p : ℕ) → Least (degree_in g R) R (2 * g.order) p
    → degree_in g R p * card (cover g) R ≤ 2 * edges g R (targets g R)
least-average {g} k R p s = rw (← degrees-sum k R) (times-card (cover g) R (degree_in g R p) (degree_in g R) (least-le (degree_in g R) s))

module _ {g : Graph} (k : Closed g) where
  -- where places are left the one with the least degree is dropped
  dropped-least : (R : Group) → 1 ≤ card (cover g) R → Least (degree_in g R) R (2 * g.order) (dropped g R)
  dropped-least R h =
      let (q, l, m) = card-some (cover g) R h in
      rw (unbeaten-below (fewer g R) (smaller (degree_in g R)) R (2 * g.order) (λ q p _ _. rw (links-degree k R q, links-degree k R p)))
      (unbeaten-found (smaller-ranks (degree_in g R) (2 * g.order)) R q l m)

  -- after i drops i places are gone,
  size-after : (i : ℕ) → i ≤ 2 * g.order → card (cover g) (state_after g i) + i ≡ 2 * g.order
  unfolding state_after
  size-after zero l = omega (arith, sum_ones (2 * g.order))
  size-after (suc i) l =
      let e = size-after i (omega arith) in
      let s = dropped-least (state_after g i) (omega arith) in
      omega (arith, card-without (cover g) (state_after g i) (drop_at g i) s.below s.member)

  -- and so from |S| + |T|
  pub size-next : (i : ℕ) → i ≤ 2 * g.order → size_after g i + i ≡ 2 * g.order
  size-next i l = omega (arith, size-after i l, size-places g (state_after g i))

  -- as long as they are not all, a place is dropped
  pub drop-least : (i : ℕ) → i < 2 * g.order → Least (degree_in g (state_after g i)) (state_after g i) (2 * g.order) (drop_at g i)
  drop-least i l = dropped-least (state_after g i) (omega (arith, size-after i (omega arith)))

  -- a drop takes the degree of the place from E,
  pub links-next : (i : ℕ) → i < 2 * g.order → links_after g i ≡ links_after g (suc i) + degree_in g (state_after g i) (drop_at g i)
  unfolding state_after
  links-next i l = let s = drop-least i l in edges-drop k (state_after g i) (drop_at g i) s.below s.member

  -- and from each degree the edges to the place
  pub degree-next : (i q : ℕ) → i < 2 * g.order → degree_in g (state_after g i) q ≡ degree_in g (state_after g (suc i)) q + joined g q (drop_at g i)
  unfolding state_after
  degree-next i q l = let s = drop-least i l in degree-without (joined g) (state_after g i) q (drop_at g i) s.below s.member

  -- a place that is left was left before
  state-mono : (i j p : ℕ) → state_after g (i + j) p ≡ true → state_after g i p ≡ true
  unfolding state_after
  state-mono i zero p h = rw (add-zero i) at h
  state-mono i (suc j) p h = state-mono i j p (and_right (not (eqb p (drop_at g (i + j)))) _ (rw (add-suc i j) at h))

  -- so a place is left until the drop that takes it, and not from there on
  pub state-drop : (i j : ℕ) → j < 2 * g.order → state_after g i (drop_at g j) ≡ not (ltb j i)
  unfolding state_after
  state-drop i j l =
      elim (dec_le i j) [
        | yes h ↦ rw (le-ltb j i h) (left h (j - i) (omega arith))
        | no h ↦ rw (lt-ltb j i (omega arith)) (gone (i - suc j) (omega arith))
      ]
    where
      left : i ≤ j → (m : ℕ) → j ≡ i + m → state_after g i (drop_at g j) ≡ true
      left h m e = state-mono i m (drop_at g j) (ap (λ t. state_after g t (drop_at g j)) (sym e) ∙ (drop-least j l).member)

      out : state_after g (suc j) (drop_at g j) ≡ false
      out = rw (eq-eqb (drop_at g j) (drop_at g j) refl)

      gone : (m : ℕ) → i ≡ suc j + m → state_after g i (drop_at g j) ≡ false
      gone m e = test-ext _ _ (λ t. sym out ∙ state-mono (suc j) m (drop_at g j) (ap (λ r. state_after g r (drop_at g j)) (sym e) ∙ t)) (λ t. absurd (false≢true t))

  -- no two drops take the same place, and each place is taken
  pub drop-permutes : Permutes (drop_at g) (2 * g.order)
  drop-permutes = grind (arith, nat_tests, drop-least, le_antisymm, state-drop, not-true)

  -- where each state has at most the density e / c, a place when it is dropped has at most 2 * e / c edges,
  drop-degree : (c e i : ℕ) → i < 2 * g.order → links_after g i * c ≤ e * size_after g i → degree_in g (state_after g i) (drop_at g i) * c ≤ 2 * e
  drop-degree c e i l h =
      let R = state_after g i in
      le_of_mul-le-mul_right {k = card (cover g) R} (omega (
        arith,
        mul-le-mul_right c (least-average k R (dropped g R) (drop-least i l)),
        mul-le-mul_left 2 h,
        ap (e *◌) (size-places g R),
      )) (omega (arith, size-after i (omega arith)))

  -- and any places that are left have at most 2 * e / c edges for each
  charged : (c e : ℕ) → ((i : ℕ) → i < 2 * g.order → links_after g i * c ≤ e * size_after g i)
      → (j i : ℕ) → i + j ≡ 2 * g.order → (Q : Group) → Inside (cover g) Q (state_after g i) → edges g Q (targets g Q) * c ≤ 2 * e * card (cover g) Q
  unfolding state_after
  charged c e best zero i s Q p =
      ⊎_elim (λ z. rw z (omega arith)) (λ h. absurd (omega (
        arith,
        edges_some (closed-cover k) Q Q h,
        card_mono (cover g) p,
        size-after i (omega arith),
      ))) (eq-zero-or-pos (edges g Q (targets g Q)))
  charged c e best (suc j) i s Q p = go (charged c e best j (suc i) (omega arith)) (Bool-discrete (Q d) true)
    where
      R : Group
      R = state_after g i

      d : ℕ
      d = dropped g R

      least : Least (degree_in g R) R (2 * g.order) d
      least = drop-least i (omega arith)

      go : ((Q : Group) → Inside (cover g) Q (without R d) → edges g Q (targets g Q) * c ≤ 2 * e * card (cover g) Q) → Dec (Q d ≡ true)
          → edges g Q (targets g Q) * c ≤ 2 * e * card (cover g) Q
      go rest (no h) = rest Q (inside-without (cover g) d p h)
      go rest (yes h) =
          omega (
            arith,
            ap (◌* c) (edges-drop k Q d least.below h),
            ap (2 * e *◌) (card-without (cover g) Q d least.below h),
            rest (without Q d) (λ q l m. and_both {a = not (eqb q d)} (and_left _ (Q q) m) (p q l (and_right (not (eqb q d)) _ m))),
            mul-le-mul_right c (degree-mono (joined g) p d),
            drop-degree c e i (omega arith) (best i (omega arith)),
          )

  -- every state before the last, empty one has a place
  some_after : (i : ℕ) → i < 2 * g.order → 1 ≤ size_after g i
  some_after i l = omega (arith, size-next i (omega arith))

  -- so the measure ranks them
  pub denser-ranks : Ranks (denser g) (2 * g.order)
  denser-ranks = higher-ranks (links_after g) (size_after g) (2 * g.order) some_after

  -- a graph with edges has vertices
  pub linked-order : 1 ≤ edges g everyone everyone → 1 ≤ g.order
  linked-order h = omega (arith, edges_some k everyone everyone h, sum_ones g.order)

  -- and then the best state is one of these, than which none is denser
  best-unbeaten : 1 ≤ edges g everyone everyone → Unbeaten (denser g) everyone (2 * g.order) (best_state g)
  best-unbeaten h = unbeaten-found denser-ranks everyone 0 (omega (arith, linked-order h)) refl

  best-greatest : 1 ≤ edges g everyone everyone → (i : ℕ) → i < 2 * g.order
      → links_after g i * size_after g (best_state g) ≤ links_after g (best_state g) * size_after g i
  best-greatest h i l = ltb-false _ _ ((best-unbeaten h).best i l refl)

-- with edges the places found are those of the best state,
pub places-linked : (g : Graph) → 1 ≤ edges g everyone everyone → harmonic_places g ≡ state_after g (best_state g)
unfolding harmonic_places
places-linked g h = rw (ne_eqb (edges g everyone everyone) 0 (λ z. omega arith))

-- and without there are none
pub places-none : (g : Graph) → edges g everyone everyone ≡ 0 → harmonic_places g ≡ (λ p. false)
unfolding harmonic_places
places-none g h = rw (eq-eqb (edges g everyone everyone) 0 h)

-- the pair found has the E of the places found
pub found-links : {g : Graph} → Closed g → {S T : Group} → Harmonic g S T → edges g S T ≡ edges g (harmonic_places g) (targets g (harmonic_places g))
found-links k h = edges-same k h.sources h.targets

-- and their number
found-size : {g : Graph} {S T : Group} → Harmonic g S T → card g S + card g T ≡ card g (harmonic_places g) + card g (targets g (harmonic_places g))
found-size {g} h = omega (arith, card-same g h.sources, card-same g h.targets)

-- 02, wish 6: no pair has more than twice the harmonic measure of the pair found
pub harmonic-bound : {g : Graph} → Closed g → {S T : Group} → Harmonic g S T → HarmonicBound g S T
unfolding state_after
harmonic-bound {g} k {S} {T} f S' T' _ _ = ⊎_elim none some (eq-zero-or-pos (edges g everyone everyone))
  where
    none : edges g everyone everyone ≡ 0 → edges g S' T' * (card g S + card g T) ≤ 2 * edges g S T * (card g S' + card g T')
    none z =
        let e : edges g S' T' ≡ 0 = omega (arith, edges-everyone k S' T') in
        rw e (omega arith)

    some : 1 ≤ edges g everyone everyone → edges g S' T' * (card g S + card g T) ≤ 2 * edges g S T * (card g S' + card g T')
    some t =
        let i = best_state g in
        rw (
          found-links k f,
          found-size f,
          places-linked g t,
          edges-same k (places-source g S' T') (places-target g S' T'),
          card-same g (places-source g S' T'),
          card-same g (places-target g S' T'),
          ← size-places g (places g S' T'),
        )
        (charged k (size_after g i) (links_after g i) (best-greatest k t) (2 * g.order) 0 (omega arith) (places g S' T') (λ p l m. refl))

-- with edges, the pair found has some
pub harmonic-some : {g : Graph} → Closed g → {S T : Group} → Harmonic g S T → 1 ≤ edges g everyone everyone → 1 ≤ edges g S T
unfolding state_after
harmonic-some {g} k f t = grind (arith, nat_tests, places-linked, found-links, best-greatest, linked-order, one-le-mul, some_after, best-unbeaten, eq-zero-or-pos)

-- and without it is empty
pub harmonic-none : {g : Graph} {S T : Group} → Harmonic g S T → edges g everyone everyone ≡ 0 → (card g S ≡ 0) × (card g T ≡ 0)
harmonic-none {g} f z =
    let nobody = sum-zero g.order in
    (card-same g f.sources ∙ rw (places-none g z) nobody, card-same g f.targets ∙ rw (places-none g z) nobody)
