-- How many edges come before every edge from u to v: the place of v in the rows table. For v = 0 it is the start of u, past the last vertex
-- it is the next start, and from v to v + 1 it grows by one where an edge joins u to v, and stays where none does. An edge from u to v has
-- just so many edges before it, so the entry at that place is v.
use Prim.Native.Nat.{ℕ, zero, suc, ◌+◌, ◌<◌}
use mathlib.Core.Bool.{Bool, true, false, cond, ◌&&◌}
use mathlib.Core.List.{[], ◌∷◌, ◌++◌, append_assoc, append-nil}
use mathlib.Core.Path.{◌≡◌, refl, sym, ap, ◌∙◌}
use native.Mathlib.Decide.{ℕ_discrete}
use native.Mathlib.Nat.{add-zero}
use native.Mathlib.Numerals.{add-one}
use native.Mathlib.Omega.{arith}
use borrow.Author.Tests.{ltb-true, ltb-false, eqb-true, lt-ltb, le-ltb, eq-eqb, ne_eqb}
use lib.Dec.{eqb, ltb}
use lib.ListN.{get_or, take}
use lib.Seq.{take-suc}
use Rattle.std.proofs.lemmas.Bool.Decides.{nat_tests}
use Rattle.graph.specs.Range.{sum, if, first, flat}
use Rattle.graph.specs.Graph.{Graph}
use Rattle.graph.specs.Shapes.{Closed, Simple}
use Rattle.graph.specs.Order.{lexicographic, rank_by, edge_at, below, rows}
use Rattle.graph.specs.Sorting.{rank}
use Rattle.graph.proofs.Tests.{and_left, and_right, test-ext, if-suc}
use Rattle.graph.proofs.Sums.{sum-ext, sum-add, sum-none, sum-pick}
use Rattle.graph.proofs.Ranges.{first_passes, first-before, length-table, get_or-table}
use Rattle.graph.proofs.Order.{lexicographic-same, precedes-strict, rank_lt, nth-rank}
use Rattle.adjacency.specs.Neighbours.{joins, adjacent}

-- with a rest that fails the order is strict
lexicographic-false : (a b : ℕ) → lexicographic a b false ≡ ltb a b
lexicographic-false a b = grind (arith, nat_tests)

-- and with one that holds it is not
lexicographic-true : (a b : ℕ) → lexicographic a b true ≡ ltb a (suc b)
lexicographic-true a b = grind (arith, nat_tests)

module _ (g : Graph) (u : ℕ) where
  -- how many edges come before every edge from u to v
  abbrev pub place : ℕ → ℕ
  place v = sum (λ e. if (lexicographic (g.source e) u (ltb (g.target e) v)) 1) g.size

  -- how many edges go from u to v
  abbrev joining : ℕ → ℕ
  joining v = sum (λ e. if (joins g u v e) 1) g.size

  -- an edge that joins u to v has the source u
  joins-source : (v e : ℕ) → joins g u v e ≡ true → g.source e ≡ u
  joins-source v e h = eqb-true (g.source e) u (and_left _ (eqb (g.target e) v) h)

  -- and the target v
  joins-target : (v e : ℕ) → joins g u v e ≡ true → g.target e ≡ v
  joins-target v e h = eqb-true (g.target e) v (and_right (eqb (g.source e) u) _ h)

  -- before the first vertex: the start of u
  pub place-first : place 0 ≡ below g.source g.size u
  place-first = sum-ext g.size (λ e l. rw (le-ltb (g.target e) 0 (omega arith), lexicographic-false (g.source e) u))

  -- past the last vertex: the next start
  pub place-last : Closed g → place g.order ≡ below g.source g.size (suc u)
  place-last k = sum-ext g.size (λ e l. rw (lt-ltb (g.target e) g.order (k.target_below e l), lexicographic-true (g.source e) u))

  -- between v and v + 1 there are the edges from u to v
  place-suc : (v : ℕ) → place (suc v) ≡ place v + joining v
  place-suc v =
      sum-ext g.size (λ e l. each (g.source e) (g.target e))
      ∙ sum-add (λ e. if (lexicographic (g.source e) u (ltb (g.target e) v)) 1) (λ e. if (joins g u v e) 1) g.size
    where
      each : (a t : ℕ) → if (lexicographic a u (ltb t (suc v))) 1 ≡ if (lexicographic a u (ltb t v)) 1 + if (eqb a u && eqb t v) 1
      each a t =
          elim (ℕ_discrete a u) [
            | yes e ↦ rw (lexicographic-same a u (ltb t (suc v)) e, lexicographic-same a u (ltb t v) e, eq-eqb a u e) (if-suc t v)
            | no e ↦ rw (ne_eqb a u e) (omega arith)
          ]

  -- where no edge joins them there is none
  joining-none : (v : ℕ) → adjacent g u v ≡ false → joining v ≡ 0
  joining-none v h =
      sum-none (λ e. if (joins g u v e) 1) g.size (λ e l.
      rw (first-before (joins g u v) g.size e (omega (arith, ltb-false (first (joins g u v) g.size) g.size h))))

  -- an edge from u to v
  module _ (simple : Simple g) (v e : ℕ) (l : e < g.size) (s : g.source e ≡ u) (t : g.target e ≡ v) where
    -- is the only one
    joining-one : joining v ≡ 1
    joining-one = sum-ext g.size (λ d m. rw (only d m)) ∙ sum-pick (λ d. 1) g.size e l
      where
        only : (d : ℕ) → d < g.size → joins g u v d ≡ eqb e d
        only d m =
            test-ext _ _
            (λ h. eq-eqb e d (simple e d l m (s ∙ sym (joins-source v d h)) (t ∙ sym (joins-target v d h))))
            (λ h. rw (← eqb-true e d h, s, t, eq-eqb u u refl, eq-eqb v v refl))

    -- has the edges before it that come before every such edge
    rank-place : rank g e ≡ place v
    unfolding rank_by
    rank-place = grind (arith, nat_tests)

    -- so it stands within the rows
    place-lt : place v < g.size
    place-lt = rw (← rank-place) (rank_lt (precedes-strict g) g.size e l)

    -- and its entry is v
    place-entry : get_or (rows g) (place v) 0 ≡ v
    place-entry =
        get_or-table (λ i. g.target (edge_at g i)) g.size (place v) place-lt
        ∙ rw (← rank-place, nth-rank (precedes-strict g) g.size e l, t)

  -- the rows up to v, and v where it is a neighbour, are the rows up to v + 1
  rows-suc : Simple g → (v : ℕ) → take (place v) (rows g) ++ cond (adjacent g u v) (v ∷ []) [] ≡ take (place (suc v)) (rows g)
  rows-suc simple v = rw (place-suc v) (go (adjacent g u v) refl)
    where
      edge : ℕ
      edge = first (joins g u v) g.size

      found : edge < g.size → take (place v) (rows g) ++ (v ∷ []) ≡ take (place v + joining v) (rows g)
      found l =
          let h : joins g u v edge ≡ true = first_passes (joins g u v) g.size l in
          let s : g.source edge ≡ u = joins-source v edge h in
          let t : g.target edge ≡ v = joins-target v edge h in
          rw (joining-one simple v edge l s t, add-one (place v)) (sym (
          take-suc (rows g) (place v) 0 (rw (length-table (λ i. g.target (edge_at g i)) g.size) (place-lt simple v edge l s t))
          ∙ ap (λ w. take (place v) (rows g) ++ (w ∷ [])) (place-entry simple v edge l s t)
          ))

      go : (b : Bool) → adjacent g u v ≡ b → take (place v) (rows g) ++ cond b (v ∷ []) [] ≡ take (place v + joining v) (rows g)
      go false h = rw (joining-none v h, add-zero, append-nil)
      go true h = found (ltb-true edge g.size h)

  -- so the rows before u, and its neighbours below v, are the rows up to v
  pub rows-to : Simple g → (v : ℕ) → take (place 0) (rows g) ++ flat (λ v. cond (adjacent g u v) (v ∷ []) []) v ≡ take (place v) (rows g)
  unfolding flat
  rows-to simple zero = append-nil (take (place 0) (rows g))
  rows-to simple (suc v) =
      sym (append_assoc (take (place 0) (rows g)) _ _)
      ∙ ap (λ l. l ++ cond (adjacent g u v) (v ∷ []) []) (rows-to simple v)
      ∙ rows-suc simple v
