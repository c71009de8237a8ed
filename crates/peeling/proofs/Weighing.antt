-- The degrees of all places in the whole graph, added up in one walk along all rows, which stand one after the other: each entry adds its weight to
-- its place. An edge stands in the rows of both of its places, so that what is added up for a place is what its own row weighs.
use Prim.Native.Nat.{ℕ, zero, suc, ◌+◌, ◌-◌, ◌*◌, ◌<◌, ◌≤◌}
use mathlib.Core.List.{List}
use mathlib.Core.Path.{◌≡◌, sym, ap, ◌∙◌}
use native.Mathlib.Decide.{dec_lt}
use native.Mathlib.Nat.{le_refl}
use native.Mathlib.Numerals.{add-one}
use native.Mathlib.Omega.{arith}
use Rattle.std.proofs.lemmas.Bool.Decides.{nat_tests}
use lib.Dec.{eqb}
use lib.ListN.{length, get_or, set, take, drop, length-set}
use Rattle.std.proofs.lemmas.List.{get_or-take, get_or-drop, length-drop, length-take-le}
use lib.Seq.{get_or-set_same, get_or-set_other}
use Rattle.graph.specs.Range.{sum, if}
use Rattle.graph.specs.Linkage.{degree}
use Rattle.graph.proofs.Tests.{if-same}
use Rattle.graph.proofs.Sums.{sum-empty, sum-next, sum-ext, sum-after, sum-front}
use Rattle.graph.proofs.Monotone.{monotone}
use Rattle.peeling.specs.Peeling.{start_of, row_length, row_entry, row_place, row_weight, place_in, weight_in, entries, between, whole_degree, Rows}
use Rattle.peeling.proofs.Tables.{start-last}

-- what entry i of all rows adds to place q
abbrev adds : ℕ → List ℕ → ℕ → ℕ → ℕ
adds n w q i = if (eqb (row_place n w (start_of w 0 + i)) q) (row_weight n w (start_of w 0 + i))

-- the first i entries of all rows are added up in table t, which is as long as t₀
pub record Adding (n : ℕ) (w t₀ t : List ℕ) (i : ℕ) : Type 0 where
  pub same_length : length t ≡ length t₀
  pub added : (q : ℕ) → q < 2 * n → get_or t q 0 ≡ sum (adds n w q) i

-- at first none is
pub add-begins : {n : ℕ} {w t₀ t : List ℕ} → length t ≡ length t₀ → ((q : ℕ) → q < 2 * n → get_or t q 0 ≡ 0) → Adding n w t₀ t 0
add-begins {n} {w} s zeros = record { same_length = s; added = λ q l. zeros q l ∙ sym (sum-empty (adds n w q)) }

module _ {n m : ℕ} {w : List ℕ} (r : Rows n m w) where
  -- no row starts before the first
  pub from-first : (p : ℕ) → p ≤ 2 * n → start_of w 0 ≤ start_of w p
  from-first p l = monotone (start_of w) (2 * n) r.ascending 0 p (omega arith) l

  -- the entries of the first P rows add what these rows have for a place
  rows-add : (q P : ℕ) → P ≤ 2 * n → sum (adds n w q) (start_of w P - start_of w 0) ≡ sum (λ p. between n w p q) P
  unfolding sum between entries
  rows-add q zero l = let e : start_of w 0 - start_of w 0 ≡ 0 = omega arith in ap (sum (adds n w q)) e
  rows-add q (suc P) l =
      let e : start_of w (suc P) - start_of w 0 ≡ start_of w P - start_of w 0 + row_length w P =
      rw (← add-one P) (omega (arith, r.ascending P (omega arith), from-first P (omega arith))) in
      ap (sum (adds n w q)) e
      ∙ sum-after (adds n w q) (start_of w P - start_of w 0) (row_length w P)
      ∙ omega (
        arith,
        rows-add q P (omega arith),
        sum-ext {f = λ i. adds n w q (start_of w P - start_of w 0 + i)} {h = λ i. if (eqb (row_place n w (start_of w P + i)) q) (row_weight n w (start_of w P + i))} (row_length w P) (λ i b.
            let at : start_of w 0 + (start_of w P - start_of w 0 + i) ≡ start_of w P + i = omega (arith, from-first P (omega arith)) in
            rw at),
      )

  -- so all rows add up to the edges of the place
  all-add : (q : ℕ) → q < 2 * n → sum (adds n w q) (start_of w (2 * n) - start_of w 0) ≡ whole_degree n w q
  unfolding degree
  all-add q l = rows-add q (2 * n) (le_refl _) ∙ sum-ext (2 * n) (λ p b. r.symmetric p q b l)

  -- every entry of the rows is in one of them
  row-of : (j P : ℕ) → P ≤ 2 * n → start_of w 0 ≤ j → j < start_of w P → (p : ℕ) × (p < 2 * n) × (start_of w p ≤ j) × (j < start_of w (p + 1))
  row-of j zero l a b = absurd (omega arith)
  row-of j (suc P) l a b =
      elim (dec_lt j (start_of w P)) [
        | yes h ↦ row-of j P (omega arith) a h
        | no h ↦ (P, omega arith, omega arith, rw (add-one P) b)
      ]

  -- all rows are a part of the table, from a to b
  module _ {a b : ℕ} (from : a ≡ start_of w 0) (upto : b ≡ start_of w (2 * n)) where
    abbrev all-rows : List ℕ
    all-rows = take (2 * n + 1 + b - (2 * n + 1 + a)) (drop (2 * n + 1 + a) w)

    -- of so many entries
    all-size : length all-rows ≡ start_of w (2 * n) - start_of w 0
    all-size =
        omega (
          arith,
          length-take-le (2 * n + 1 + b - (2 * n + 1 + a)) (drop (2 * n + 1 + a) w) (omega (arith, length-drop (2 * n + 1 + a) w, start-last r (2 * n) (le_refl _), r.long)),
          from-first (2 * n) (le_refl _),
        )

    -- which are these
    all-entry : (i : ℕ) → i < length all-rows → get_or all-rows i 0 ≡ row_entry n w (start_of w 0 + i)
    all-entry i l =
        get_or-take _ _ i 0 (omega (arith, all-size)) ∙ get_or-drop (2 * n + 1 + a) w i 0 ∙ ap (λ j. get_or w j 0) (omega arith)

    module _ {t₀ t : List ℕ} {i : ℕ} (long : 2 * n ≤ length t₀) (g : Adding n w t₀ t i) where
      -- when all are added, they are the degrees
      pub add-ends : i ≡ length all-rows → (q : ℕ) → q < 2 * n → get_or t q 0 ≡ whole_degree n w q
      add-ends e q l = g.added q l ∙ ap (sum (adds n w q)) (e ∙ all-size) ∙ all-add q l

      -- before that there is a next entry, and its place is q, and its weight c
      module _ (l : i < length all-rows) {q c : ℕ} (x : q ≡ place_in (get_or all-rows i 0)) (y : c ≡ weight_in (get_or all-rows i 0)) where
        is-place : q ≡ row_place n w (start_of w 0 + i)
        is-place = x ∙ ap place_in (all-entry i l)

        is-weight : c ≡ row_weight n w (start_of w 0 + i)
        is-weight = y ∙ ap weight_in (all-entry i l)

        -- q is a place
        add-place : q < 2 * n
        add-place =
            let (p, d, low, high) = row-of (start_of w 0 + i) (2 * n) (le_refl _) (omega arith) (omega (arith, all-size)) in
            let at : start_of w p + (start_of w 0 + i - start_of w p) ≡ start_of w 0 + i = omega arith in
            rw is-place (rw at at (r.inside p (start_of w 0 + i - start_of w p) d (omega arith)))

        -- in the table
        pub add-inside : q < length t
        add-inside = omega (arith, add-place, g.same_length)

        -- which has room for the weight
        pub add-room : get_or t q 0 + c < 65536
        add-room =
            omega (
              arith,
              g.added q add-place,
              sum-next (adds n w q) i,
              if-same (row_place n w (start_of w 0 + i)) q (row_weight n w (start_of w 0 + i)) (sym is-place),
              is-weight,
              sum-front (adds n w q) (i + 1) (start_of w (2 * n) - start_of w 0) (omega (arith, all-size)),
              all-add q add-place,
              r.light q add-place,
            )

        -- and gains it
        pub add-next : Adding n w t₀ (set t q (get_or t q 0 + c)) (i + 1)
        add-next =
            record {
              same_length = length-set t q (get_or t q 0 + c) ∙ g.same_length;
              added = λ p d. grind (
                arith,
                nat_tests,
                g.added p d,
                sum-next (adds n w p) i,
                is-place,
                is-weight,
                get_or-set_same t q (get_or t q 0 + c) 0 add-inside,
                get_or-set_other t q p (get_or t q 0 + c) 0,
              );
            }
