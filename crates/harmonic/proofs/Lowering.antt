-- A place is dropped: it is marked, and then, with each entry of its row that is passed, from the last to the first, the entry's place loses the
-- entry's weight if it is left. After the whole row each place that is left has lost its edges to the place dropped.
use Prim.Native.Nat.{ℕ, ◌+◌, ◌-◌, ◌*◌, ◌<◌, ◌≤◌}
use mathlib.Core.Bool.{Bool, true, false}
use mathlib.Core.List.{List}
use mathlib.Core.Logic.{◌≢◌}
use mathlib.Core.Path.{◌≡◌, refl, sym, ap, ◌∙◌}
use native.Mathlib.Decide.{ℕ_discrete, dec_lt}
use native.Mathlib.Omega.{arith}
use borrow.Author.Tests.{lt-ltb, le-ltb}
use lib.Dec.{eqb, ltb}
use lib.ListN.{length, get_or, set}
use Rattle.graph.specs.Range.{sum, if}
use Rattle.graph.specs.Drops.{first_mark}
use Rattle.graph.proofs.Tests.{if-same, if-zero}
use Rattle.graph.proofs.Sums.{term-le-sum}
use Rattle.peeling.specs.Peeling.{start_of, row_length, row_entry, place_in, weight_in, row_place, row_weight, degree_of, entries, between, Rows}
use Rattle.peeling.proofs.Kept.{kept_same, kept_next, rows-kept, between-kept}
use Rattle.peeling.proofs.Along.{Along, along-ends, along-entry, along-at, along-inside}
use Rattle.peeling.proofs.Losses.{entries-suc, entries-part}
use Rattle.peeling.proofs.Singles.{row-degree}
use Rattle.picking.specs.Winners.{Beside}
use Rattle.harmonic.specs.Walks.{keys_at, Picks, Loses, Dropped, Spare}
use Rattle.harmonic.proofs.Tables.{Rekeyed, rekeyed}

-- nothing is lost at first
pub loses-none : {n m : ℕ} (loss : ℕ → ℕ) {w : List ℕ} → Picks n m w → ((q : ℕ) → loss q ≡ 0) → Loses n m loss w w
loses-none {n} {m} loss {w} t z =
    record { tree = t; kept = kept_same w; keys = λ q l. rw (z q) (omega (arith, if-zero (ltb (degree_of n m w q) first_mark))) }

-- what a place that is left has lost, and what one that was dropped has not
module _ {n m : ℕ} (loss : ℕ → ℕ) {w w' : List ℕ} (h : Loses n m loss w w') (q : ℕ) (l : q < 2 * n) where
  pub lost : degree_of n m w q < first_mark → degree_of n m w' q + loss q ≡ degree_of n m w q
  lost k = rw (lt-ltb (degree_of n m w q) first_mark k) at (h.keys q l)

  pub marked-stays : first_mark ≤ degree_of n m w q → degree_of n m w' q ≡ degree_of n m w q
  marked-stays k = omega (arith, rw (le-ltb (degree_of n m w q) first_mark k) at (h.keys q l))

  -- a place is left where it was
  left-still : ltb (degree_of n m w' q) first_mark ≡ ltb (degree_of n m w q) first_mark
  left-still =
      elim (dec_lt (degree_of n m w q) first_mark) [
        | yes k ↦ lt-ltb (degree_of n m w' q) first_mark (omega (arith, lost k)) ∙ sym (lt-ltb (degree_of n m w q) first_mark k)
        | no k ↦ rw (marked-stays (omega arith))
      ]

-- what is lost twice is lost together
pub loses-next : {n m : ℕ} (f h : ℕ → ℕ) {v w u : List ℕ} → Loses n m f v w → Loses n m h w u → Loses n m (λ q. f q + h q) v u
loses-next {n} {m} f h {v} {w} {u} a b = record { tree = b.tree; kept = kept_next a.kept b.kept; keys = keys }
  where
    keys : (q : ℕ) → q < 2 * n → degree_of n m u q + if (ltb (degree_of n m v q) first_mark) (f q + h q) ≡ degree_of n m v q
    keys q l = go (ltb (degree_of n m v q) first_mark) (a.keys q l) (rw (left-still f a q l) at (b.keys q l))
      where
        go : (t : Bool) → degree_of n m w q + if t (f q) ≡ degree_of n m v q → degree_of n m u q + if t (h q) ≡ degree_of n m w q
            → degree_of n m u q + if t (f q + h q) ≡ degree_of n m v q
        go true x y = omega arith
        go false x y = omega arith

-- it counts only how much each loses
pub loses-ext : {n m : ℕ} (f h : ℕ → ℕ) {v w : List ℕ} → ((q : ℕ) → f q ≡ h q) → Loses n m f v w → Loses n m h v w
loses-ext {n} {m} f h {v} e a = record { tree = a.tree; kept = a.kept; keys = λ q l. rw (← e q) (a.keys q l) }

-- of the row of a place, all but its first j entries
abbrev beyond : ℕ → List ℕ → ℕ → ℕ → ℕ → ℕ
beyond n v place j q = between n v place q - entries n v place j q

-- the place's row, as it stands in the table v, is passed from its end down to k; the table is now w
pub record Lowering (n m : ℕ) (v : List ℕ) (place start end : ℕ) (w : List ℕ) (k : ℕ) : Type 0 where
  pub along : Along n v place start end k
  pub loses : Loses n m (beyond n v place (k - start)) v w

module _ {n m : ℕ} {v : List ℕ} {place : ℕ} (r : Rows n m v) (i : place < 2 * n) where
  -- at first no entry is passed
  pub lower-begins : {start k : ℕ} → start ≡ 2 * n + 1 + start_of v place → k ≡ 2 * n + 1 + start_of v (place + 1) → Picks n m v → Lowering n m v place start k v k
  unfolding between
  lower-begins {start} {k} a b t = record { along = whole; loses = loses-none (beyond n v place (k - start)) t none }
    where
      whole : Along n v place start k k
      whole = record { from = a; upto = b; begun = omega (arith, r.ascending place i); within = omega arith }

      none : (q : ℕ) → beyond n v place (k - start) q ≡ 0
      none q = omega (arith, ap (λ c. entries n v place c q) (along-ends r i whole (omega arith)))

  module _ {start end : ℕ} {w : List ℕ} {k : ℕ} (g : Lowering n m v place start end w k) where
    -- when all are passed each place that is left has lost its edges
    pub lower-ends : k ≤ start → Loses n m (between n v place) v w
    unfolding entries sum
    lower-ends l =
        let e : k - start ≡ 0 = omega arith in
        loses-ext (beyond n v place (k - start)) (between n v place) (λ q. rw e (omega arith)) g.loses

    module _ (l : start < k) where
      -- before that there is a next entry, one before k
      back : Along n v place start end (k - 1)
      back = record { from = g.along.from; upto = g.along.upto; begun = omega arith; within = omega (arith, g.along.within) }

      before : k - 1 < end
      before = omega (arith, g.along.within)

      -- in the table
      pub lower-inside : k - 1 < length w
      lower-inside = omega (arith, along-inside r i back before, g.loses.kept.same_length, r.long)

      module _ {e q c : ℕ} (x : e ≡ get_or w (k - 1) 0) (y : q ≡ place_in e) (z : c ≡ weight_in e) where
        -- which the row has
        is-entry : e ≡ row_entry n v (start_of v place + (k - 1 - start))
        is-entry = x ∙ g.loses.kept.index (k - 1) (along-inside r i back before) ∙ ap (λ j. get_or v j 0) (along-at r i back before)

        -- its place is named by the row
        is-place : q ≡ row_place n v (start_of v place + (k - 1 - start))
        is-place = y ∙ ap place_in is-entry

        -- and its weight is that of the row
        is-weight : c ≡ row_weight n v (start_of v place + (k - 1 - start))
        is-weight = z ∙ ap weight_in is-entry

        -- it is a place
        pub lower-place : q < 2 * n
        lower-place = rw is-place (r.inside place (k - 1 - start) i (along-entry r i back before))

        -- its weight is below every mark
        lower-light : c < first_mark
        lower-light =
            omega (
              arith,
              is-weight,
              r.light place i,
              row-degree r place i,
              term-le-sum (λ j. row_weight n v (start_of v place + j)) (row_length v place) (k - 1 - start) (along-entry r i back before),
            )

        -- the entries up to it are those before it and this one
        one_more : (p : ℕ) → entries n v place (k - start) p ≡ entries n v place (k - 1 - start) p + if (eqb q p) c
        one_more p =
            let j : k - start ≡ k - 1 - start + 1 = omega arith in
            rw (j, is-place, is-weight) (entries-suc n v place (k - 1 - start) p)

        -- and they weigh no more than all
        no_more : (p : ℕ) → entries n v place (k - start) p ≤ between n v place p
        no_more p = entries-part n v place (k - start) p (omega (arith, along-entry r i back before))

        -- so it has an edge of that weight to lose
        pub lower-some : Spare n m v place q → c ≤ degree_of n m w q
        lower-some spare =
            elim (dec_lt (degree_of n m v q) first_mark) [
              | yes h ↦ omega (
                arith,
                spare h,
                lost (beyond n v place (k - start)) g.loses q lower-place h,
                one_more q,
                no_more q,
                if-same q q c refl,
              )
              | no h ↦ omega (arith, lower-light, marked-stays (beyond n v place (k - start)) g.loses q lower-place (omega arith))
            ]

        -- with that edge lost one entry more is passed
        pub lower-next : {w' : List ℕ} → Loses n m (λ p. if (eqb q p) c) w w' → Lowering n m v place start end w' (k - 1)
        lower-next b =
            record {
              along = back;
              loses =
                  loses-ext (λ p. beyond n v place (k - start) p + if (eqb q p) c) (beyond n v place (k - 1 - start)) (λ p. omega (arith, one_more p, no_more p))
                  (loses-next (beyond n v place (k - start)) (λ p. if (eqb q p) c) g.loses b);
            }

-- the place is marked by a store to its key, with other nodes
module _ (mark : ℕ) {n m place : ℕ} {w v : List ℕ} (r : Rows n m w) (i : place < 2 * n)
    (h : Beside (keys_at n m) (2 * n) (set w (keys_at n m + place) mark) v) where
  stored : Rekeyed n m place mark w v
  stored = rekeyed n m place mark w i r.long h

  -- the rows are kept,
  pub marked-rows : Rows n m v
  marked-rows = rows-kept r stored.kept

  module _ (k : first_mark ≤ mark) where
    -- the others that are left have the edges that they lose, and it is not left
    pub marked-spare : ((q : ℕ) → q < 2 * n → q ≢ place → Spare n m w place q) → (q : ℕ) → q < 2 * n → Spare n m v place q
    marked-spare s q l c =
        elim (ℕ_discrete q place) [
          | yes e ↦ absurd (omega (arith, stored.here, ap (degree_of n m v) e))
          | no e ↦ let o = stored.others q l e in rw (between-kept r stored.kept place q i, o) (s q l e (omega arith))
        ]

    -- and when its row is lowered it is dropped
    pub marked-drops : {u : List ℕ} → Loses n m (between n v place) v u → Dropped n m place mark w u
    marked-drops {u} d =
        record {
          tree = d.tree;
          kept = kept_next stored.kept d.kept;
          marked = marked-stays (between n v place) d place i (omega (arith, stored.here)) ∙ stored.here;
          lowered = λ q l c h. let o = stored.others q l c in
              omega (arith, lost (between n v place) d q l (omega arith), between-kept r stored.kept place q i);
          others = λ q l c h. let o = stored.others q l c in marked-stays (between n v place) d q l (omega arith) ∙ o;
        }
