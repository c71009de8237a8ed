-- Degrees that are counted anew. With each entry of a row that is passed its place gains the entry's weight, so that after the whole row each place
-- has gained its edges to the place of the row.
use Rattle.std.proofs.Common.{◌≡◌, ℕ, ◌+◌, ◌-◌, ◌*◌, ◌<◌, ◌≤◌, true, eqb, List, length, get_or, sym, refl, ap, ◌∙◌, arith}
use Rattle.std.proofs.lemmas.Bool.Decides.{nat_tests}
use Rattle.graph.specs.Range.{sum, if}
use Rattle.graph.proofs.Tests.{if-same}
use Rattle.peeling.specs.Peeling.{start_of, row_entry, row_place, row_weight, place_in, weight_in, degree_of, entries, between, Rows, SingleRows, with_degree}
use Rattle.peeling.specs.Recounts.{Recounting, Roomy, Gained}
use Rattle.peeling.proofs.Tables.{with-degree-same, with-degree-other, with-degree-queue}
use Rattle.peeling.proofs.Kept.{kept_same, kept_next, kept_set}
use Rattle.peeling.proofs.Along.{Along, along-none, along-more, along-begins, along-ends, along-entry, along-at, along-inside, along-next}
use Rattle.peeling.proofs.Losses.{entries-suc, entries-part}

-- nothing is changed at first
pub recounting-same : {n m : ℕ} (w : List ℕ) → Recounting n m w w
recounting-same w = record { kept = kept_same w; queue = λ i. refl }

-- what is changed twice is only degrees where it is so each time
pub recounting-next : {n m : ℕ} {w w' w'' : List ℕ} → Recounting n m w w' → Recounting n m w' w'' → Recounting n m w w''
recounting-next a b = record { kept = kept_next a.kept b.kept; queue = λ i. b.queue i ∙ a.queue i }

-- a degree that is set is only a degree
pub recounting-set : (n m : ℕ) (w : List ℕ) (q d : ℕ) → q < 2 * n → Recounting n m w (with_degree n m w q d)
recounting-set n m w q d l =
    record {
      kept = kept_set n m w (2 * n + 1 + 2 * m + q) d (omega arith) (omega arith);
      queue = λ i. with-degree-queue n m w q d i l;
    }

-- the place's row, as it stands in the table w₀, is passed up to k; the table is now w
pub record Gaining (n m : ℕ) (w₀ : List ℕ) (place k₀ end : ℕ) (w : List ℕ) (k : ℕ) : Type 0 where
  pub along : Along n w₀ place k₀ end k
  pub recounting : Recounting n m w₀ w
  pub degrees : (p : ℕ) → p < 2 * n → degree_of n m w p ≡ degree_of n m w₀ p + entries n w₀ place (k - k₀) p

module _ {n m : ℕ} {w₀ : List ℕ} {place : ℕ} (r : Rows n m w₀) (i : place < 2 * n) where
  -- at first no entry is passed
  pub gain-begins : {k end : ℕ} → k ≡ 2 * n + 1 + start_of w₀ place → end ≡ 2 * n + 1 + start_of w₀ (place + 1) → Gaining n m w₀ place k end w₀ k
  unfolding entries sum
  gain-begins {k} a b =
      record {
        along = along-begins r i a b;
        recounting = recounting-same w₀;
        degrees = λ p l. omega (arith, ap (λ c. entries n w₀ place c p) (along-none k), nothing p);
      }
    where
      nothing : (p : ℕ) → entries n w₀ place 0 p ≡ 0
      nothing p = refl

  module _ {k₀ end : ℕ} {w : List ℕ} {k : ℕ} (g : Gaining n m w₀ place k₀ end w k) where
    -- when all are passed each place has gained its edges
    pub gain-ends : end ≤ k → Gained n m place true w₀ w
    unfolding between
    gain-ends l =
        record {
          recounting = g.recounting;
          degrees = λ p b. g.degrees p b ∙ ap (λ c. degree_of n m w₀ p + entries n w₀ place c p) (along-ends r i g.along l);
        }

    module _ (l : k < end) where
      -- before that there is a next entry, in the table
      pub gain-inside : k < length w
      gain-inside = omega (arith, along-inside r i g.along l, g.recounting.kept.same_length, r.long)

      -- which the row has
      is-entry : get_or w k 0 ≡ row_entry n w₀ (start_of w₀ place + (k - k₀))
      is-entry = g.recounting.kept.index k (along-inside r i g.along l) ∙ ap (λ j. get_or w₀ j 0) (along-at r i g.along l)

      -- and weighs 1 where every entry does
      pub gain-single : SingleRows n w₀ → weight_in (get_or w k 0) ≡ 1
      gain-single h = rw is-entry (h place (k - k₀) i (along-entry r i g.along l))

      -- its place is q, and its weight b
      module _ {q b : ℕ} (x : q ≡ place_in (get_or w k 0)) (y : b ≡ weight_in (get_or w k 0)) where
        is-place : q ≡ row_place n w₀ (start_of w₀ place + (k - k₀))
        is-place = x ∙ ap place_in is-entry

        is-weight : b ≡ row_weight n w₀ (start_of w₀ place + (k - k₀))
        is-weight = y ∙ ap weight_in is-entry

        -- q is a place
        pub gain-place : q < 2 * n
        gain-place = rw is-place (r.inside place (k - k₀) i (along-entry r i g.along l))

        -- that has an edge of that weight more to gain
        gain-more : entries n w₀ place (k - k₀) q + b ≤ between n w₀ place q
        gain-more =
            omega (
              arith,
              entries-part n w₀ place (k - k₀ + 1) q (omega (arith, along-entry r i g.along l)),
              entries-suc n w₀ place (k - k₀) q,
              if-same (row_place n w₀ (start_of w₀ place + (k - k₀))) q (row_weight n w₀ (start_of w₀ place + (k - k₀))) (sym is-place),
              is-weight,
            )

        -- for which there is room
        pub gain-room : Roomy n m w₀ place → b ≤ 65535 - degree_of n m w q
        gain-room fits = omega (arith, fits.room q gain-place, g.degrees q gain-place, gain-more)

        -- when it has gained it one entry more is passed
        pub gain-next : {w' : List ℕ} → w' ≡ with_degree n m w q (degree_of n m w q + b) → Gaining n m w₀ place k₀ end w' (k + 1)
        gain-next {w'} u =
            record {
              along = along-next r i g.along l;
              recounting = recounting-next g.recounting (rw u (recounting-set n m w q _ gain-place));
              degrees = λ p c. omega (
                arith,
                g.degrees p c,
                gained p,
                entries-suc n w₀ place (k - k₀) p,
                ap (λ d. if (eqb d p) b) is-place,
                ap (λ d. if (eqb (row_place n w₀ (start_of w₀ place + (k - k₀))) p) d) is-weight,
                ap (λ d. entries n w₀ place d p) (along-more k k₀ g.along.begun),
              );
            }
          where
            gained : (p : ℕ) → degree_of n m w' p ≡ degree_of n m w p + if (eqb q p) b
            gained p =
                rw u (grind (
                  arith,
                  nat_tests,
                  with-degree-same n m w q (degree_of n m w q + b) (omega (arith, gain-place, r.long, g.recounting.kept.same_length)),
                  with-degree-other n m w q (degree_of n m w q + b) p,
                ))
