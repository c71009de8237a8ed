-- The row of a place that is dropped is passed, from its first entry in the table to its last.
use Prim.Native.Nat.{ℕ, ◌+◌, ◌-◌, ◌*◌, ◌<◌, ◌≤◌}
use mathlib.Core.Bool.{Bool, true, false, not}
use mathlib.Core.List.{List}
use mathlib.Core.Path.{◌≡◌, sym, ap}
use native.Mathlib.Nat.{add-zero}
use native.Mathlib.Omega.{arith}
use Rattle.std.proofs.lemmas.Bool.Decides.{nat_tests}
use lib.Dec.{ltb}
use lib.ListN.{length, get_or}
use Rattle.std.specs.Int.{from_bool}
use Rattle.graph.specs.Cover as cover
use Rattle.peeling.specs.declared.Peel.{Peel}
use Rattle.peeling.specs.Peeling.{start_of, row_length, row_entry, place_in, weight_in, degree_of, Rows, SingleRows, Peeling, Dropping, Kept, across, side_left, pushed_by, pushed, falls, lowered_table}
use Rattle.peeling.proofs.Kept.{kept_same, kept_next, start-kept, single-kept}
use Rattle.peeling.proofs.Grown.{pushed-none, grown-one}
use Rattle.peeling.proofs.Along.{Along, along-more, along-ends, along-entry, along-at, along-inside, along-next}
use Rattle.peeling.proofs.Losses.{other, loss, drop-inside, drop-across, drop-some, drop-ends}
use Rattle.peeling.proofs.Drops.{drop-room, drop-stays, drop-pushes, drop_keeps}

-- the place's row, as it stands in the table w₀, is passed up to k; the table is now w, and so many places of the other side are pushed
pub record Passing (n m : ℕ) (need : ℕ → ℕ) (w₀ : List ℕ) (s : Peel) (place k₀ end : ℕ) (w : List ℕ) (count k : ℕ) : Type 0 where
  pub along : Along n w₀ place k₀ end k
  pub dropping : Dropping n m need w (pushed_by n s (across n place) count) place (k - k₀)
  pub few : count ≤ side_left n s (across n place)
  pub kept : Kept n m w₀ w

-- it begins with none pushed
pub pass-begins : {n m : ℕ} {need : ℕ → ℕ} {w : List ℕ} {s : Peel} {place k₀ end : ℕ} → Along n w place k₀ end k₀ → Dropping n m need w s place 0
    → Passing n m need w s place k₀ end w 0 k₀
pass-begins {n} {w = w} {s} {place} {k₀} a d =
    record { along = a; dropping = rw (pushed-none n (across n place) s, none) d; few = omega arith; kept = kept_same w }
  where
    none : k₀ - k₀ ≡ 0
    none = omega arith

-- an edge that makes a place short weighs something
falls-some : (least d b : ℕ) → falls least d (d - b) ≡ true → 1 ≤ b
falls-some least d b h = grind (arith, nat_tests, h)

-- a place of the other side is on the side of the first place there
across-alike : (n place q : ℕ) → place < 2 * n → ltb q n ≡ not (ltb place n) → ltb q n ≡ ltb (across n place) n
across-alike n place q l e = grind (arith, nat_tests, l, e)

module _ {n m : ℕ} {need : ℕ → ℕ} {w₀ : List ℕ} {s : Peel} {place k₀ end : ℕ} {w : List ℕ} {count k : ℕ}
    (r : Rows n m w₀) (g : Passing n m need w₀ s place k₀ end w count k) where
  -- the row is where it was
  start : start_of w place ≡ start_of w₀ place
  start = start-kept r g.kept place (omega (arith, g.dropping.is-place))

  -- and as long
  long : row_length w place ≡ row_length w₀ place
  long = rw (start, start-kept r g.kept (place + 1) (omega (arith, g.dropping.is-place)))

  -- when all is passed the place is dropped
  pub pass-ends : end ≤ k → Peeling n m need w (pushed_by n s (across n place) count)
  pass-ends l = drop-ends g.dropping (omega (arith, along-ends r g.dropping.is-place g.along l, long))

  -- before that there is a next entry
  module _ (l : k < end) where
    -- it is in the table
    pub pass-inside : k < length w
    pass-inside = omega (arith, along-inside r g.dropping.is-place g.along l, g.dropping.queued.rows.long)

    -- as an entry of the row
    entry : k - k₀ < row_length w place
    entry = omega (arith, along-entry r g.dropping.is-place g.along l, long)

    -- which the row has
    is-entry : get_or w k 0 ≡ row_entry n w (start_of w place + (k - k₀))
    is-entry = ap (λ i. get_or w i 0) (rw start (along-at r g.dropping.is-place g.along l))

    -- and weighs 1 where every entry does
    pub pass-single : SingleRows n w₀ → weight_in (get_or w k 0) ≡ 1
    pass-single h = rw is-entry (single-kept r g.kept h place (k - k₀) (omega (arith, g.dropping.is-place)) entry)

    -- its place is q, and its weight b
    module _ {q b : ℕ} (x : q ≡ place_in (get_or w k 0)) (y : b ≡ weight_in (get_or w k 0)) where
      -- q is a place
      pub pass-place : q < 2 * n
      pass-place = rw (x, is-entry) (drop-inside g.dropping entry)

      -- with an edge of that weight to lose
      pub pass-some : b ≤ degree_of n m w q
      pass-some = rw (x, y, is-entry) (drop-some g.dropping entry)

      -- that needs what is asked across
      pub pass-across : 1 ≤ b → (x' y' : ℕ) → cover.need n y' x' place ≡ cover.need n x' y' q
      pass-across h x' y' = rw (x, is-entry) (grind (arith, nat_tests, drop-across g.dropping entry (rw (y, is-entry) at h)))

      -- where it becomes short
      module _ (h : falls (need q) (degree_of n m w q) (degree_of n m w q - b) ≡ true) where
        -- as the next entry says
        fell : falls (need (other g.dropping entry)) (degree_of n m w (other g.dropping entry)) (degree_of n m w (other g.dropping entry) - loss g.dropping entry) ≡ true
        fell = rw (x, y, is-entry) at h

        -- it is of the other side
        alike : ltb (other g.dropping entry) n ≡ ltb (across n place) n
        alike = across-alike _ _ _ g.dropping.is-place (drop-across g.dropping entry (falls-some _ _ _ fell))

        -- so it is one more of them
        one : (pushed n (pushed_by n s (across n place) count) (other g.dropping entry) ≡ pushed_by n s (across n place) (count + 1))
            × (count + 1 ≤ side_left n s (across n place))
        one = grown-one n (across n place) count _ s g.few alike (drop-room g.dropping entry fell)

        -- and one entry more is passed with one place more in the queue
        pass-pushes : {w' : List ℕ} → w' ≡ lowered_table n m w (s.tail + count) q b → Passing n m need w₀ s place k₀ end w' (count + 1) (k + 1)
        pass-pushes t =
            record {
              along = along-next r g.dropping.is-place g.along l;
              dropping = rw (t, x, y, is-entry, along-more k k₀ g.along.begun) (rw one.0 at (drop-pushes g.dropping entry fell));
              few = one.1;
              kept = kept_next g.kept (rw (t, x, y, is-entry) (drop_keeps g.dropping entry));
            }

      -- where it does not, with as many
      pass-stays : falls (need q) (degree_of n m w q) (degree_of n m w q - b) ≡ false → {w' : List ℕ} → w' ≡ lowered_table n m w (s.tail + count) q b
          → Passing n m need w₀ s place k₀ end w' count (k + 1)
      pass-stays h t =
          record {
            along = along-next r g.dropping.is-place g.along l;
            dropping = rw (t, x, y, is-entry, along-more k k₀ g.along.begun) (drop-stays g.dropping entry (rw (x, y, is-entry) at h));
            few = g.few;
            kept = kept_next g.kept (rw (t, x, y, is-entry) (drop_keeps g.dropping entry));
          }

      -- when it has lost its edge, one entry more is passed, and one place more is pushed where that makes it short
      pub pass-next : (told : Bool) → told ≡ falls (need q) (degree_of n m w q) (degree_of n m w q - b) → {w' : List ℕ} → w' ≡ lowered_table n m w (s.tail + count) q b
          → Passing n m need w₀ s place k₀ end w' (count + from_bool told) (k + 1)
      pass-next true u t = pass-pushes (sym u) t
      pass-next false u t = rw (add-zero count) (pass-stays (sym u) t)
