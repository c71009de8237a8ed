-- A block of rows or columns, tried as a whole: the core asked for is that of the first of them that is left, at the number where the last begins to
-- be better than the best. While it is not empty its least degrees are a pair with a core, and more is asked of one side or the other.
use Prim.Native.Nat.{ℕ, ◌+◌, ◌-◌, ◌*◌, ◌<◌, ◌≤◌}
use mathlib.Core.Bool.{true, false}
use mathlib.Core.List.{List}
use mathlib.Core.Logic.{⊎_elim}
use mathlib.Core.Path.{◌≡◌}
use native.Mathlib.Nat.{le_trans}
use native.Mathlib.Omega.{arith}
use Rattle.std.specs.Prelude.{min}
use Rattle.graph.specs.Graph.{Graph}
use Rattle.graph.specs.Core.{Nonempty, Before}
use Rattle.graph.proofs.Before.{before-refl, before-trans, row_before, column-before}
use Rattle.network.specs.declared.Extent.{Extent}
use Rattle.network.specs.declared.Side.{Side}
use Rattle.network.specs.declared.Side.TheVariants.{Source, Target}
use Rattle.network.specs.Sides.{opposite}
use Rattle.peeling.specs.declared.Peel.{Peel}
use Rattle.peeling.specs.Peeling.{Tabled, Ended, emptied}
use Rattle.peeling.proofs.Kept.{kept_next, tabled-kept, ended-from}
use Rattle.peeling.proofs.Finished.{sides-some}
use Rattle.climbing.specs.declared.Rise.{Rise}
use Rattle.climbing.specs.Climbs.{asked, rests, Some}
use Rattle.climbing.proofs.Turns.{rests-some, both_more, both_reached, emptied-stops}
use Rattle.searching.specs.declared.Best.{Best}
use Rattle.searching.specs.Searches.{rise_of, x_at, y_at, fixed_in, InRange, FirstBetter, BetterOf, LeastPair, Tries}
use Rattle.searching.proofs.Starts.{start-past, start-rises}
use Rattle.searching.proofs.Lines.{tries-none}

-- which of a pair's numbers rises
abbrev rising_in : Side → Best → ℕ
rising_in side p = fixed_in (opposite side) p

-- a pair comes before each one of which both numbers are no greater
pair_before : (side : Side) {x y : ℕ} {p : Best} → 1 ≤ x → 1 ≤ y → x ≤ fixed_in side p → y ≤ rising_in side p → Before p.x p.y (x_at side x y) (y_at side x y)
pair_before Source i j a b = before-trans (row_before (le_trans i a) b) (column-before j a)
pair_before Target i j a b = before-trans (row_before (le_trans j b) a) (column-before i b)

-- what is asked for is no more than such a pair
asked-most : (e : Extent) (side : Side) {x y : ℕ} {p : Best} → ((asked e (rise_of side) x y).x ≤ p.x) × ((asked e (rise_of side) x y).y ≤ p.y)
    → (x ≤ fixed_in side p) × (y ≤ rising_in side p)
asked-most e Source h = h
asked-most e Target (a, b) = (b, a)

-- and grows with both numbers
pub asked-more : (e : Extent) (side : Side) {x y x' y' : ℕ} → x ≤ x' → y ≤ y'
    → ((asked e (rise_of side) x y).x ≤ (asked e (rise_of side) x' y').x) × ((asked e (rise_of side) x y).y ≤ (asked e (rise_of side) x' y').y)
asked-more e Source a b = (a, b)
asked-more e Target a b = (b, a)

-- a pair is in range where both its numbers are, whichever is fixed
sides-range : (side : Side) {p : Best} → 1 ≤ fixed_in side p → 1 ≤ rising_in side p → p.x < 65536 → p.y < 65536 → InRange p
sides-range Source a b l h = record { x-positive = a; y-positive = b; x-small = l; y-small = h }
sides-range Target a b l h = record { x-positive = b; y-positive = a; x-small = l; y-small = h }

-- how far a block up to the last one is tried, from the best at its beginning: the rows or columns from x on are left, and y is where the last one
-- begins
pub record Cornered (e : Extent) (side : Side) (last : ℕ) (b₀ : Best) (w w' : List ℕ) (b : Best) (x y : ℕ) (s : Peel) : Type 0 where
  pub positive : 1 ≤ x
  pub within : x ≤ last
  pub start : FirstBetter side last b y
  pub in-range : InRange b
  pub reached : (g : Graph) → Tabled g e.order e.size w → Nonempty g b₀.x b₀.y → Nonempty g b.x b.y
  pub before : Before b.x b.y b₀.x b₀.y
  pub ended : Ended false (asked e (rise_of side) x y) w w' s

-- it begins with the first of the block
pub corner-begins : {e : Extent} {side : Side} {last x y : ℕ} {b : Best} {w w' : List ℕ} {s : Peel} → 1 ≤ x → x ≤ last → FirstBetter side last b y → InRange b
    → Ended false (asked e (rise_of side) x y) w w' s → Cornered e side last b w w' b x y s
corner-begins {b = b} p q i r o =
    record { positive = p; within = q; start = i; in-range = r; reached = λ g t h. h; before = before-refl b.x b.y; ended = o }

-- what is left of the numbers on both sides
abbrev pub corner_left : ℕ → ℕ → ℕ → ℕ
corner_left last x y = (last - x) + (65536 - y)

module _ {e : Extent} {side : Side} {last x y : ℕ} {b₀ b : Best} {w w' : List ℕ} {s : Peel} (o : Cornered e side last b₀ w w' b x y s) where
  module _ (z : emptied s ≡ false) where
    -- while neither side is empty, a place is left on each
    pub corner-some : (rise : Rise) → Some (rests (asked e (rise_of side) x y) rise w') (2 * e.order)
    corner-some rise = let (p, q) = sides-some s z in rests-some (asked e (rise_of side) x y) o.ended.peeling rise p q

    module _ {p : Best} (i : LeastPair (asked e (rise_of side) x y) w' p) where
      -- the least degrees are what is asked for, or more,
      corner-more : (x ≤ fixed_in side p) × (y ≤ rising_in side p)
      corner-more = asked-most e side (both_more (asked e (rise_of side) x y) o.ended.peeling i.sources i.targets)

      -- so they are in range,
      pub corner-range : InRange p
      corner-range = sides-range side (le_trans o.positive corner-more.0) (le_trans o.start.positive corner-more.1) i.x-small i.y-small

      -- and their core is not empty,
      corner-reached : {g : Graph} → Tabled g e.order e.size w' → Nonempty g p.x p.y
      corner-reached t =
          let (a, b) = sides-some s z in
          both_reached (asked e (rise_of side) x y) o.ended.peeling i.sources i.targets (o.ended.done z) t a b

      module _ {r : Best} (t : BetterOf p b r) where
        -- and the better of this pair and the best is in range too
        pub corner-better : InRange r
        corner-better = ⊎_elim (λ q. rw q corner-range) (λ q. rw q o.in-range) t.one

        module _ {x' y' : ℕ} (n : x' ≡ min last (fixed_in side p + 1)) (f : FirstBetter side last r y') where
          -- no less is asked then,
          corner-rises : (x ≤ x') × (y ≤ y')
          corner-rises = (grind (arith, o.within, corner-more.0), start-rises o.start f t.second)

          -- and more of one side: where the least degree of the side that is fixed is as great as the last number, the pair comes before the last
          -- one where it began, and so this begins later
          corner-further : x ≡ x' → y < y'
          corner-further q =
              let l : last ≤ fixed_in side p = omega (arith, n, corner-more.0) in
              start-past f y (before-trans t.first (pair_before side (le_trans o.positive o.within) o.start.positive l corner-more.1))

          -- so there is less left of one of the numbers,
          pub corner-smaller : corner_left last x' y' < corner_left last x y
          corner-smaller = grind (arith, o.within, corner-rises.0, corner-rises.1, corner-more.1, i.x-small, i.y-small, corner-further)

          -- what is asked is no less,
          pub corner-step : ((asked e (rise_of side) x y).x ≤ (asked e (rise_of side) x' y').x) × ((asked e (rise_of side) x y).y ≤ (asked e (rise_of side) x' y').y)
          corner-step = asked-more e side corner-rises.0 corner-rises.1

          -- and the block is tried further
          pub corner-next : {w'' : List ℕ} {s' : Peel} → Ended false (asked e (rise_of side) x' y') w' w'' s' → Cornered e side last b₀ w w'' r x' y' s'
          corner-next after =
              record {
                positive = le_trans o.positive corner-rises.0;
                within = grind arith;
                start = f;
                in-range = corner-better;
                reached = λ g h c. ⊎_elim (λ q. rw q (corner-reached (tabled-kept h o.ended.kept))) (λ q. rw q (o.reached g h c)) t.one;
                before = before-trans t.second o.before;
                ended = ended-from after (kept_next o.ended.kept after.kept);
              }

  -- where a side is empty, all from x on is tried
  pub corner-ends : emptied s ≡ true → Tries e.order e.size side x last b₀ w w' b
  corner-ends z =
      let h = tries-none o.start o.in-range o.ended.kept (λ g t. emptied-stops e (rise_of side) x y o.ended.peeling (tabled-kept t o.ended.kept) z) in
      record { in-range = o.in-range; kept = o.ended.kept; reached = o.reached; before = o.before; all = h.all }
