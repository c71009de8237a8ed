-- One row or column: what the last core of it that a climb reaches comes before. Where x or y is fixed at 1, the last core is that of the greatest
-- degree. A block of rows or columns, from the first to the last: what the best comes before where the core is empty at its corner, at the first
-- one and where the last begins.
use Prim.Native.Nat.{ℕ, ◌+◌, ◌*◌, ◌<◌, ◌≤◌}
use mathlib.Core.List.{List}
use mathlib.Core.Path.{◌≡◌}
use native.Mathlib.Decide.{dec_le}
use lib.ListN.{get_or}
use native.Mathlib.Nat.{le_trans}
use native.Mathlib.Omega.{arith}
use Rattle.graph.specs.Graph.{Graph}
use Rattle.graph.specs.Shapes.{Closed}
use Rattle.graph.specs.Core.{Nonempty, Before}
use Rattle.graph.proofs.Before.{before-refl, before-trans, before-else, row_before, column-before}
use Rattle.graph.proofs.Exists.{nonempty-nested}
use Rattle.graph.proofs.Search.{level_before, level-across-before}
use Rattle.network.specs.declared.Side.{Side}
use Rattle.network.specs.declared.Side.TheVariants.{Source, Target}
use Rattle.peeling.specs.Peeling.{Tabled, Weighed, Kept}
use Rattle.peeling.proofs.Kept.{kept_same}
use Rattle.climbing.specs.Climbs.{Reached, LevelOf, rising, Heaviest, Climbed}
use Rattle.climbing.proofs.Levels.{climbed-level}
use Rattle.climbing.proofs.Unreached.{heaviest-stops}
use Rattle.climbing.proofs.Stars.{heaviest-sources, heaviest-targets}
use Rattle.searching.specs.declared.Best.{Best}
use Rattle.searching.specs.Searches.{rise_of, x_at, y_at, pair_at, InRange, FirstBetter, Tries}

-- the level comes before the rest of its row or column
line_before : (side : Side) (fixed last : ℕ) {g : Graph} → 1 ≤ fixed → LevelOf g (rise_of side) fixed last
    → (j : ℕ) → 1 ≤ j → Nonempty g (x_at side fixed j) (y_at side fixed j)
    → Before (x_at side fixed last) (y_at side fixed last) (x_at side fixed j) (y_at side fixed j)
line_before Source fixed last f l = level_before f l
line_before Target fixed last f l = level-across-before f l

-- a later row or column comes before an earlier one, place by place
line-later : (side : Side) {i last j : ℕ} → 1 ≤ j → i ≤ last → Before (x_at side last j) (y_at side last j) (x_at side i j) (y_at side i j)
line-later Source p l = column-before p l
line-later Target p l = row_before p l

-- where a core of later rows or columns is not empty, an earlier one is not
line-nested : (side : Side) {first i s j : ℕ} {g : Graph} → Closed g → first ≤ i → s ≤ j → Nonempty g (x_at side i j) (y_at side i j) → Reached g (rise_of side) first s
line-nested Source k p q h = nonempty-nested k p q h
line-nested Target k p q h = nonempty-nested k q p h

-- From s on the core of the first row or column of a block is empty, and below s the best comes before the last one: so it comes before all of the
-- block, since every core of it from s on is in that of the first, and none comes before that of the last which stands below s.
block-pruned : (side : Side) (first last s : ℕ) (b : Best) {g : Graph} → Closed g
    → ((j : ℕ) → j < s → Before b.x b.y (x_at side last j) (y_at side last j)) → ¬ Reached g (rise_of side) first s
    → (i j : ℕ) → first ≤ i → i ≤ last → 1 ≤ j → Nonempty g (x_at side i j) (y_at side i j) → Before b.x b.y (x_at side i j) (y_at side i j)
block-pruned side first last s b k low none i j p q l h =
    elim (dec_le s j) [ yes m ↦ absurd (none (line-nested side k p m h)) | no m ↦ before-trans (low j (omega arith)) (line-later side l q) ]

-- the pair at j of a row or column is in range where both numbers are
pair-range : (side : Side) {fixed j : ℕ} → 1 ≤ fixed → fixed < 65536 → 1 ≤ j → j < 65536 → InRange (pair_at side fixed j)
pair-range Source p q i l = record { x-positive = p; y-positive = i; x-small = q; y-small = l }
pair-range Target p q i l = record { x-positive = i; y-positive = p; x-small = l; y-small = q }

-- where the core is empty at the corner of a block, the best is left
pub tries-none : {n m : ℕ} {side : Side} {first last s : ℕ} {b : Best} {w w' : List ℕ} → FirstBetter side last b s → InRange b → Kept n m w w'
    → ((g : Graph) → Tabled g n m w → ¬ Reached g (rise_of side) first s) → Tries n m side first last b w w' b
tries-none {side = side} {first} {last} {s} {b} i r k none =
    record {
      in-range = r;
      kept = k;
      reached = λ g t h. h;
      before = before-refl b.x b.y;
      all = λ g t. block-pruned side first last s b t.closed i.low (none g t);
    }

-- and a climb of one row or column that gets to its start gets to a better pair
pub tries-some : {n m : ℕ} {side : Side} {fixed s : ℕ} {b : Best} {w w' : List ℕ} {last : ℕ} → FirstBetter side fixed b s
    → Climbed n m (rise_of side) fixed s w w' last → 1 ≤ fixed → fixed < 65536 → s ≤ last → Tries n m side fixed fixed b w w' (pair_at side fixed last)
tries-some {n} {m} {side} {fixed} {s} {w = w} {last = last} i c p q l =
    record {
      in-range = pair-range side p q (le_trans i.positive l) (c.fits l);
      kept = c.kept;
      reached = λ g t h. c.holds g t l;
      before = before-else (i.high last l);
      all = all;
    }
  where
    all : (g : Graph) → Tabled g n m w → (i j : ℕ) → fixed ≤ i → i ≤ fixed → 1 ≤ j → Nonempty g (x_at side i j) (y_at side i j)
        → Before (x_at side fixed last) (y_at side fixed last) (x_at side i j) (y_at side i j)
    all g t i j a b o h =
        let e : i ≡ fixed = omega arith in
        rw e (line_before side fixed last p (climbed-level (rise_of side) fixed s c (λ h. l) t) j o (rw e at h))

-- with 1 fixed, the core at the greatest degree of the places that rise is not empty
heaviest-reached : (side : Side) {g : Graph} {n m : ℕ} {w d : List ℕ} {k : ℕ} → Weighed n m w d → Tabled g n m w → 1 ≤ k
    → Heaviest (rising n (rise_of side)) (λ p. get_or d p 0) (2 * n) k → Reached g (rise_of side) 1 k
heaviest-reached Source o t l h = heaviest-targets o t l h
heaviest-reached Target o t l h = heaviest-sources o t l h

-- and the next one is, so a climb from no later than there would come to it
pub heaviest-climbed : (side : Side) {n m s : ℕ} {w d : List ℕ} {k : ℕ} → Weighed n m w d → Heaviest (rising n (rise_of side)) (λ p. get_or d p 0) (2 * n) k
    → 1 ≤ s → s ≤ k → k < 65536 → Climbed n m (rise_of side) 1 s w w k
heaviest-climbed side {w = w} {k = k} o h i l f =
    record {
      from = omega arith;
      fits = λ e. f;
      holds = λ g t e. heaviest-reached side o t (le_trans i l) h;
      stops = λ g t. heaviest-stops (rise_of side) 1 (k + 1) o h (omega arith) t;
      kept = kept_same w;
    }
