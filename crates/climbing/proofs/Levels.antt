-- A climb from 1 finds the level of its kind: of x, across, or the equal level.
use Prim.Native.Nat.{ℕ, ◌≤◌}
use mathlib.Core.List.{List}
use native.Mathlib.Numerals.{add-one}
use Rattle.graph.specs.Graph.{Graph}
use Rattle.graph.proofs.Search.{level-stop, level-across-stop, equal-level-stop}
use Rattle.peeling.specs.Peeling.{Tabled}
use Rattle.climbing.specs.declared.Rise.{Rise}
use Rattle.climbing.specs.declared.Rise.TheVariants.{Targets, Sources, Both}
use Rattle.climbing.specs.Climbs.{LevelOf, Climbed}

-- a climb that gets to its start or further finds it, for every graph of the table
pub climbed-level : {n m : ℕ} (rise : Rise) (fixed start : ℕ) {w w' : List ℕ} {r : ℕ} → Climbed n m rise fixed start w w' r → (1 ≤ r → start ≤ r)
    → {g : Graph} → Tabled g n m w → LevelOf g rise fixed r
climbed-level Targets fixed start {r = r} c l {g} t = level-stop t.closed r (λ h. c.holds g t (l h)) (rw (add-one r) at (c.stops g t))
climbed-level Sources fixed start {r = r} c l {g} t = level-across-stop t.closed r (λ h. c.holds g t (l h)) (rw (add-one r) at (c.stops g t))
climbed-level Both fixed start {r = r} c l {g} t = equal-level-stop t.closed r (λ h. c.holds g t (l h)) (rw (add-one r) at (c.stops g t))
