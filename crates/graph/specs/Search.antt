-- A search for the finding: the best [x,y] so far.
use Rattle.std.specs.Prelude.{ℕ, ◌*◌, ◌≤◌, ◌⊎◌}
use Rattle.graph.specs.Graph.{Graph}
use Rattle.graph.specs.Core.{Nonempty, Before}

-- the rows up to m and the columns up to n are tried
abbrev pub Tried : ℕ → ℕ → ℕ → ℕ → Type 0
Tried m n x y = (x ≤ m) ⊎ (y ≤ n)

-- (x,y) comes before every non-empty core that is tried, and is the [x,y] of a non-empty core unless x * y is still 0
pub record BestTried (g : Graph) (m n x y : ℕ) : Type 0 where
  pub reached : 1 ≤ x * y → Nonempty g x y
  pub before : (x' y' : ℕ) → 1 ≤ x' → 1 ≤ y' → Tried m n x' y' → Nonempty g x' y' → Before x y x' y'
