-- One link more, and levels that rise by 0 or 1 (02, wish 12: what one vouch can move).
use Rattle.std.specs.Prelude.{ℕ, ◌+◌, ◌≤◌, ◌⊎◌, ◌≡◌}
use Rattle.graph.specs.Graph.{Graph, Linked, Group}
use Rattle.graph.specs.Core.{LevelInside, LevelAcrossInside, EqualLevelInside}

-- the link from a to b is one of g, or the one from u to v
abbrev pub LinkedOr : Graph → ℕ → ℕ → ℕ → ℕ → Type 0
LinkedOr g u v a b = Linked g a b ⊎ ((a ≡ u) × (b ≡ v))

-- 02: from k to k' a level rises by 0 or 1, and does not fall
abbrev pub Rises : ℕ → ℕ → Type 0
Rises k k' = (k ≤ k') × (k' ≤ k + 1)

-- 02: from network g to network h, inside any two groups A and B, whichever the levels are. 02 says it of x and y of at least 1; it is so of 0 too.
pub record LevelsRise (g h : Graph) : Type 0 where
  -- the level of each x rises by 0 or 1,
  pub level : (A B : Group) (x k k' : ℕ) → LevelInside g A B x k → LevelInside h A B x k' → Rises k k'
  -- so does the level across, for each y,
  pub level_across : (A B : Group) (y k k' : ℕ) → LevelAcrossInside g A B y k → LevelAcrossInside h A B y k' → Rises k k'
  -- and so does the equal level
  pub equal_level : (A B : Group) (k k' : ℕ) → EqualLevelInside g A B k → EqualLevelInside h A B k' → Rises k k'
