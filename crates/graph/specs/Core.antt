-- [x,y]-cores, levels, the finding, and the bound on the density of every pair: inside two groups A and B (02, wish 5), and among everyone.
use Rattle.std.specs.Prelude.{ℕ, ◌+◌, ◌-◌, ◌*◌, ◌<◌, ◌≤◌, true, ◌≡◌}
use Rattle.graph.specs.Graph.{Graph, Group, everyone, card, edges, out_degree, in_degree}

-- every vertex of S is in R
abbrev pub Inside : Graph → Group → Group → Type 0
Inside g S R = (u : ℕ) → u < g.order → S u ≡ true → R u ≡ true

-- each vertex of S has at least x links into T, and each of T at least y from S
pub record Dense (g : Graph) (x y : ℕ) (S T : Group) : Type 0 where
  pub out : (u : ℕ) → u < g.order → S u ≡ true → x ≤ out_degree g T u
  pub inn : (v : ℕ) → v < g.order → T v ≡ true → y ≤ in_degree g S v

-- every such pair inside A and B, its S inside A and its T inside B, has its S inside this S and its T inside this T
abbrev pub CoversInside : Graph → Group → Group → ℕ → ℕ → Group → Group → Type 0
CoversInside g A B x y S T = (S' T' : Group) → Inside g S' A → Inside g T' B → Dense g x y S' T' → Inside g S' S × Inside g T' T

-- 01, and 02, wish 5: (S,T) is the [x,y]-core inside A and B, the largest such pair inside them
pub record CoreInside (g : Graph) (A B : Group) (x y : ℕ) (S T : Group) : Type 0 where
  pub sources : Inside g S A
  pub targets : Inside g T B
  pub dense : Dense g x y S T
  pub largest : CoversInside g A B x y S T

-- the [x,y]-core inside A and B has a vertex on both sides
pub record NonemptyInside (g : Graph) (A B : Group) (x y : ℕ) : Type 0 where
  pub S : Group
  pub T : Group
  pub core : CoreInside g A B x y S T
  pub some : 1 ≤ card g S
  pub other : 1 ≤ card g T

-- k is the largest number of at least 1 with P k, or 0 where there is none
pub record Greatest (P : ℕ → Type 0) (k : ℕ) : Type 0 where
  pub holds : 1 ≤ k → P k
  pub above : (j : ℕ) → 1 ≤ j → P j → j ≤ k

-- 01: inside A and B the level of x is y
abbrev pub LevelInside : Graph → Group → Group → ℕ → ℕ → Type 0
LevelInside g A B x y = Greatest (λ j. NonemptyInside g A B x j) y

-- 01: the level across, for y, is x
abbrev pub LevelAcrossInside : Graph → Group → Group → ℕ → ℕ → Type 0
LevelAcrossInside g A B y x = Greatest (λ j. NonemptyInside g A B j y) x

-- 01: the equal level is k
abbrev pub EqualLevelInside : Graph → Group → Group → ℕ → Type 0
EqualLevelInside g A B k = Greatest (λ j. NonemptyInside g A B j j) k

-- 02, wish 4: the difference between x and y; a - b is 0 where b is the greater, so only one of the two counts
unfoldable pub apart : ℕ → ℕ → ℕ
apart x y = (x - y) + (y - x)

-- 02, wish 4: (x,y) comes before (x',y'), or is the same: the greatest product comes first, among equal products the smallest difference, then
-- the smallest x
pub record Before (x y x' y' : ℕ) : Type 0 where
  pub product : x' * y' ≤ x * y
  pub even : x' * y' ≡ x * y → apart x y ≤ apart x' y'
  pub tie : x' * y' ≡ x * y → apart x y ≡ apart x' y' → x ≤ x'

-- 01: (S,T) is the finding inside A and B, for [x,y]: the non-empty core, x and y at least 1, that comes before every other
pub record FindingInside (g : Graph) (A B : Group) (x y : ℕ) (S T : Group) : Type 0 where
  pub x-positive : 1 ≤ x
  pub y-positive : 1 ≤ y
  pub core : CoreInside g A B x y S T
  pub some : 1 ≤ card g S
  pub other : 1 ≤ card g T
  pub before : (x' y' : ℕ) → 1 ≤ x' → 1 ≤ y' → NonemptyInside g A B x' y' → Before x y x' y'

-- condition 3, for the rival pairs, which are all pairs of non-empty groups S' inside A and T' inside B: E(S',T') squared is at most
-- 4 × x × y × |S'| × |T'|; E(S,T) squared is at least x × y × |S| × |T|; so S', T' has at most twice the density of S, T
pub record BoundsInside (g : Graph) (A B : Group) (x y : ℕ) (S T : Group) : Type 0 where
  pub above : (S' T' : Group) → Inside g S' A → Inside g T' B → 1 ≤ card g S' → 1 ≤ card g T'
      → edges g S' T' * edges g S' T' ≤ 4 * (x * y) * (card g S' * card g T')
  pub below : x * y * (card g S * card g T) ≤ edges g S T * edges g S T
  pub twice : (S' T' : Group) → Inside g S' A → Inside g T' B → 1 ≤ card g S' → 1 ≤ card g T'
      → edges g S' T' * edges g S' T' * (card g S * card g T) ≤ 4 * (edges g S T * edges g S T) * (card g S' * card g T')

-- All of these among everyone, with everyone in both groups: what covers every dense pair,
abbrev pub Covers : Graph → ℕ → ℕ → Group → Group → Type 0
Covers g = CoversInside g everyone everyone

-- the [x,y]-core,
abbrev pub Core : Graph → ℕ → ℕ → Group → Group → Type 0
Core g = CoreInside g everyone everyone

-- that it has a vertex on both sides,
abbrev pub Nonempty : Graph → ℕ → ℕ → Type 0
Nonempty g = NonemptyInside g everyone everyone

-- the level of x,
abbrev pub Level : Graph → ℕ → ℕ → Type 0
Level g = LevelInside g everyone everyone

-- the level across, for y,
abbrev pub LevelAcross : Graph → ℕ → ℕ → Type 0
LevelAcross g = LevelAcrossInside g everyone everyone

-- the equal level,
abbrev pub EqualLevel : Graph → ℕ → Type 0
EqualLevel g = EqualLevelInside g everyone everyone

-- the finding,
abbrev pub Finding : Graph → ℕ → ℕ → Group → Group → Type 0
Finding g = FindingInside g everyone everyone

-- and the bound over all pairs
abbrev pub Bounds : Graph → ℕ → ℕ → Group → Group → Type 0
Bounds g = BoundsInside g everyone everyone
