-- The search for the finding: rows of a fixed x and columns of a fixed y up to the equal level, each begun where it could come before the best.
use Rattle.std.specs.Prelude.{ℕ, ◌*◌, ◌<◌, ◌≤◌, List, ◌⊎◌, ◌≡◌, get_or}
use Rattle.graph.specs.Graph.{Graph}
use Rattle.graph.specs.Core.{Nonempty, EqualLevel, Before}
use Rattle.graph.specs.Quiet.{Outcome}
use Rattle.graph.specs.Search.{BestTried}
use Rattle.network.specs.declared.Side.{Side}
use Rattle.network.specs.declared.Side.TheVariants.{Source, Target}
use Rattle.network.specs.Groups.{group_of, GroupIn, totals}
use Rattle.peeling.specs.declared.Scope.{Scope}
use Rattle.peeling.specs.Peeling.{degree_of, Tabled, Weighed, Kept}
use Rattle.climbing.specs.declared.Rise.{Rise}
use Rattle.climbing.specs.declared.Rise.TheVariants.{Targets, Sources}
use Rattle.climbing.specs.Climbs.{of_sources, of_targets, rising, rests, Least, Heaviest}
use Rattle.searching.specs.declared.Best.{Best}
use Rattle.searching.specs.declared.Ring.{Ring}

-- what rises where the need of a side is fixed: that of the other
abbrev pub rise_of : Side → Rise
rise_of Source = Targets
rise_of Target = Sources

-- x where the other need is at j: with x fixed x itself, with y fixed j
abbrev pub x_at : Side → ℕ → ℕ → ℕ
x_at side fixed j = of_sources (rise_of side) fixed j

-- and y
abbrev pub y_at : Side → ℕ → ℕ → ℕ
y_at side fixed j = of_targets (rise_of side) fixed j

-- the pair there
abbrev pub pair_at : Side → ℕ → ℕ → Best
pair_at side fixed j = record { x = x_at side fixed j; y = y_at side fixed j }

-- which of a pair's numbers is fixed: with x fixed x
abbrev pub fixed_in : Side → Best → ℕ
fixed_in Source b = b.x
fixed_in Target b = b.y

-- the best is a pair of numbers from 1 to 65,535
pub record InRange (b : Best) : Type 0 where
  pub x-positive : 1 ≤ b.x
  pub y-positive : 1 ≤ b.y
  pub x-small : b.x < 65536
  pub y-small : b.y < 65536

-- s is the first place of a row or column that is better than the best: below s the best comes before it, and from s on it does not
pub record FirstBetter (side : Side) (fixed : ℕ) (b : Best) (s : ℕ) : Type 0 where
  pub positive : 1 ≤ s
  pub low : (j : ℕ) → j < s → Before b.x b.y (x_at side fixed j) (y_at side fixed j)
  pub high : (j : ℕ) → s ≤ j → ¬ Before b.x b.y (x_at side fixed j) (y_at side fixed j)

-- r is the better of p and b: one of the two, which comes before both
pub record BetterOf (p b r : Best) : Type 0 where
  pub one : (r ≡ p) ⊎ (r ≡ b)
  pub first : Before r.x r.y p.x p.y
  pub second : Before r.x r.y b.x b.y

-- r has the least degree of the sources that are left, and that of the targets
pub record LeastPair (c : Scope) (w : List ℕ) (r : Best) : Type 0 where
  pub sources : Least (rests c Sources w) (degree_of c.extent.order c.extent.size w) (2 * c.extent.order) r.x
  pub targets : Least (rests c Targets w) (degree_of c.extent.order c.extent.size w) (2 * c.extent.order) r.y
  pub x-small : r.x < 65536
  pub y-small : r.y < 65536

-- the rows or columns from first to last are tried: what is kept is a non-empty core where the best was one, and comes before the best and
-- before every non-empty core of these rows or columns
pub record Tries (n m : ℕ) (side : Side) (first last : ℕ) (b : Best) (w w' : List ℕ) (r : Best) : Type 0 where
  pub in-range : InRange r
  pub kept : Kept n m w w'
  pub reached : (g : Graph) → Tabled g n m w → Nonempty g b.x b.y → Nonempty g r.x r.y
  pub before : Before r.x r.y b.x b.y
  pub all : (g : Graph) → Tabled g n m w → (i j : ℕ) → first ≤ i → i ≤ last → 1 ≤ j → Nonempty g (x_at side i j) (y_at side i j)
      → Before r.x r.y (x_at side i j) (y_at side i j)

-- row or column 1 is tried in every table, where the greatest degree of the places that rise is `most`
abbrev pub TriesFirst : Side → ℕ → Best → Best → Type 0
TriesFirst side most b r = (n m : ℕ) (w d : List ℕ) → Weighed n m w d → Heaviest (rising n (rise_of side)) (λ p. get_or d p 0) (2 * n) most → Tries n m side 1 1 b w w r

-- a search up to k can begin with the best: where k is the equal level its core is not empty
pub record Reaches (n m k : ℕ) (w : List ℕ) (b : Best) : Type 0 where
  pub in-range : InRange b
  pub reached : (g : Graph) → Tabled g n m w → EqualLevel g k → Nonempty g b.x b.y

-- every row and column up to k is tried
pub record Searched (n m k : ℕ) (w w' : List ℕ) (r : Best) : Type 0 where
  pub kept : Kept n m w w'
  pub best : (g : Graph) → Tabled g n m w → EqualLevel g k → BestTried g k k r.x r.y

-- what is found in every graph that the table holds
pub record FoundIn (n m : ℕ) (w w' s s' t t' : List ℕ) (r : Ring) : Type 0 where
  pub outcome : (g : Graph) → Tabled g n m w → Outcome g r.x r.y (group_of s') (group_of t')
  pub equal : (g : Graph) → Tabled g n m w → EqualLevel g r.equal
  pub counted : (g : Graph) → Tabled g n m w → r.totals ≡ totals g (group_of s') (group_of t')
  pub sources : GroupIn n s s'
  pub targets : GroupIn n t t'
  pub kept : Kept n m w w'
