-- One side of the places counted anew, by the edges to those of the other side that have enough, when what the other side is short of is dropped
-- together.
use Rattle.std.specs.Prelude.{ℕ, ◌+◌, ◌-◌, ◌*◌, ◌<◌, ◌≤◌, Bool, cond, List, ◌⊎◌, ◌≡◌, eqb, leb}
use Rattle.graph.specs.Range.{sum, if}
use Rattle.peeling.specs.declared.Peel.{Peel}
use Rattle.peeling.specs.declared.Scope.{Scope}
use Rattle.peeling.specs.Peeling.{need_of, degree_of, queue_of, between, Total, Kept}

-- a side begins at place 0, the sources, or at n, the targets; the other side then begins at n - first
abbrev pub SideAt : ℕ → ℕ → Type 0
SideAt n first = (first ≡ 0) ⊎ (first ≡ n)

-- p is a place of the side that begins at first
abbrev pub OnSide : ℕ → ℕ → ℕ → Type 0
OnSide n first p = (first ≤ p) × (p < first + n)

-- what a scope asks of the side that begins at first, and nothing of the other
abbrev pub of_side : Scope → ℕ → Scope
of_side c first =
    record { extent = c.extent; x = cond (eqb first 0) c.x 0; y = cond (eqb first 0) 0 c.y }

-- nothing is asked of the side other than that which begins at first
pub record OneSided (c : Scope) (first : ℕ) : Type 0 where
  pub side : SideAt c.extent.order first
  pub free : (p : ℕ) → OnSide c.extent.order (c.extent.order - first) p → need_of c p ≡ 0

-- the places from the head of s₀ up to the head of s are dropped, but for their rows
pub record Passed (n m : ℕ) (w : List ℕ) (s₀ s : Peel) : Type 0 where
  pub begun : s₀.head ≤ s.head
  pub within : s.head ≤ s.tail
  pub tail : s.tail ≡ s₀.tail
  pub sources : s.sources ≡ s₀.sources
  pub targets : s.targets ≡ s₀.targets
  pub excess : s.excess ≡ s₀.excess
  pub total : Total n m w s

-- only degrees are changed
pub record Recounting (n m : ℕ) (w w' : List ℕ) : Type 0 where
  pub kept : Kept n m w w'
  pub queue : (i : ℕ) → queue_of n m w' i ≡ queue_of n m w i

-- every place has room in 16 bits for its edges to a place
pub record Roomy (n m : ℕ) (w : List ℕ) (place : ℕ) : Type 0 where
  pub room : (p : ℕ) → p < 2 * n → between n w place p ≤ 65535 - degree_of n m w p

-- every place has gained its edges to a place, if the test holds
pub record Gained (n m : ℕ) (place : ℕ) (test : Bool) (w w' : List ℕ) : Type 0 where
  pub recounting : Recounting n m w w'
  pub degrees : (p : ℕ) → p < 2 * n → degree_of n m w' p ≡ degree_of n m w p + if test (between n w place p)

-- the degrees of the first i places of the other side are set to 0, and those of this side stay
pub record Cleared (n m first i : ℕ) (w w' : List ℕ) : Type 0 where
  pub recounting : Recounting n m w w'
  pub same : (p : ℕ) → OnSide n first p → degree_of n m w' p ≡ degree_of n m w p
  pub zero : (j : ℕ) → j < i → degree_of n m w' (n - first + j) ≡ 0

-- the edges of p to those among the first i places of a side whose degree is at least `least`
abbrev pub edges_from : ℕ → ℕ → List ℕ → ℕ → ℕ → ℕ → ℕ → ℕ
edges_from n m w first least i p = sum (λ j. if (leb least (degree_of n m w (first + j))) (between n w (first + j) p)) i

-- The degrees of one side are counted anew, by those of the first i places of the other side whose degree is enough; their own stay.
pub record Recounted (n m first least i : ℕ) (w w' : List ℕ) : Type 0 where
  pub recounting : Recounting n m w w'
  pub same : (p : ℕ) → OnSide n first p → degree_of n m w' p ≡ degree_of n m w p
  pub counted : (p : ℕ) → OnSide n (n - first) p → degree_of n m w' p ≡ edges_from n m w first least i p
