-- Places, joined to each other by edges: which places are short of edges, and which sets of places are not. A number below N is a place,
-- and L p q is the number of edges between places p and q.
use Rattle.std.specs.Prelude.{ℕ, ◌<◌, ◌≤◌, true, ◌≡◌}
use Rattle.graph.specs.Range.{sum, if}
use Rattle.graph.specs.Graph.{Group}

-- the edges between place p and the places of R
unfoldable pub degree : (ℕ → ℕ → ℕ) → ℕ → Group → ℕ → ℕ
degree L N R p = sum (λ q. if (R q) (L p q)) N

-- each place of R has as many edges into R as it needs
pub record Settled (L : ℕ → ℕ → ℕ) (N : ℕ) (need : ℕ → ℕ) (R : Group) : Type 0 where
  pub enough : (p : ℕ) → p < N → R p ≡ true → need p ≤ degree L N R p

-- every such set of places is inside R
pub record Surrounds (L : ℕ → ℕ → ℕ) (N : ℕ) (need : ℕ → ℕ) (R : Group) : Type 0 where
  pub inside : (Q : Group) → Settled L N need Q → (p : ℕ) → p < N → Q p ≡ true → R p ≡ true
