-- What the laws ask of a graph, and of groups.
use Rattle.std.specs.Prelude.{ℕ, ◌<◌, ◌≡◌}
use Rattle.graph.specs.Range.{sum}
use Rattle.graph.specs.Graph.{Graph, Group}

-- each edge joins two vertices of the graph
pub record Closed (g : Graph) : Type 0 where
  pub source-below : (e : ℕ) → e < g.size → g.source e < g.order
  pub target_below : (e : ℕ) → e < g.size → g.target e < g.order

-- no two edges join the same two vertices in the same direction
abbrev pub Simple : Graph → Type 0
Simple g = (d e : ℕ) → d < g.size → e < g.size → g.source d ≡ g.source e → g.target d ≡ g.target e → d ≡ e

-- each edge weighs 1
abbrev pub Single : Graph → Type 0
Single g = (e : ℕ) → e < g.size → g.weight e ≡ 1

-- the weights of all edges together (02, wish 13); where each weighs 1, the number of links
abbrev pub total : Graph → ℕ
total g = sum g.weight g.size

-- S and R have the same vertices
abbrev pub Same : Graph → Group → Group → Type 0
Same g S R = (u : ℕ) → u < g.order → S u ≡ R u
