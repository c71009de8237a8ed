-- A graph with one edge more, and what an edge more does to a property of numbers.
use Rattle.std.specs.Prelude.{ℕ, suc, ◌≤◌, cond, ◌↔◌, ◌≡◌, eqb}
use Rattle.graph.specs.Graph.{Graph, Linked}
use Rattle.graph.specs.Shapes.{Closed, Simple, Single}
use Rattle.graph.specs.Rises.{LinkedOr}

-- the graph with an edge from u to v for its last
abbrev pub add : Graph → ℕ → ℕ → Graph
add g u v =
    record {
      order = g.order;
      size = suc g.size;
      source = λ e. cond (eqb e g.size) u (g.source e);
      target = λ e. cond (eqb e g.size) v (g.target e);
      weight = λ e. cond (eqb e g.size) 1 (g.weight e);
    }

-- the edges join vertices, and none stands twice
pub record Plain (g : Graph) : Type 0 where
  pub closed : Closed g
  pub simple : Simple g

-- two such graphs in which each edge weighs 1, of which h has the links of g and one from u to v
pub record Added (g h : Graph) (u v : ℕ) : Type 0 where
  pub first : Plain g
  pub second : Plain h
  pub first_single : Single g
  pub second_single : Single h
  pub order : h.order ≡ g.order
  pub linked : (a b : ℕ) → Linked h a b ↔ LinkedOr g u v a b

-- Q holds of each number that P holds of; and P holds of each number of at least 1 that comes before one that Q holds of
pub record Raised (P Q : ℕ → Type 0) : Type 0 where
  pub stays : (j : ℕ) → P j → Q j
  pub fewer : (j : ℕ) → 1 ≤ j → Q (suc j) → P j
