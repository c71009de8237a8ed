-- A list of edges, the graph of which only these count, and the work table that holds it.
use Rattle.std.specs.Prelude.{ℕ, ◌*◌, ◌<◌, List, ◌≡◌, eqb, leb, length, get_or, drop}
use Rattle.graph.specs.Range.{sum, if}
use Rattle.graph.specs.Graph.{Graph}
use Rattle.network.specs.Refusals.{work_length}
use Rattle.peeling.specs.Peeling.{Tabled}

-- how often edge e stands among the first k entries of a list
abbrev pub times : List ℕ → ℕ → ℕ → ℕ
times l k e = sum (λ i. if (eqb (get_or l i 0) e) 1) k

-- the graph in which each edge counts as often as it stands in the list, and so weighs 0 where it does not
abbrev pub only : Graph → List ℕ → Graph
only g l = record { order = g.order; size = g.size; source = g.source; target = g.target; weight = λ e. times l (length l) e * g.weight e }

-- the first k entries of a list are the edges of a graph that do not weigh 0, each once
pub record ListOf (g : Graph) (l : List ℕ) (k : ℕ) : Type 0 where
  pub below : (i : ℕ) → i < k → get_or l i 0 < g.size
  pub once : (e : ℕ) → e < g.size → times l k e ≡ if (leb 1 (g.weight e)) 1

-- the table, with room for k edges, holds a graph, and what lies past the entries that it needs is unchanged
pub record FilledWith (g : Graph) (k : ℕ) (w w' : List ℕ) : Type 0 where
  pub tabled : Tabled g g.order k w'
  pub same_length : length w' ≡ length w
  pub past : drop (work_length g.order k) w' ≡ drop (work_length g.order k) w
