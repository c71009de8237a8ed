-- Lists of edges, by their numbers.
use Rattle.std.specs.Prelude.{ℕ, ◌<◌, List, length, get_or}
use Rattle.graph.specs.Graph.{Graph}

-- each entry of the list is the number of an edge
abbrev pub Lists : Graph → List ℕ → Type 0
Lists g l = (i : ℕ) → i < length l → get_or l i 0 < g.size

-- the edges of the list, in its order
abbrev pub listed : Graph → List ℕ → Graph
listed g l =
    record {
      order = g.order;
      size = length l;
      source = λ i. g.source (get_or l i 0);
      target = λ i. g.target (get_or l i 0);
      weight = λ i. g.weight (get_or l i 0);
    }
