-- 02, wish 12: what one vouch can move.
use Rattle.std.specs.Prelude.{ℕ, ◌<◌, List, ◌↔◌, ◌≡◌, None}
use Rattle.graph.specs.Graph.{Linked}
use Rattle.graph.specs.Shapes.{Single}
use Rattle.graph.specs.Rises.{LinkedOr, LevelsRise}
use Rattle.network.specs.File.{most_links, graph_of, file_refusal}
use Rattle.network.specs.Held.{Filed}

-- 02: the link from u to v is absent from file f, and f' is an accepted file over the same n that holds exactly the links of f and that one; u
-- and v are members then, since f' is accepted
pub record Vouched (f f' : List ℕ) (u v : ℕ) : Type 0 where
  pub absent : ¬ Linked (graph_of f) u v
  pub accepted : file_refusal f' ≡ None
  pub order : (graph_of f').order ≡ (graph_of f).order
  pub linked : (a b : ℕ) → Linked (graph_of f') a b ↔ LinkedOr (graph_of f) u v a b

-- 02: for every accepted file f, every link absent from it, every such file f', and any two groups A and B: the level of each x, the level across for each
-- y, and the equal level rise by 0 or 1, and never fall. 02, wish 13: so it is where every link weighs 1.
abbrev pub OneVouch : Type 0
OneVouch = (f f' : List ℕ) (u v : ℕ) → file_refusal f ≡ None → Vouched f f' u v → Single (graph_of f) → Single (graph_of f') → LevelsRise (graph_of f) (graph_of f')

-- 02: there is such a file, of bytes, in which every link weighs 1, for every accepted file of fewer than 8,192 links, and every link absent from it between
-- existing members
abbrev pub VouchFits : Type 0
VouchFits = (f : List ℕ) (u v : ℕ) → file_refusal f ≡ None → (graph_of f).size < most_links → u < (graph_of f).order → v < (graph_of f).order
    → ¬ Linked (graph_of f) u v → (f' : List ℕ) × Filed f' × Vouched f f' u v × Single (graph_of f')

-- 02: with 8,192 links present there is nothing to add
abbrev pub NothingToAdd : Type 0
NothingToAdd = (f f' : List ℕ) (u v : ℕ) → file_refusal f ≡ None → (graph_of f).size ≡ most_links → ¬ Vouched f f' u v
