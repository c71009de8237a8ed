-- What the tests of a file leave, one after the other.
use Rattle.std.specs.Prelude.{ℕ, ◌<◌, ◌≤◌, true, List, ◌≡◌, length}
use Rattle.graph.specs.Order.{Ascending}
use Rattle.graph.specs.Shapes.{Closed, Simple}
use Rattle.network.specs.File.{most_members, most_links, version_of, kind_at, graph_of, file_length, mark, marked}

-- the numbers 1, 2 and 6, where there are bytes: they begin with the mark, and their length is right
pub record Headed (f : List ℕ) : Type 0 where
  pub long : 9 ≤ length f
  pub is-marked : marked mark f ≡ true
  pub exact : length f ≡ file_length f

-- the numbers 1 to 6, none of which zero bytes give
pub record Header (f : List ℕ) : Type 0 where
  pub version-least : 1 ≤ version_of f
  pub version-most : version_of f ≤ 2
  pub order-most : (graph_of f).order ≤ most_members
  pub size-most : (graph_of f).size ≤ most_links
  pub headed : 1 ≤ length f → Headed f

-- and 7 and 22: each edge joins two vertices and has a kind
pub record Sound (f : List ℕ) : Type 0 where
  pub header : Header f
  pub closed : Closed (graph_of f)
  pub kinds : (e : ℕ) → e < (graph_of f).size → kind_at f e ≤ 7

-- and 8: no two are the same: all but that they ascend
pub record Distinct (f : List ℕ) : Type 0 where
  pub sound : Sound f
  pub simple : Simple (graph_of f)

-- and 15: they ascend, so that no two are the same either
pub record Accepted (f : List ℕ) : Type 0 where
  pub sound : Sound f
  pub ascending : Ascending (graph_of f)

-- e is an edge of a file that passes the numbers 1 to 6
abbrev pub Holds : List ℕ → ℕ → Type 0
Holds f e = Header f × (e < (graph_of f).size)
