-- How many vertices and edges a graph of the library has at most.
use Rattle.std.specs.Prelude.{ℕ, ◌≤◌}
use Rattle.network.specs.File.{most_members, most_links}

-- at most 2,048 vertices and 8,192 edges: every entry of the work table fits
pub record Small (n m : ℕ) : Type 0 where
  pub order : n ≤ most_members
  pub size : m ≤ most_links
