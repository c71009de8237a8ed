-- The edges of a list, as a graph.
use Prim.Native.Nat.{ℕ}
use mathlib.Core.List.{List}
use Rattle.graph.specs.Graph.{Graph}
use Rattle.graph.specs.Shapes.{Closed}
use Rattle.graph.specs.Listed.{Lists, listed}

-- the edges of a list join vertices where the graph's edges do
pub listed-closed : {g : Graph} (l : List ℕ) → Closed g → Lists g l → Closed (listed g l)
listed-closed l c below = record { source-below = λ i h. c.source-below _ (below i h); target_below = λ i h. c.target_below _ (below i h) }
