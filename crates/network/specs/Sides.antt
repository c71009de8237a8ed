-- A graph seen from a side, so that what is said of sources holds for targets too.
use Rattle.graph.specs.Graph.{Graph, reverse}
use Rattle.network.specs.declared.Side.{Side}
use Rattle.network.specs.declared.Side.TheVariants.{Source, Target}

-- from the source's side the graph itself, from the target's side every edge turned round
abbrev pub seen : Side → Graph → Graph
seen Source g = g
seen Target g = reverse g

-- the side opposite
abbrev pub opposite : Side → Side
opposite Source = Target
opposite Target = Source
