-- `pick_edges` puts each edge after those that are counted, and counts it where it goes from A to B. The invariant: the front of the list is those
-- of the edges passed that do.
use Rattle.graph.specs.Within.{within}
use Rattle.network.specs.File.{graph_of}
use Rattle.network.specs.Groups.{group_of}
use Rattle.filling.proofs.Times.{Listing}
use Rattle.filling.proofs.listings.pick_edges.Given as goal

abbrev pub invariant-loop-edge : goal.invariant-loop-edge
invariant-loop-edge l = Listing (within (graph_of l.links.file.bytes.now) (group_of l.links.a.now) (group_of l.links.b.now)) l.initial.edges l.edges l.edge l.count
