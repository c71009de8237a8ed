-- `layer_links` makes layer after layer until no link is left. The invariant: so many layers are made, and the front of the list is the links that
-- are left. The measure: there are at most as many layers as edges.
use Rattle.std.proofs.Common.{◌≡◌, ◌-◌, length}
use Rattle.graph.specs.Within.{within}
use Rattle.network.specs.File.{graph_of}
use Rattle.network.specs.Groups.{group_of}
use Rattle.layering.proofs.Makings.{Turn}
use Rattle.layering.proofs.takes.layer_links.Given as goal

abbrev pub invariant-loop-left : goal.invariant-loop-left
invariant-loop-left l =
    record {
      turn : Turn (within (graph_of l.links.file.bytes.now) (group_of l.links.a.now) (group_of l.links.b.now)) l.layers l.edges l.made l.left;
      work : length l.work ≡ length l.initial.work;
    }

abbrev pub decreases-loop-left : goal.decreases-loop-left
decreases-loop-left l = (graph_of l.links.file.bytes.now).size - l.made
