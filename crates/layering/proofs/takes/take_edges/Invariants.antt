-- `take_edges` takes the edges of the list one after the other. The invariant: those before this one that go from S to T are in the layer.
use Rattle.network.specs.File.{graph_of}
use Rattle.network.specs.Groups.{group_of}
use Rattle.layering.specs.Takings.{TakenFrom}
use Rattle.layering.proofs.takes.take_edges.Given as goal

abbrev pub invariant-loop-edge : goal.invariant-loop-edge
invariant-loop-edge l =
    TakenFrom (graph_of l.list.file.bytes.now) (group_of l.s) (group_of l.t) l.layer l.list.edges.now l.edge-index l.initial.layers l.layers
