-- `take_layer` fills the work table from the list, finds, writes the layer to the edges of the list between the two groups, and sifts the list.
use Rattle.std.proofs.Common.{arith}
use Rattle.graph.proofs.Quiet.{outcome-finding}
use Rattle.network.specs.File.{graph_of}
use Rattle.network.proofs.Versions.{weight-range}
use Rattle.layering.proofs.Takings.{lists-some, taken-making}
use Rattle.layering.proofs.takes.take_layer.Goals as goal

pub returns-clause-one_more : goal.returns-clause-one_more
returns-clause-one_more c =
    let a = c.args in
    let g = graph_of a.file.now.bytes.now in
    let r = c.requires in
    let some = lists-some g a.edges.now r.lists (λ e h. (weight-range _).0) r.some in
    record {
      made = λ p m. taken-making a.file.now.accepted.sound.closed p a.layers.now m c.take_edges.ensures (omega arith)
          (outcome-finding (c.find_in.ensures.outcome _ (rw c.order_of.ensures.0 c.fill.ensures.filled.tabled)) some) c.sift.ensures;
      few = c.sift.ensures.few;
      layers-length = c.take_edges.ensures.same_length;
      list_length = c.sift.ensures.same_length;
    }
