-- `list_edges` counts all edges up where everyone is in both groups, and picks those from A to B where not.
use Rattle.std.proofs.Common.{ℕ, ◌≡◌, ◌-◌, ◌∙◌, length, take, length-take, refl, arith}
use Rattle.std.proofs.Math.ListN.{get_or-append}
use Rattle.graph.specs.Within.{within}
use Rattle.network.specs.File.{graph_of}
use Rattle.network.specs.Groups.{group_of}
use Rattle.network.proofs.Versions.{weight-range}
use Rattle.filling.proofs.Times.{list_all, within_all}
use Rattle.filling.proofs.listings.list_edges.Goals as goal

pub returns-clause-list : goal.returns-clause-list
returns-clause-list c =
    let g = graph_of c.args.links.now.file.bytes.now in
    let all = c.if-not-are_everyone.ensures in
    let k = c.size_of-size.result in
    let cut : length (take (k - 0) c.args.edges.now) ≡ k = omega (arith, length-take {A = ℕ}, c.requires, c.size_of-size.ensures) in
    rw c.size_of-size.ensures.0
    (list_all {g = within g (group_of c.args.links.now.a.now) (group_of c.args.links.now.b.now)} (λ i h. get_or-append c.count_up.new.to _ 0 i (omega (arith, c.size_of-size.ensures, c.count_up.ensures.length, cut)) ∙ c.count_up.ensures.counted i (omega (arith, c.size_of-size.ensures, cut)))
    (λ e h. rw (within_all c.args.links.now.file.accepted.sound.closed c.args.links.now.a.now c.args.links.now.b.now (all.in_a refl) (all.in_b refl) e h) (weight-range _).0))
