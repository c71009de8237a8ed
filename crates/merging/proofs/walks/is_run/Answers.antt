-- One edge more is compared, by its mark.
use Rattle.std.proofs.Common.{◌+◌, ◌<◌, ◌∙◌, sym, arith}
use Rattle.graph.proofs.Tests.{and_left, and_right}
use Rattle.network.specs.File.{graph_of}
use Rattle.merging.proofs.Walking.{marks-one}
use Rattle.merging.proofs.Steps.{run-next}
use Rattle.merging.proofs.walks.is_run.Goals as goal

pub loop-i-preserved : goal.loop-i-preserved
loop-i-preserved g c = λ t.
    let pair = c.args.pair.now in
    let first : c.args.walk.first + c.loop-i.i < (graph_of pair.first.bytes.now).size = omega (arith, c.requires.first, c.loop-i-test.true) in
    let second : c.args.walk.second + c.loop-i.i < (graph_of pair.second.bytes.now).size = omega (arith, c.requires.second, c.loop-i-test.true) in
    run-next (c.loop-i.invariant (and_left _ _ t)) first second
    (sym (marks-one pair.first.accepted pair.second.accepted first second c.mark_at-first.ensures c.mark_at-second.ensures) ∙ sym c.is_one-same.ensures ∙ and_right _ _ t)
