-- Each step is merged, and the marks of the edges that are in hand after it were read before.
use Rattle.std.proofs.Common.{rules, arith, ◌∙◌}
use Rattle.std.specs.Prelude.{leb}
use Rattle.graph.proofs.Tests.{if-le}
use Rattle.network.specs.File.{graph_of}
use Rattle.merging.proofs.Walking.{rising, marks-one}
use Rattle.merging.proofs.Steps.{merged-step, mark-after}
use Rattle.merging.proofs.walks.Walk.steps.Goals as goal

pub loop-preserved : goal.loop-preserved
loop-preserved g c =
    let pair = c.args.pair.now in
    let a = pair.first.accepted in
    let b = pair.second.accepted in
    let first = c.loop.first in
    let second = c.loop.second in
    let h = c.loop.invariant in
    let walk = c.step-walk.ensures.walk in
    record {
      merged = rw walk
          (merged-step (rising a) (rising b) first second h.merged (search rules) (search rules) c.step-walk.ensures.list h.first_mark h.second_mark (marks-one a b (search rules) (search rules) h.first_mark h.second_mark));
      first_mark = rw walk (c.next_mark-in_hand.ensures ∙ mark-after (graph_of pair.first.bytes.now) c.loop.walk.first _ (leb first second) h.first_mark c.mark_at-after_first.ensures);
      second_mark = rw walk (c.next_mark-second.ensures ∙ mark-after (graph_of pair.second.bytes.now) c.loop.walk.second _ (leb second first) h.second_mark c.mark_at-after_second.ensures);
      first_near = rw walk (omega (arith, h.first_near, if-le (leb first second) 1));
      second_near = rw walk (omega (arith, h.second_near, if-le (leb second first) 1));
      on = rw walk (omega (arith, h.on));
      length = c.step-walk.ensures.list.same_length ∙ h.length;
    }

pub returns-clause-merged : goal.returns-clause-merged
returns-clause-merged g c =
    let pair = c.args.pair.now in
    let a = pair.first.accepted in
    let b = pair.second.accepted in
    let h = c.loop.invariant in
    rw c.step.ensures.walk
    (merged-step (rising a) (rising b) c.loop.first c.loop.second h.merged (search rules) (search rules) c.step.ensures.list h.first_mark h.second_mark (marks-one a b (search rules) (search rules) h.first_mark h.second_mark))
