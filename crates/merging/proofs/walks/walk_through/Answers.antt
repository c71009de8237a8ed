-- Each turn of `walk_through` passes a run of both files, or takes steps.
use Rattle.std.proofs.Common.{rules, arith, ◌∙◌}
use Rattle.merging.specs.Merging.{run}
use Rattle.merging.proofs.Walking.{rising}
use Rattle.merging.proofs.Steps.{merging-begin, merging-run, merging-picked, merging-counted}
use Rattle.merging.proofs.walks.walk_through.Goals as goal

pub loop-walk-init : goal.loop-walk-init
loop-walk-init g c = record { merged = merging-begin _ _ _; length = search rules }

pub loop-walk-preserved-then-is_run : goal.loop-walk-preserved-then-is_run
loop-walk-preserved-then-is_run g c =
    let pair = c.args.pair.now in
    let passed = c.pass_run-walk.ensures in
    record {
      merged = rw passed.walk (merging-run (rising pair.first.accepted) (rising pair.second.accepted) c.loop-walk.invariant.merged run (c.is_run.ensures c.if-is_run.true) passed.list);
      length = passed.list.same_length ∙ c.loop-walk.invariant.length;
    }

pub returns-else-walk-second_size-clause-picked : goal.returns-else-walk-second_size-clause-picked
returns-else-walk-second_size-clause-picked g c =
    let pair = c.args.pair.now in
    merging-picked (rising pair.first.accepted) (rising pair.second.accepted) c.loop-walk.invariant.merged (λ m n. omega (arith, c.if-walk-second_size.false, c.size_of-second_size.ensures))

pub returns-after-loop-walk-clause-counted : goal.returns-after-loop-walk-clause-counted
returns-after-loop-walk-clause-counted g c =
    let pair = c.args.pair.now in
    merging-counted (rising pair.first.accepted) (rising pair.second.accepted) c.loop-walk.invariant.merged (λ m n. omega (arith, c.loop-walk-test.false, c.size_of-first_size.ensures))
