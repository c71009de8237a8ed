use Rattle.std.proofs.Common.{arith}
use native.Mathlib.Nat.{sub-add_cancel}
use Rattle.climbing.specs.declared.Rise.TheVariants.{Targets, Sources}
use Rattle.searching.proofs.Corners.{corner-begins, corner-some, corner-range, corner-better, corner-smaller, corner-step, corner-next, corner-ends}
use Rattle.searching.proofs.blocks.try_block.Goals as goal

pub loop-extent-init : goal.loop-extent-init
loop-extent-init c =
    corner-begins c.requires.block.0 c.requires.block.1 c.start-number.ensures c.requires.in_range (rw (c.asked.ensures, c.rise_of-rise.ensures) at c.begin-peel.ensures)

pub least_pair-pair-requires-clause-sources : goal.least_pair-pair-requires-clause-sources
least_pair-pair-requires-clause-sources c = rw (c.asked-scope.ensures, c.rise_of-rise.ensures) (corner-some c.loop-extent.invariant (cc) Sources)

pub least_pair-pair-requires-clause-targets : goal.least_pair-pair-requires-clause-targets
least_pair-pair-requires-clause-targets c = rw (c.asked-scope.ensures, c.rise_of-rise.ensures) (corner-some c.loop-extent.invariant (cc) Targets)

pub better-best-requires-clause-pair : goal.better-best-requires-clause-pair
better-best-requires-clause-pair c =
    corner-range c.loop-extent.invariant (cc) (rw (c.asked-scope.ensures, c.rise_of-rise.ensures) at c.least_pair-pair.ensures)

pub better-best-requires-clause-best : goal.better-best-requires-clause-best
better-best-requires-clause-best c = c.loop-extent.invariant.in-range

pub start-number-requires-in-loop-extent : goal.start-number-requires-in-loop-extent
start-number-requires-in-loop-extent c =
    corner-better c.loop-extent.invariant (cc) (rw (c.asked-scope.ensures, c.rise_of-rise.ensures) at c.least_pair-pair.ensures) c.better-best.ensures

pub invariant_of-advance : goal.invariant_of-advance
invariant_of-advance c =
    record {
      more = rw (c.asked-scope.ensures, c.asked-x.ensures, c.rise_of-rise.ensures)
          (corner-step c.loop-extent.invariant (cc) (rw (c.asked-scope.ensures, c.rise_of-rise.ensures) at c.least_pair-pair.ensures) c.better-best.ensures (cc) c.start-number-in-loop-extent.ensures);
    }

pub advance-peel-requires : goal.advance-peel-requires
advance-peel-requires c = rw (c.asked-scope.ensures, c.rise_of-rise.ensures) c.loop-extent.invariant.ended.peeling

pub loop-extent-smaller : goal.loop-extent-smaller
loop-extent-smaller c =
    corner-smaller c.loop-extent.invariant (cc) (rw (c.asked-scope.ensures, c.rise_of-rise.ensures) at c.least_pair-pair.ensures) c.better-best.ensures (cc) c.start-number-in-loop-extent.ensures

pub loop-extent-preserved : goal.loop-extent-preserved
loop-extent-preserved c =
    corner-next c.loop-extent.invariant (cc) (rw (c.asked-scope.ensures, c.rise_of-rise.ensures) at c.least_pair-pair.ensures) c.better-best.ensures (cc) c.start-number-in-loop-extent.ensures
    (rw (c.asked-scope.ensures, c.asked-x.ensures, c.rise_of-rise.ensures) at c.advance-peel.ensures)

pub overflow_sub-result : goal.overflow_sub-result
overflow_sub-result c = c.loop-extent.invariant.positive

pub returns-clause-left : goal.returns-clause-left
returns-clause-left c = omega (arith, c.loop-extent.invariant.within, c.loop-extent.invariant.positive)

pub returns-clause-tries : goal.returns-clause-tries
returns-clause-tries c =
    rw (sub-add_cancel {n = c.loop-extent.fixed} {m = 1} c.loop-extent.invariant.positive) (corner-ends c.loop-extent.invariant (cc))
