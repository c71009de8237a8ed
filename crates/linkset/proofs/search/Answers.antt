use Rattle.std.proofs.Common.{arith}
use Rattle.linkset.proofs.Places.{told-most, narrowed-next}
use Rattle.linkset.proofs.search.Goals as goal

pub loop-left-preserved : goal.loop-left-preserved
loop-left-preserved g c =
    record {
      within = omega (arith, told-most c.loop-left.left c.loop-left-test.true, c.passed-low.ensures.most, c.told-left.ensures, c.loop-left.invariant.within);
      narrowed = λ s n. rw (c.passed-low.ensures.count, c.told-left.ensures) (narrowed-next _ _ _ _ s (c.loop-left.invariant.narrowed s n) c.loop-left-test.true);
    }
