-- The fourth link from the place on tells how far off their last may stand.
use Rattle.std.proofs.Common.{arith}
use mathlib.Core.Logic.{inl, inr}
use Rattle.linkset.proofs.Degrees.{ends-near, ends-far}
use Rattle.linkset.proofs.end_of.Goals as goal
use Rattle.linkset.proofs.end_of.Goals.{else-place-size-via-then-place-size+else-set-place, else-place-size-via-else-place-size}

pub returns-then-set-place : goal.returns-then-set-place
returns-then-set-place c s few v at = c.search.ensures s (rw c.min.ensures (ends-far _ _ s few v _ at c.if-place-size.true c.if-set-place.true))

pub returns : goal.returns
returns c s few v at =
    let near = ends-near _ _ s few v _ at in
    c.search-2.ensures s
    (rw c.min-2.ensures
    (near (elim c.else-place-size.branch [
      | else-place-size-via-then-place-size+else-set-place w ↦ inr w.if-set-place.false
      | else-place-size-via-else-place-size w ↦ inl (omega (arith, w.if-place-size.false))
    ])))
