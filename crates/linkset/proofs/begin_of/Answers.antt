-- The fourth link before the place tells how far off their first may stand.
use Rattle.std.proofs.Common.{arith}
use mathlib.Core.Logic.{inl, inr}
use Rattle.linkset.proofs.Degrees.{begins-near, begins-far}
use Rattle.linkset.proofs.begin_of.Goals as goal
use Rattle.linkset.proofs.begin_of.Goals.{else-place-ge4-via-then-place-ge4+else-set-place, else-place-ge4-via-else-place-ge4}

pub returns-then-set-place : goal.returns-then-set-place
returns-then-set-place c s few v at =
    c.search.ensures s (rw c.saturating_sub-low.ensures (begins-far _ _ s few v _ at c.if-place-ge4.true c.if-set-place.true))

pub returns : goal.returns
returns c s few v at =
    let near = begins-near _ _ s few v _ at in
    c.search-2.ensures s
    (rw c.saturating_sub-low-2.ensures
    (near (elim c.else-place-ge4.branch [
      | else-place-ge4-via-then-place-ge4+else-set-place w ↦ inr w.if-set-place.false
      | else-place-ge4-via-else-place-ge4 w ↦ inl (omega (arith, w.if-place-ge4.false))
    ])))
