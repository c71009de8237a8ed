-- Where what the side needs rises by no more than the nearest degree is past it, no degree that was enough is less than what is needed then.
use Rattle.std.proofs.Common.{arith}
use borrow.Author.Tests.{leb-true}
use Rattle.raising.proofs.Raises.{past-both}
use Rattle.raising.proofs.needs.is_quiet.Goals as goal

pub returns : goal.returns
returns c =
    let next = rw c.next.ensures at c.need.ensures in
    let rise = c.in-Ok-try_from.ensures.1 in
    λ t p a b.
    past-both c.in-Ok-try_from.more c.loop-place.nearest c.requires.raised (omega (arith, rise, next, c.need-need.ensures)) (leb-true _ _ t)
    (c.loop-place.invariant p a (omega (arith, b, c.loop-place-test.false)))
