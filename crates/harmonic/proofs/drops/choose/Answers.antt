-- `choose` meets its contract: the root holds the first place with the smallest key, and a mark is greater than every degree.
use Rattle.std.proofs.Common.{arith}
use Rattle.harmonic.proofs.Sides.{next_place}
use Rattle.harmonic.proofs.drops.choose.Goals as goal

pub returns-then-from-lt-FIRST_MARK : goal.returns-then-from-lt-FIRST_MARK
returns-then-from-lt-FIRST_MARK c =
    let a = c.args in
    let key = rw c.bracket_of-bracket.ensures at c.from.ensures in
    next_place a.extent.order a.extent.size a.work.now (rw c.bracket_of-bracket.ensures at c.first_of-first.ensures) c.place_at.ensures (omega (arith, key, c.if-from-lt-FIRST_MARK.true))
