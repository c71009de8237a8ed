use Rattle.std.proofs.Common.{refl, ◌+◌, ap}
use Rattle.network.proofs.Groups.{number-of_test}
use Rattle.layering.proofs.Times.{sifted-begins, sifted-next}
use Rattle.layering.proofs.takes.sift.Goals as goal

pub loop-i-init : goal.loop-i-init
loop-i-init c = sifted-begins _ _

pub loop-i-preserved : goal.loop-i-preserved
loop-i-preserved c =
    sifted-next c.loop-i.invariant c.loop-i-test.true refl (rw (c.from-left.ensures, c.from.ensures) (ap (λ n. c.loop-i.left + n) (number-of_test _)))
