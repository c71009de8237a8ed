-- `sift` moves one entry after the other. The invariant: of the first i entries those in no layer stand at the front, and from i on the list is as
-- it was.
use Rattle.layering.specs.Takings.{Sifted}
use Rattle.layering.proofs.takes.sift.Given as goal

abbrev pub invariant-loop-i : goal.invariant-loop-i
invariant-loop-i l = Sifted l.layers l.initial.edges l.edges l.i l.left
