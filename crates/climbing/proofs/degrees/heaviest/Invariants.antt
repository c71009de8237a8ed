-- `heaviest` finds the greatest degree. The loop's invariant: the greatest so far is that of the places passed.
use Rattle.std.proofs.Common.{leb, ◌+◌, get_or}
use Rattle.climbing.specs.Climbs.{Heaviest}
use Rattle.climbing.proofs.degrees.heaviest.Given as goal

abbrev pub invariant-loop-degree : goal.invariant-loop-degree
invariant-loop-degree l = Heaviest (λ p. leb l.from p) (λ p. get_or l.degrees p 0) (l.from + l.degree-index) l.heaviest
