-- `drop_place` meets its contract: the mark is no degree, so that the place itself is not lowered.
use Rattle.harmonic.proofs.Lowering.{marked-rows, marked-spare, marked-drops}
use Rattle.harmonic.proofs.drops.drop_place.Goals as goal

pub lower_row-requires-clause-rows : goal.lower_row-requires-clause-rows
lower_row-requires-clause-rows c = marked-rows c.args.mark c.requires.rows c.requires.is_place (rw c.bracket_of.ensures at c.set_key.ensures.beside)

pub lower_row-requires-clause-spare : goal.lower_row-requires-clause-spare
lower_row-requires-clause-spare c =
    marked-spare c.args.mark c.requires.rows c.requires.is_place (rw c.bracket_of.ensures at c.set_key.ensures.beside) c.requires.is_mark c.requires.spare

pub returns : goal.returns
returns c = marked-drops c.args.mark c.requires.rows c.requires.is_place (rw c.bracket_of.ensures at c.set_key.ensures.beside) c.requires.is_mark c.lower_row.ensures
