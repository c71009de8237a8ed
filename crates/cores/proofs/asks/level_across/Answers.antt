-- `level_across` has y fixed and not 0.
use Rattle.cores.proofs.Told.{level-across-told}
use Rattle.cores.proofs.asks.level_across.Goals as goal

pub returns : goal.returns
returns c =
    let a = c.args in
    level-across-told a.file.now a.a.now a.b.now a.work.now _ a.y (rw c.from.ensures at c.level_along.ensures)
