-- `level` has x fixed and not 0.
use Rattle.cores.proofs.Told.{level-told}
use Rattle.cores.proofs.asks.level.Goals as goal

pub returns : goal.returns
returns c =
    let a = c.args in
    level-told a.file.now a.a.now a.b.now a.work.now _ a.x (rw c.from.ensures at c.level_along.ensures)
