-- `equal_level` has nothing fixed.
use Rattle.cores.proofs.Told.{equal-level-told}
use Rattle.cores.proofs.asks.equal_level.Goals as goal

pub returns : goal.returns
returns c =
    let a = c.args in
    equal-level-told a.file.now a.a.now a.b.now a.work.now _ c.level_along.ensures
