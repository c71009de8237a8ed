-- `best_state` meets its contract: without links nothing is dropped, and else the drops begin with the degrees of the whole graph.
use Rattle.std.proofs.Common.{arith}
use Rattle.peeling.proofs.Totals.{held_rows, held_kept}
use Rattle.harmonic.proofs.Tables.{room}
use Rattle.harmonic.proofs.Telling.{some-order, tells_none, tree-kept, drops-begin, tells-best}
use Rattle.harmonic.proofs.walks.best_state.Goals as goal

pub returns-then-peel-eq0 : goal.returns-then-peel-eq0
returns-then-peel-eq0 c =
    let e = rw c.of.ensures at c.fresh-peel.ensures in
    tells_none e.peeling e.head e.kept c.if-peel-eq0.true

pub build-requires : goal.build-requires
build-requires c =
    let e = rw c.of.ensures at c.fresh-peel.ensures in
    rw c.bracket_of.ensures (room c.args.extent.small (some-order e.peeling e.head e.kept c.requires.weighed.held (omega arith)) (omega (arith, (held_rows c.requires.weighed.held).long)))

pub walk-requires-clause-held : goal.walk-requires-clause-held
walk-requires-clause-held c =
    let e = rw c.of.ensures at c.fresh-peel.ensures in
    held_kept c.requires.weighed.held (tree-kept e.peeling e.head e.kept (rw c.bracket_of.ensures at c.build.ensures.beside))

pub walk-requires-clause-begins : goal.walk-requires-clause-begins
walk-requires-clause-begins c =
    let e = rw c.of.ensures at c.fresh-peel.ensures in
    drops-begin e.peeling e.head e.kept (rw c.bracket_of.ensures at c.build.ensures.beside)

pub returns : goal.returns
returns c =
    let e = rw c.of.ensures at c.fresh-peel.ensures in
    tells-best e.peeling e.head e.kept (rw c.bracket_of.ensures at c.build.ensures.beside) (omega arith) c.walk.ensures
