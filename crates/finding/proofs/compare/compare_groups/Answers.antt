-- The pair of a turn is a byte of each table.
use Rattle.std.proofs.Common.{length}
use Rattle.std.proofs.lemmas.List.{length-append}
use Rattle.std.proofs.lemmas.Slice.Zip.{zip_turn}
use Rattle.finding.proofs.Comparing.{bits-next, alike-next}
use Rattle.finding.proofs.compare.compare_groups.Goals as goal

pub loop-one-preserved : goal.loop-one-preserved
loop-one-preserved c =
    let a = c.args.a.now in
    let b = c.args.b.now in
    let s = c.into_iter-one-iterator.ensures.into_iter_gives in
    let turn =
    zip_turn a b c.loop-one.yielded c.into_iter-one-iterator.result c.loop-one.one-iterator c.next.new.self c.next.result
    (rw (s, c.zip-one-items.ensures.first) c.iter.ensures.rest)
    (rw s c.zip-one-items.ensures.second.0)
    c.loop-one.yielded_by _ c.in-Some.is c.next.ensures.steps in
    let (bits, alike) = c.loop-one.invariant in
    let k = length c.loop-one.yielded in
    rw (length-append, c.max-greatest.ensures, c.max.ensures) (bits-next a b k (turn.2 0) (turn.3 0) bits, alike-next a b k (turn.2 0) (turn.3 0) alike)
