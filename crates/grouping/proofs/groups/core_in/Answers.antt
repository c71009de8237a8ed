-- `core_in` writes the groups of the core: the peel has ended, and where it is not cut both groups go by its degrees, and its sizes are theirs.
use Rattle.std.proofs.Common.{◌≡◌, true, not, ◌&&◌, refl}
use borrow.Author.Tests.{not-true}
use Rattle.graph.proofs.Tests.{and_left, and_right}
use Rattle.peeling.specs.Peeling.{emptied}
use Rattle.grouping.proofs.Answers.{core-in, cut_in, not-cut}
use Rattle.grouping.proofs.groups.core_in.Goals as goal

pub returns-then-is_cut : goal.returns-then-is_cut
returns-then-is_cut c =
    let held : (not c.is_free-drain.result && emptied c.whole-peel.result) ≡ true = cc in
    let (x, y) = c.is_free-drain.ensures (not-true _ (and_left _ _ held)) in
    cut_in c.whole-peel.ensures (and_right _ _ held) x y c.args.s.now c.args.t.now
    c.clear_groups.ensures.sources c.clear_groups.ensures.targets c.clear_groups.ensures.totals

pub returns : goal.returns
returns c =
    core-in c.args.s.now c.args.t.now c.whole-peel.ensures (not-cut c.whole-peel.ensures (cc)) c.degrees_at-at.ensures
    c.write_group.ensures c.write_group-2.ensures refl refl refl
