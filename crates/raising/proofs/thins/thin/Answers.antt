-- `thin` drops every place that waits, and counts the other side by what is left.
use Rattle.std.proofs.Common.{sym, ◌∙◌}
use borrow.Author.Tests.{eqb-true}
use Rattle.raising.proofs.Thinning.{thin-ends}
use Rattle.raising.proofs.thins.thin.Goals as goal

pub returns-clause-peeling : goal.returns-clause-peeling
returns-clause-peeling c =
    thin-ends c.requires.one_sided c.requires.peeling c.drop_waiting-peel.ensures.passed c.drop_waiting-peel.ensures.drained c.need.ensures c.recount.ensures

pub recount-requires-clause-single : goal.recount-requires-clause-single
recount-requires-clause-single c h = c.requires.peeling.queued.single (eqb-true _ _ (sym c.is_single.ensures ∙ h))
