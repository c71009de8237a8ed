-- `start` finds where a row or column begins to be better than the best: the quotient is the last place of a product no greater than that of the
-- best, and the pair there is compared with the best.
use Rattle.std.proofs.Common.{◌*◌, sym, ◌∙◌}
use mathlib.Core.Bool.{false≢true}
use Rattle.searching.proofs.Starts.{product-range, quotient-last, first-at, first-after}
use Rattle.searching.proofs.Line.start.Goals as goal

pub returns-then-is_better : goal.returns-then-is_better
returns-then-is_better c =
    let a = c.args in
    first-at a.self.side a.self.fixed _ a.best a.self.in_range.0 (quotient-last (a.best.x * a.best.y) a.self.fixed a.self.in_range.0) (product-range c.requires).0
    (λ h. false≢true (sym ((rw c.pair_at.ensures at c.is_better.ensures).1 h) ∙ c.if-is_better.true))

pub returns : goal.returns
returns c =
    let a = c.args in
    first-after a.self.side a.self.fixed _ a.best a.self.in_range.0 (quotient-last (a.best.x * a.best.y) a.self.fixed a.self.in_range.0)
    ((rw c.pair_at.ensures at c.is_better.ensures).0 c.if-is_better.false)
