-- `fresh` makes the peel of the whole graph: with the degrees filled in, the table holds the peel that has not begun.
use Rattle.std.proofs.Common.{◌≡◌, ℕ, ◌*◌, ◌≤◌, length, get_or, take, List, ap, ◌∙◌, arith}
use Rattle.std.proofs.lemmas.List.{get_or-take, length-take-le}
use Rattle.graph.specs.Range.{sum}
use Rattle.graph.proofs.Sums.{sum-ext}
use Rattle.peeling.proofs.Whole.{whole-heavy, whole-peel}
use Rattle.peeling.proofs.Peel.fresh.Goals as goal

-- the degrees of the sources are the front of the table
front : (n : ℕ) (t : List ℕ) → 2 * n ≤ length t → sum (λ p. get_or (take n t) p 0) (length (take n t)) ≡ sum (λ p. get_or t p 0) n
front n t l = ap (sum (λ p. get_or (take n t) p 0)) (length-take-le n t (omega arith)) ∙ sum-ext n (λ p b. get_or-take n t p 0 b)

pub excess_of-requires-clause-heavy : goal.excess_of-requires-clause-heavy
excess_of-requires-clause-heavy c =
    whole-heavy c.requires c.fill_degrees.ensures.kept (c.sum_of-edges.ensures.sum ∙ front _ c.args.degrees.now c.requires.long)

pub returns-clause-peeling : goal.returns-clause-peeling
returns-clause-peeling c =
    whole-peel c.requires c.fill_degrees.ensures.kept c.fill_degrees.ensures.degrees (c.sum_of-edges.ensures.sum ∙ front _ c.args.degrees.now c.requires.long)
    c.sum_of-edges.ensures.fits c.excess_of.ensures
