-- `clear_groups` fills the first bytes of both groups with 0.
use Rattle.std.proofs.Common.{ℕ, ◌∙◌, length-take, ap, arith, rules}
use lib.ListN.{get_or}
use Rattle.graph.proofs.Stores.{get_or-zeros}
use Rattle.grouping.proofs.Bytes.{at-front}
use Rattle.grouping.proofs.groups.clear_groups.Goals as goal

pub returns-clause-sources : goal.returns-clause-sources
returns-clause-sources c =
    at-front _ c.args.n c.fill.new.self c.args.s.now (omega (arith, c.fill.ensures.len, c.requires, length-take {A = ℕ}))
    (λ k h. ap (λ l. get_or l k 0) (c.fill.ensures.after (search rules)) ∙ get_or-zeros _ k)

pub returns-clause-targets : goal.returns-clause-targets
returns-clause-targets c =
    at-front _ c.args.n c.fill-2.new.self c.args.t.now (omega (arith, c.fill-2.ensures.len, c.requires, length-take {A = ℕ}))
    (λ k h. ap (λ l. get_or l k 0) (c.fill-2.ensures.after (search rules)) ∙ get_or-zeros _ k)
