-- `same_people` compares S with S and T with T, where both findings have as many members.
use Rattle.std.proofs.Common.{rules, ◌≡◌, arith}
use Rattle.std.proofs.lemmas.Bool.Decides.{nat_tests}
use Rattle.finding.proofs.Comparing.{bits-faulty, bits-told}
use Rattle.finding.proofs.Equality.{sources-faulty, targets-faulty, groups-none, people-told}
use Rattle.finding.proofs.compare.same_people.Goals as goal

pub returns-in_err-sources : goal.returns-in_err-sources
returns-in_err-sources c =
    let (p, q) = c.requires in
    rw c.from_residual.ensures (sources-faulty c.args.one.now c.args.other.now (bits-faulty _ _ (search rules) p.sources q.sources c.in_err-sources.ensures))

pub returns-in_err-targets : goal.returns-in_err-targets
returns-in_err-targets c =
    let (p, q) = c.requires in
    rw c.from_residual-in_err-targets.ensures
    (targets-faulty c.args.one.now c.args.other.now (bits-faulty _ _ (search rules) p.targets q.targets c.in_err-targets.ensures))

pub returns : goal.returns
returns c =
    let (p, q) = c.requires in
    let n : c.args.one.now.n ≡ c.args.other.now.n = search rules in
    let (s₁, s₂, sources) = bits-told _ _ n p.sources q.sources c.in_ok-sources.ensures in
    let (t₁, t₂, targets) = bits-told _ _ n p.targets q.targets c.in_ok-targets.ensures in
    (groups-none c.args.one.now c.args.other.now s₁ t₁ s₂ t₂, people-told c.args.one.now c.args.other.now n sources targets (grind (arith, nat_tests)))
