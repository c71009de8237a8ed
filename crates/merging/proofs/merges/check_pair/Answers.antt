-- `check_pair` refuses by the first file, then by the second.
use Rattle.std.proofs.Common.{rules}
use Rattle.network.specs.Accepted.{Accepted}
use Rattle.merging.proofs.Pairs.{first-told, second-told}
use Rattle.merging.proofs.merges.check_pair.Goals as goal

pub returns-in_err-first-clause-refused : goal.returns-in_err-first-clause-refused
returns-in_err-first-clause-refused c = first-told _ _ _ (search rules)

pub returns-in_err-second-clause-refused : goal.returns-in_err-second-clause-refused
returns-in_err-second-clause-refused c =
    let accepted : Accepted c.args.first.now = search rules in
    second-told _ _ accepted _ (search rules)
