-- `first_unknown` looks for the first edge of a kind above 7.
use Rattle.std.proofs.Common.{◌≡◌, true, false, rules, tests}
use lib.Dec.{ltb}
use Rattle.std.proofs.lemmas.Iterator.{first_from_Range}
use Rattle.network.specs.File.{kind_at, graph_of}
use Rattle.checking.proofs.Compare.{first-found}
use Rattle.checking.proofs.checks.first_unknown.Goals as goal

pub returns : goal.returns
returns c =
    let f = c.args.file.now.bytes.now in
    first-found (λ e. ltb 7 (kind_at f e)) (graph_of f).size _ c.find.result c.size_of-size.ensures.0
    (first_from_Range _ _ _ _ (λ e. ltb 7 (kind_at f e) ≡ true) (λ e. ltb 7 (kind_at f e) ≡ false) c.find.ensures.ran
    (λ x q k. search (rules, tests)) (λ x q k. (search rules, search (rules, tests))))
