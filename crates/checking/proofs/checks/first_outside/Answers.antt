-- `first_outside` looks for the first edge that names a vertex not below n.
use Rattle.std.proofs.Common.{◌≡◌, true, false, rules, tests}
use Rattle.std.proofs.lemmas.Iterator.{first_from_Range}
use Rattle.network.specs.File.{graph_of}
use Rattle.checking.proofs.Compare.{names-outside, first-found}
use Rattle.checking.proofs.checks.first_outside.Goals as goal

pub returns : goal.returns
returns c =
    let g = graph_of c.args.file.now.bytes.now in
    first-found (names-outside g) g.size _ c.find.result c.size_of-size.ensures.0
    (first_from_Range _ _ _ _ (λ i. names-outside g i ≡ true) (λ i. names-outside g i ≡ false) c.find.ensures.ran
    (λ x q k. search (rules, tests)) (λ x q k. (search rules, search (rules, tests))))
