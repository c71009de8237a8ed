-- `enter` refuses by the file, then by what comes later; else it fills the work table with the links from A to B.
use Rattle.std.proofs.Common.{rules, ◌≡◌, Some, refl, ◌∙◌, arith}
use Rattle.std.proofs.lemmas.Result.{IfErr-weaker}
use Rattle.graph.proofs.Stores.{drop_more}
use Rattle.network.specs.File.{graph_of, file_refusal}
use Rattle.network.specs.Refusals.{work_length}
use Rattle.network.specs.Calls as call
use Rattle.network.proofs.Answers.{call-told, or_else-told}
use Rattle.cores.specs.Entries.{entry_refusal, later_refusal}
use Rattle.cores.proofs.WayIn.{entry-later, later-none}
use Rattle.cores.proofs.entries.enter.Goals as goal

pub returns-in_err-file : goal.returns-in_err-file
unfolding entry_refusal
returns-in_err-file c = call-told _ (search rules) (or_else-told (file_refusal c.args.file.now) _ _ (search rules))

pub returns-in_err-links : goal.returns-in_err-links
returns-in_err-links c =
    let a = c.args in
    let f = c.in_ok-file.file.bytes.now in
    let g = graph_of f in
    let e = entry-later a.ask f a.a.now a.b.now a.s a.t _ c.in_ok-file.file.accepted in
    rw (← c.in_ok-file.ensures.passed)
    (call-told _ (search rules) (IfErr-weaker _ (λ q. later_refusal a.ask g.order g.size a.a.now a.b.now a.s a.t _ ≡ Some q) _ (λ q i. e ∙ i) (search rules)))

pub fill_within-size-requires-clause-room : goal.fill_within-size-requires-clause-room
fill_within-size-requires-clause-room c =
    let a = c.args in
    rw c.in_ok-links.ensures.passed.0 ((later-none _ _ _ a.a.now a.b.now a.s a.t _ c.in_ok-links.ensures.none).0.work)

pub returns : goal.returns
returns c =
    let a = c.args in
    let f = c.in_ok-file.file.bytes.now in
    let g = graph_of f in
    let links = c.in_ok-links.ensures in
    let size = rw links.passed.0 at c.fill_within-size.ensures.few in
    let filled = rw (links.passed.0, links.passed.1, links.passed.2) at c.fill_within-size.ensures.filled in
    rw (← c.in_ok-file.ensures.passed)
    (call.accepted _ (entry-later a.ask f a.a.now a.b.now a.s a.t _ c.in_ok-file.file.accepted ∙ links.none) refl
    record {
      accepted = c.in_ok-file.file.accepted;
      order = c.order_of.ensures.0;
      size = size;
      long = (later-none _ _ _ _ _ _ _ _ links.none).0;
      tabled = rw c.order_of.ensures.0 filled.tabled;
      weighed = rw (c.order_of.ensures.0, ← links.passed.0) c.fill_within-size.ensures.weighed;
      work = (filled.same_length, drop_more _ a.work.now (work_length g.order c.fill_within-size.result) (work_length g.order g.size) (omega (arith, size)) filled.past);
    })
