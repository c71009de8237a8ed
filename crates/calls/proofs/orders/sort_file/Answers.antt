-- `sort_file` refuses by the old rule, then by a short output; else it stores the file in the order that the check left.
use Rattle.std.proofs.Common.{rules, ◌≡◌, ◌≤◌, length, refl, arith, ap, sym, ◌∙◌}
use Rattle.std.proofs.lemmas.List.Edits.{sets}
use Rattle.network.specs.Calls as call
use Rattle.network.specs.File.{version_of, kind_at, graph_of, file_length, old_refusal}
use Rattle.network.specs.Bytes.{written}
use Rattle.network.specs.Refusals.{out_refusal}
use Rattle.network.proofs.Versions.{stride-range}
use Rattle.network.proofs.Accepted.{old-accepted, old-version}
use Rattle.network.proofs.Answers.{call-told, call-refused, or_else-told}
use Rattle.graph.proofs.Order.{precedes-strict}
use Rattle.graph.proofs.Sorting.{sorted-cut}
use Rattle.calls.proofs.Writer.{out-short, out_none, rewritten, sorted-lists, sorted-written}
use Rattle.calls.proofs.orders.sort_file.Goals.{After-link_at}
use Rattle.calls.proofs.orders.sort_file.Goals as goal

-- the output is compared with the length of the file
compared : (c : After-link_at) → c.link_at.result ≡ file_length c.args.file.now
compared c =
    let tested = c.in_ok-file.ensures in
    c.link_at.ensures ∙ rw (c.in_ok-file.file.strided, c.size_of-size.ensures.0, tested.passed)

pub returns-in_err-file : goal.returns-in_err-file
unfolding out_refusal
returns-in_err-file c = call-told _ (search rules) (or_else-told (old_refusal c.args.file.now) _ _ (search rules))

pub link_at-requires : goal.link_at-requires
link_at-requires c = omega (arith, stride-range (version_of c.in_ok-file.file.bytes.now), c.in_ok-file.file.strided, c.size_of-size.ensures)

pub returns-then-out-link_at : goal.returns-then-out-link_at
returns-then-out-link_at c =
    let tested = c.in_ok-file.ensures in
    call-refused (out-short _ _ ((old-accepted _).1 tested.distinct) (omega (arith, compared (goal.at.returns-then-out-link_at c).After-link_at, c.if-out-link_at.true)))

pub put_file-requires-clause-lists : goal.put_file-requires-clause-lists
put_file-requires-clause-lists c =
    let g = graph_of c.in_ok-file.file.bytes.now in
    let size = c.size_of-size.ensures.0 in
    sorted-lists g _ (search rules) (sorted-cut _ _ (precedes-strict g) (omega (arith, size)) (rw c.in_ok-file.ensures.passed c.in_ok-file.ensures.sorted))

pub returns : goal.returns
returns c =
    let f = c.args.file.now in
    let tested = c.in_ok-file.ensures in
    let read = c.in_ok-file.file.bytes.now in
    let g = graph_of read in
    let none = (old-accepted f).1 tested.distinct in
    let long : file_length f ≤ length c.args.out.now = omega (arith, compared (goal.at.returns c).After-link_at, c.if-out-link_at.false) in
    let sorted = sorted-cut _ _ (precedes-strict g) (omega (arith, c.size_of-size.ensures.0)) (rw tested.passed tested.sorted) in
    let whole = c.put_file.ensures ∙ ap (sets c.args.out.now 0) (sorted-written 1 (kind_at read) g _ (search rules) sorted ∙ ap (λ f. written 1 (kind_at f) (graph_of f)) tested.passed ∙ ap (λ v. written v (kind_at f) (graph_of f)) (sym (old-version f none))) in
    call.accepted _ (out_none _ _ none long) refl (rewritten _ tested.distinct.0 long (rw tested.passed at c.size_of-size.ensures.0) whole)
