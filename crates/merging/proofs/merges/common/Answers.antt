-- `common` refuses by the two files, then by a short output; else it writes the edges that the merge has listed.
use Rattle.std.proofs.Common.{rules, ◌≡◌, ◌≤◌, ◌-◌, length, take, sym, ap, ◌∙◌, refl, arith}
use lib.Seq.{length-take-le}
use Rattle.network.specs.Calls as call
use Rattle.network.specs.File.{stride, link_at, graph_of}
use Rattle.network.specs.Refusals.{out_refusal}
use Rattle.network.proofs.Answers.{call-told, call-refused, or_else-told}
use Rattle.calls.proofs.Writer.{out-short, out_none}
use Rattle.merging.specs.Calls.{pair_refusal, common_length}
use Rattle.merging.proofs.Shares.{shared-few}
use Rattle.merging.proofs.Picks.{picked-few, picked-cut}
use Rattle.merging.proofs.Commons.{common-told}
use Rattle.merging.proofs.merges.common.Goals.{After-link_at}
use Rattle.merging.proofs.merges.common.Goals as goal

-- the output is compared with the length of a file of so many links,
room-needed : (c : After-link_at) → c.link_at.result ≡ link_at (stride 2) c.list_common-both.result
room-needed c = c.link_at.ensures ∙ ap (λ s. link_at s c.list_common-both.result) c.stride.ensures.0

-- which are those in both
compared : (c : After-link_at) → c.link_at.result ≡ common_length c.args.first.now c.args.second.now
compared c =
    let (first, second, passed) = c.in_ok-pair.ensures.passed in
    room-needed c ∙ ap (link_at (stride 2)) (rw (first, second) at c.list_common-both.ensures.picked).counted

pub returns-in_err-pair : goal.returns-in_err-pair
unfolding out_refusal
returns-in_err-pair c = call-told _ (search rules) (or_else-told (pair_refusal c.args.first.now c.args.second.now) _ _ (search rules))

pub link_at-requires : goal.link_at-requires
link_at-requires c = omega (arith, picked-few c.list_common-both.ensures.picked, c.in_ok-pair.pair.first.accepted.sound.header.size-most)

pub returns-then-out-link_at : goal.returns-then-out-link_at
returns-then-out-link_at c =
    let (first, second, passed) = c.in_ok-pair.ensures.passed in
    call-refused (out-short _ _ passed (omega (arith, compared (goal.at.returns-then-out-link_at c).After-link_at, c.if-out-link_at.true)))

pub slice_bounds-put_file-end : goal.slice_bounds-put_file-end
slice_bounds-put_file-end c = omega (arith, picked-few c.list_common-both.ensures.picked, c.in_ok-pair.pair.first.accepted.sound.header.size-most, c.list_common-both.ensures.length)

pub overflow_sub-result : goal.overflow_sub-result
overflow_sub-result c =
    let pair = c.in_ok-pair.pair in
    let listed = c.list_common-both.ensures in
    omega (arith, picked-few listed.picked, shared-few (graph_of pair.second.bytes.now) (graph_of pair.first.bytes.now), listed.counted, c.size_of.ensures)

pub overflow_sub-result-2 : goal.overflow_sub-result-2
overflow_sub-result-2 c =
    let pair = c.in_ok-pair.pair in
    let listed = c.list_common-both.ensures in
    omega (arith, picked-few listed.picked, shared-few (graph_of pair.second.bytes.now) (graph_of pair.first.bytes.now), listed.counted, c.size_of-2.ensures)

pub returns : goal.returns
returns c =
    let (first, second, passed) = c.in_ok-pair.ensures.passed in
    let pair = c.in_ok-pair.pair in
    let listed = c.list_common-both.ensures in
    let list = c.list_common-both.new.list in
    let both = c.list_common-both.result in
    let room : both ≤ length list = omega (arith, picked-few listed.picked, pair.first.accepted.sound.header.size-most, listed.length) in
    let size : length (take both list) ≡ both = length-take-le both list room in
    let whole : both - 0 ≡ both = omega arith in
    let long : link_at (stride 2) both ≤ length c.args.out.now = omega (arith, room-needed (goal.at.returns c).After-link_at, c.if-out-link_at.false) in
    let picked = picked-cut list both room listed.picked in
    call.accepted _ (out_none _ _ passed (omega (arith, compared (goal.at.returns c).After-link_at, c.if-out-link_at.false))) refl
    (rw (← first, ← second)
    (common-told pair.first.bytes.now pair.second.bytes.now (rw (first, second) passed) picked (size ∙ listed.counted) c.args.out.now (rw size long) (rw whole at c.put_file.ensures) (sym size) (search rules) (search rules)))
