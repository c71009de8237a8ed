-- An edge that has not four bytes has five.
use Rattle.std.proofs.Common.{sym, ◌∙◌}
use Rattle.network.proofs.Versions.{five-bytes}
use Rattle.merging.proofs.walks.list_common.Goals as goal

pub walk_through-requires-in-true-false-clause-strides : goal.walk_through-requires-in-true-false-clause-strides
walk_through-requires-in-true-false-clause-strides c =
    let pair = c.args.pair.now in
    (sym c.in-true-false.is-0 ∙ pair.first.strided, five-bytes pair.second.bytes.now pair.second.strided c.in-true-false.is-1)

pub walk_through-requires-in-false-true-clause-strides : goal.walk_through-requires-in-false-true-clause-strides
walk_through-requires-in-false-true-clause-strides c =
    let pair = c.args.pair.now in
    (five-bytes pair.first.bytes.now pair.first.strided c.in-false-true.is-0, sym c.in-false-true.is-1 ∙ pair.second.strided)

pub walk_through-requires-in-false-false-clause-strides : goal.walk_through-requires-in-false-false-clause-strides
walk_through-requires-in-false-false-clause-strides c =
    let pair = c.args.pair.now in
    (five-bytes pair.first.bytes.now pair.first.strided c.in-false-false.is-0, five-bytes pair.second.bytes.now pair.second.strided c.in-false-false.is-1)
