use Rattle.std.proofs.Common.{rules, refl, arith}
use lib.Seq.{length-take-le}
use Rattle.network.specs.Calls as call
use Rattle.network.proofs.Answers.{call-told}
use Rattle.journal.proofs.Headers.{ready, cut-followed}
use Rattle.journal.proofs.Files.{journal-told}
use Rattle.journal.proofs.asks.journal.Goals as goal

pub returns-in_err-check_input : goal.returns-in_err-check_input
returns-in_err-check_input c = call-told _ (search rules) (search rules)

pub slice_bounds-as_chunks_mut-end-2 : goal.slice_bounds-as_chunks_mut-end-2
slice_bounds-as_chunks_mut-end-2 c = omega (arith, length-take-le 81920 c.args.work.now (ready _ _ _ _ _ c.in_ok-check_input.ensures.passed).work)

pub replay-requires-clause-room : goal.replay-requires-clause-room
replay-requires-clause-room c =
    let q = ready _ _ _ _ _ c.in_ok-check_input.ensures.passed in
    (q.out, omega (arith, c.as_chunks_mut-links.ensures.front_len, length-take-le 81920 c.args.work.now q.work))

pub returns : goal.returns
returns c =
    let q = ready _ _ _ _ _ c.in_ok-check_input.ensures.passed in
    let followed = cut-followed _ _ _ _ _ c.in_ok-check_input.ensures.passed c.count_of-count.ensures in
    call.accepted c.replay.result c.in_ok-check_input.ensures.passed refl
    (journal-told c.args.journal.now c.args.asked c.args.out.now _ c.args.numbers.now c.replay.new.numbers c.args.work.now _ q.header.order_most c.count_of-count.ensures (rw followed at c.replay.ensures.present)
    (rw followed at c.replay.ensures.numbered) q.work (omega (arith, length-take-le 81920 c.args.work.now q.work)))
