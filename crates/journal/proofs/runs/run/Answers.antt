use Rattle.std.proofs.Common.{length, ◌≡◌, arith}
use Rattle.journal.specs.Journal.{after}
use Rattle.journal.proofs.Running.{tabled-begin, tabled-next, numbers-none, numbers-next}
use Rattle.journal.proofs.runs.run.Goals as goal

pub loop-i-init : goal.loop-i-init
loop-i-init c =
    record {
      tabled = rw (c.new-tally.ensures, c.u16_at.ensures.0) (tabled-begin c.args.journal.now c.args.work.now c.requires.few c.requires.room);
      numbered = numbers-none c.args.journal.now c.args.results.now;
    }

pub loop-i-preserved : goal.loop-i-preserved
loop-i-preserved c =
    let j = c.args.journal.now in
    let order = c.u16_at.ensures.0 in
    let turned = rw (order, c.entry_at.ensures) at (c.follow.ensures (after j c.loop-i.i) (rw order c.loop-i.invariant.tabled)) in
    record {
      tabled = tabled-next j c.loop-i.i _ _ turned.tabled;
      numbered = rw c.number_told.ensures (numbers-next j c.args.results.now c.loop-i.results c.loop-i.i _ c.loop-i.invariant.numbered turned.number_is (omega (arith, c.requires.room)));
    }

-- every entry was followed
ended : (c : goal.After-loop-i) → c.loop-i.i ≡ length c.args.results.now
ended c = omega (arith, c.loop-i.auto.i-end, c.loop-i-test.false)

pub returns-clause-tabled : goal.returns-clause-tabled
returns-clause-tabled c = rw (← ended c) c.loop-i.invariant.tabled
