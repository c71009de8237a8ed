-- `put_report` meets its contract: no report is longer than the buffer.
use Rattle.std.proofs.Common.{◌≤◌, ap, length, arith, length-append}
use Rattle.report.specs.Text.{ascii}
use Rattle.report.proofs.Lengths.{numbers_longest, group_longest}
use Rattle.report.proofs.reports.put_report.Goals as goal

pub put_group-requires-2 : goal.put_group-requires-2
put_group-requires-2 c =
    let k = c.args.numbers in
    let n = length c.args.s.now in
    let empty = ap length c.new-report.ensures in
    let first = simp length-append at (ap length c.put_numbers.ensures) in
    let second = simp length-append at (ap length c.put_group.ensures) in
    let numbers = numbers_longest k (omega arith) (omega arith) (omega arith) (omega arith) (omega arith) (omega arith) in
    let small : n ≤ 10000 = omega arith in
    let sources = group_longest (ascii "S") c.args.s.now n small in
    let targets = group_longest (ascii "T") c.args.t.now (length c.args.t.now) (omega arith) in
    omega arith
