-- `put_refusal` meets its contract: no line is longer than the buffer.
use Rattle.std.proofs.Common.{None, ap, length, arith, length-append}
use Rattle.report.proofs.Lengths.{refusal_room}
use Rattle.report.proofs.refusals.put_refusal.Goals as goal

pub put_label-requires : goal.put_label-requires
put_label-requires c = (omega arith, omega (arith, ap length c.new-line.ensures, refusal_room c.from.result None (omega (arith, c.from.ensures, c.number.type_inv)) tt))

pub push_str-requires : goal.push_str-requires
push_str-requires c =
    let number = simp length-append at (ap length c.put_label.ensures) in
    let link = simp length-append at (ap length c.put_link.ensures) in
    (omega arith, omega (arith, ap length c.new-line.ensures, number, link, refusal_room c.from.result c.link.result (omega (arith, c.from.ensures, c.number.type_inv)) c.link.ensures.fits))
