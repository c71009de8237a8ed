-- `render` asks for the finding in tables of full length, and puts the line of its refusal or its report.
use Rattle.std.proofs.Common.{ℕ, replicate, sym}
use Rattle.std.proofs.lemmas.List.{length-replicate}
use Rattle.network.specs.File.{most_members, most_links}
use Rattle.network.specs.Refusals.{work_length}
use Rattle.vouch_report.proofs.Printing.{Full, found-cut, rendered-refused, rendered-found}
use Rattle.vouch_report.proofs.render.Goals as goal

-- the program's tables have their lengths by a law: by counting, each entry would be a step
full : Full (replicate most_members 0) (replicate most_members 0) (replicate (work_length most_members most_links) 0)
full = (length-replicate {A = ℕ} most_members 0, length-replicate {A = ℕ} most_members 0, length-replicate {A = ℕ} (work_length most_members most_links) 0)

pub returns-in_default : goal.returns-in_default
returns-in_default c = rendered-refused full c.finding-answer.ensures _ c.unwrap_err.ensures c.put_refusal.ensures

pub slice_bounds-s-end : goal.slice_bounds-s-end
slice_bounds-s-end c = (found-cut full c.finding-answer.ensures _ c.in-Ok.is c.finding-answer.auto.s c.finding-answer.auto.t c.order_of-n.ensures.0).s-holds

pub slice_bounds-s-end-2 : goal.slice_bounds-s-end-2
slice_bounds-s-end-2 c = (found-cut full c.finding-answer.ensures _ c.in-Ok.is c.finding-answer.auto.s c.finding-answer.auto.t c.order_of-n.ensures.0).s-length

pub slice_bounds-t-end : goal.slice_bounds-t-end
slice_bounds-t-end c = (found-cut full c.finding-answer.ensures _ c.in-Ok.is c.finding-answer.auto.s c.finding-answer.auto.t c.order_of-n.ensures.0).t-holds

pub slice_bounds-t-end-2 : goal.slice_bounds-t-end-2
slice_bounds-t-end-2 c = (found-cut full c.finding-answer.ensures _ c.in-Ok.is c.finding-answer.auto.s c.finding-answer.auto.t c.order_of-n.ensures.0).t-length

pub returns : goal.returns
returns c =
    let k = found-cut full c.finding-answer.ensures _ c.in-Ok.is c.finding-answer.auto.s c.finding-answer.auto.t c.order_of-n.ensures.0 in
    rendered-found full c.finding-answer.ensures _ c.in-Ok.is c.order_of-n.ensures.0 (sym k.s-length) (rw c.numbers_of.ensures at c.put_report.ensures)
