-- `put_members` meets its contract: a member whose byte is 1 is appended, and no other.
use Rattle.std.proofs.Common.{ap, length, add-one, arith, length-append, append_assoc, append-nil}
use borrow.Author.Tests.{eq-eqb, ne_eqb}
use Rattle.graph.specs.Range.{flat}
use Rattle.report.specs.Text.{member_text, members_text}
use Rattle.report.proofs.Lengths.{member_room}
use Rattle.report.proofs.reports.put_members.Goals as goal
use Rattle.report.proofs.reports.put_members.Goals.{then-byte-eq1, else-byte-eq1}

pub loop-u-preserved : goal.loop-u-preserved
unfolding flat
loop-u-preserved g c =
    let group = c.args.group.now in
    let joined = append_assoc c.args.text.now.bytes (members_text group c.loop-u.u) (member_text group c.loop-u.u) in
    rw (add-one c.loop-u.u)
    (elim c.if-byte-eq1.branch [
      | then-byte-eq1 w ↦ rw (w.text-is, ← append_assoc, eq-eqb _ _ w.if-byte-eq1.true) (cc w.put_spaced.ensures)
      | else-byte-eq1 w ↦ rw (w.text-is, ne_eqb _ _ w.if-byte-eq1.false, append-nil) c.loop-u.invariant
    ])

pub put_spaced-requires : goal.put_spaced-requires
put_spaced-requires g c =
    let before = simp length-append at (ap length c.loop-u.invariant) in
    (omega arith, omega (arith, before, rw (eq-eqb _ _ c.if-byte-eq1.true) at (member_room c.args.group.now c.loop-u.u _ c.loop-u-test.true)))
