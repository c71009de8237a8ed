use Rattle.std.proofs.Common.{ℕ, length-take, arith}
use Rattle.grouping.proofs.Bytes.{at-front}
use Rattle.grouping.proofs.groups.write_group.Goals as goal

pub returns : goal.returns
returns c =
    at-front _ c.args.n c.loop-u.byte-items c.args.group.now (omega (arith, c.loop-u.auto.byte-items, c.requires.room, length-take {A = ℕ}))
    (λ k h. c.loop-u.invariant k (omega (arith, c.requires.room, length-take {A = ℕ})))
