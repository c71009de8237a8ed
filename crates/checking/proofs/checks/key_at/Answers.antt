-- Every edge lies within its file.
use Rattle.std.proofs.Common.{arith}
use Rattle.network.proofs.Accepted.{edge-room}
use Rattle.checking.proofs.checks.key_at.Goals as goal

pub link_at-at-requires : goal.link_at-at-requires
link_at-at-requires c = omega (arith, edge-room c.args.file.now c.args.stride c.args.edge c.requires.0 c.requires.1)

pub u16_at-requires : goal.u16_at-requires
u16_at-requires c = omega (arith, c.link_at-at.ensures, edge-room c.args.file.now c.args.stride c.args.edge c.requires.0 c.requires.1)

pub u16_at-requires-2 : goal.u16_at-requires-2
u16_at-requires-2 c = omega (arith, c.link_at-at.ensures, edge-room c.args.file.now c.args.stride c.args.edge c.requires.0 c.requires.1)
