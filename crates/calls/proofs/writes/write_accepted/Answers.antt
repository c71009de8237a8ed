-- `write_accepted` refuses by a short output; else it stores the file, which is the written one.
use Rattle.std.proofs.Common.{◌≡◌, ◌≤◌, length, refl, arith, ◌∙◌}
use Rattle.network.specs.Calls as call
use Rattle.network.specs.File.{version_of, file_length}
use Rattle.network.proofs.Versions.{stride-range}
use Rattle.network.proofs.Accepted.{accepted-distinct, accepted}
use Rattle.network.proofs.Answers.{call-refused}
use Rattle.calls.proofs.Writer.{out-short, out_none, rewritten}
use Rattle.calls.proofs.writes.write_accepted.Goals.{After-link_at}
use Rattle.calls.proofs.writes.write_accepted.Goals as goal

-- the output is compared with the length of the file
compared : (c : After-link_at) → c.link_at.result ≡ file_length c.args.file.now.bytes.now
compared c = c.link_at.ensures ∙ rw (c.args.file.now.strided, c.size_of-size.ensures.0)

pub link_at-requires : goal.link_at-requires
link_at-requires c = omega (arith, stride-range (version_of c.args.file.now.bytes.now), c.args.file.now.strided, c.size_of-size.ensures)

pub returns-then-out-link_at : goal.returns-then-out-link_at
returns-then-out-link_at c =
    call-refused (out-short _ _ ((accepted _).1 c.args.file.now.accepted) (omega (arith, compared (goal.at.returns-then-out-link_at c).After-link_at, c.if-out-link_at.true)))

pub put_itself-requires-clause-room : goal.put_itself-requires-clause-room
put_itself-requires-clause-room c = omega (arith, compared (goal.at.put_itself-requires-clause-room c).After-link_at, c.if-out-link_at.false)

pub returns : goal.returns
returns c =
    let long : file_length c.args.file.now.bytes.now ≤ length c.args.out.now = omega (arith, compared (goal.at.returns c).After-link_at, c.if-out-link_at.false) in
    call.accepted _ (out_none _ _ ((accepted _).1 c.args.file.now.accepted) long) refl
    (rewritten _ (accepted-distinct c.args.file.now.accepted) long c.size_of-size.ensures.0 c.put_itself.ensures)
