-- An edge of five bytes is one of version 2, and the last of them is its kind.
use Rattle.std.proofs.Common.{◌+◌, sym, ap, ◌∙◌, arith, get_or}
use Rattle.network.specs.File.{link_at}
use Rattle.network.proofs.Versions.{stride-five, five-version, kind-none, kind-some}
use Rattle.network.proofs.Accepted.{edge-room}
use Rattle.network.proofs.files.kind_at.Goals as goal

pub returns-then-stride-ne5 : goal.returns-then-stride-ne5
returns-then-stride-ne5 c = sym (kind-none c.args.file.now c.args.edge (λ v. c.if-stride-ne5.true (c.requires.1 ∙ stride-five v)))

pub link_at-requires : goal.link_at-requires
link_at-requires c = omega (arith, edge-room c.args.file.now c.args.stride c.args.edge c.requires.0 c.requires.1)

pub returns : goal.returns
returns c =
    ap (λ i. get_or c.args.file.now (i + 4) 0) (c.link_at.ensures ∙ ap (λ s. link_at s c.args.edge) c.requires.1)
    ∙ sym (kind-some c.args.file.now c.args.edge (five-version (sym c.requires.1 ∙ c.if-stride-ne5.false)))
