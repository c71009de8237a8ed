-- In version 2 the kind is stored after the four bytes of the edge, and in version 1 nothing is.
use Rattle.std.proofs.Common.{◌+◌, length, sym, ap, ◌∙◌, arith, set}
use Rattle.std.proofs.Math.Seq.{length-sets}
use Rattle.std.proofs.lemmas.List.Edits.{sets}
use Rattle.network.specs.Bytes.{edge_bytes, kind_bytes}
use Rattle.network.proofs.Versions.{stride-range, stride-five, kind_bytes-none, kind_bytes-some}
use Rattle.network.proofs.Puts.{sets-append}
use Rattle.network.proofs.bytes.put_link.Goals as goal

pub put_edge-requires : goal.put_edge-requires
put_edge-requires c = omega (arith, c.requires, (stride-range c.args.version).0)

pub bounds-out-at : goal.bounds-out-at
bounds-out-at c =
    omega (arith, c.requires, stride-five c.if-version-eq2.true, ap length c.put_edge.ensures, length-sets c.args.out.now c.args.at (edge_bytes c.args.source c.args.target))

pub returns-then-version-eq2 : goal.returns-then-version-eq2
returns-then-version-eq2 c =
    ap (λ l. set l (c.args.at + 4) c.args.kind) c.put_edge.ensures
    ∙ ap (sets (sets c.args.out.now c.args.at (edge_bytes c.args.source c.args.target)) (c.args.at + 4)) (sym (kind_bytes-some c.args.kind c.if-version-eq2.true))
    ∙ sets-append c.args.out.now c.args.at (edge_bytes c.args.source c.args.target) (kind_bytes c.args.version c.args.kind)

pub returns-else-version-eq2 : goal.returns-else-version-eq2
returns-else-version-eq2 c =
    c.put_edge.ensures
    ∙ ap (sets (sets c.args.out.now c.args.at (edge_bytes c.args.source c.args.target)) (c.args.at + 4)) (sym (kind_bytes-none c.args.kind c.if-version-eq2.false))
    ∙ sets-append c.args.out.now c.args.at (edge_bytes c.args.source c.args.target) (kind_bytes c.args.version c.args.kind)
