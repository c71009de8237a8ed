use Rattle.std.proofs.Common.{◌≡◌, Bool, true, false, refl, ◌∙◌, arith}
use Rattle.std.specs.Int.{from_bool}
use Rattle.graph.specs.Range.{if}
use Rattle.graph.proofs.Sums.{sum-tests}
use Rattle.network.specs.Groups.{group_of}
use Rattle.cores.proofs.Copying.{copying-begins, copying-next}
use Rattle.cores.proofs.groups.copy_group.Goals as goal

-- a test as a number
one : (b : Bool) → from_bool b ≡ if b 1
one true = refl
one false = refl

pub loop-u-init : goal.loop-u-init
loop-u-init c = copying-begins _ _

pub overflow_add-count : goal.overflow_add-count
overflow_add-count c =
    let A = group_of c.args.from.now in
    omega (arith, c.loop-u.invariant.counted, c.from-count.ensures, one (A c.loop-u.u), sum-tests A c.loop-u.u)

pub loop-u-preserved : goal.loop-u-preserved
loop-u-preserved c = copying-next c.loop-u.invariant (omega arith) (c.from.ensures ∙ one (group_of c.args.from.now c.loop-u.u)) (cc)
