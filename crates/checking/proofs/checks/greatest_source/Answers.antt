-- Of edges that ascend the last has the greatest source, and else none has a greater one than the greatest key.
use Rattle.std.proofs.Common.{arith}
use Rattle.graph.specs.Sorting.{key_of}
use Rattle.network.specs.File.{graph_of}
use Rattle.checking.proofs.Compare.{greatest-next, greatest-last}
use Rattle.checking.proofs.checks.greatest_source.Goals as goal

pub returns-then-ascending : goal.returns-then-ascending
returns-then-ascending g c =
    let told = rw c.size_of-size.ensures.0 at c.end_at.ensures.0 in
    λ e l. omega (arith, told, c.end_at.ensures.1, greatest-last (graph_of c.args.file.now.bytes.now) (c.requires.ascending c.if-ascending.true) e l)

pub loop-e-preserved : goal.loop-e-preserved
loop-e-preserved g c =
    greatest-next (key_of (graph_of c.args.file.now.bytes.now)) c.loop-e.invariant (grind (arith, c.key_at.ensures.value, c.max-most.ensures))
    (grind (arith, c.max-most.ensures))

pub returns : goal.returns
returns g c = λ e l. omega (arith, c.loop-e.invariant e (omega (arith, l, c.loop-e-test.false)))
