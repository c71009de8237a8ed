-- One edge more is looked at: it comes after the one before it where its key is greater, and what is kept is no less than its own.
use Rattle.std.proofs.Common.{arith}
use borrow.Author.Tests.{ltb-true}
use Rattle.graph.proofs.Tests.{and_left, and_right}
use Rattle.network.specs.File.{graph_of, kind_at}
use Rattle.checking.proofs.Compare.{ascending-next, greatest-next, edge-before}
use Rattle.checking.proofs.checks.look.Goals as goal

pub loop-e-preserved : goal.loop-e-preserved
loop-e-preserved g c =
    let file = c.args.file.now.bytes.now in
    let graph = graph_of file in
    let e = c.loop-e.e in
    let h = c.loop-e.invariant in
    let key = c.key_at-key.ensures in
    record {
      before = rw (edge-before e) key.value;
      target_fits = rw (edge-before e) key.target_fits;
      ascending = λ t.
          let greater = ltb-true c.loop-e.before c.key_at-key.result (and_right _ _ t) in
          ascending-next graph (h.ascending (and_left _ _ t)) h.target_fits key.target_fits (rw (h.before, key.value) at greater);
      target = greatest-next graph.target h.target (omega (arith, key.value, key.target_fits, c.max-target.ensures)) (omega (arith, c.max-target.ensures));
      kind = greatest-next (kind_at file) h.kind (omega (arith, c.kind_at.ensures, c.max-kind.ensures)) (omega (arith, c.max-kind.ensures));
    }
