use Rattle.std.proofs.Common.{get_or, sym, arith}
use Rattle.graph.proofs.Sums.{sum-empty, sum-next}
use Rattle.peeling.proofs.weights.sum_of.Goals as goal

pub loop-degree-init : goal.loop-degree-init
loop-degree-init c = record { sum = sym (sum-empty _); most = omega arith }

pub loop-degree-preserved : goal.loop-degree-preserved
loop-degree-preserved c =
    record {
      sum = omega (arith, c.loop-degree.invariant.sum, c.from-total.ensures, sum-next (λ p. get_or c.args.degrees.now p 0) c.loop-degree.degree-index);
      most = omega (arith, c.loop-degree.invariant.most, c.from-total.ensures, c.type_inv.degrees c.loop-degree.degree-index);
    }
