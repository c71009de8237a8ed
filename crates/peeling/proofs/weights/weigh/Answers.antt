use Rattle.std.proofs.Common.{◌∙◌, sym, arith}
use Rattle.peeling.proofs.Totals.{held_rows}
use Rattle.peeling.proofs.Singles.{single-degree}
use Rattle.peeling.proofs.weights.weigh.Goals as goal

pub returns-then-is_single-clause-weighed : goal.returns-then-is_single-clause-weighed
returns-then-is_single-clause-weighed c =
    record {
      held = c.requires.held;
      long = omega (arith, c.requires.room, c.take_lengths.ensures.same_length);
      degrees = λ p l. c.take_lengths.ensures.lengths p l ∙ sym (single-degree (held_rows c.requires.held) (c.requires.single c.if-is_single.true) p l);
    }
