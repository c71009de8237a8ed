-- A block in which no place falls short is passed over.
use Rattle.std.proofs.Common.{arith}
use Rattle.raising.proofs.Raises.{raise-block}
use Rattle.raising.proofs.needs.raise_blocks.Goals as goal

pub loop-place-preserved : goal.loop-place-preserved
loop-place-preserved c =
    let h = c.loop-place.invariant in
    record {
      within = omega (arith, h.within);
      peeling = raise-block c.args.step c.requires.side h.within.0 (omega (arith, h.within)) (omega (arith, h.within)) (c.is_quiet.ensures c.if-not-is_quiet.false) h.peeling;
      head = h.head;
      kept = h.kept;
    }
