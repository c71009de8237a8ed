-- `tighten` pushes every place that falls short of the new numbers: past the sources and past the targets, all places need these.
use Rattle.std.proofs.Common.{arith}
use Rattle.raising.proofs.Raises.{raise-begins, raise-ends}
use Rattle.raising.proofs.needs.tighten.Goals as goal

pub raise_side-sources-requires-clause-peeling : goal.raise_side-sources-requires-clause-peeling
raise_side-sources-requires-clause-peeling c = raise-begins _ _ c.requires

pub returns-clause-peeling : goal.returns-clause-peeling
returns-clause-peeling c = raise-ends _ _ _ (omega arith) c.raise_side.ensures.peeling
