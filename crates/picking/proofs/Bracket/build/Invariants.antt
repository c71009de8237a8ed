-- `build` meets its contract. The loop's invariant: the nodes from k on are as they should be, and only entries of nodes differ.
use Rattle.std.proofs.Common.{◌-◌}
use Rattle.picking.proofs.Tables.{Building}
use Rattle.picking.proofs.Bracket.build.Given as goal

abbrev pub invariant-loop-k : goal.invariant-loop-k
invariant-loop-k l = Building l.self.at l.self.places l.fn.work l.work (l.k - 1)
