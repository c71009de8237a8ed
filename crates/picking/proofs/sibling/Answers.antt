-- The last bit turned: it is the remainder by 2.
use Rattle.std.proofs.Common.{arith}
use Rattle.std.specs.Int.Bits.{xor_add_and}
use Rattle.std.proofs.lemmas.Nat.{and_mask}
use Rattle.picking.proofs.sibling.Goals as goal

pub returns : goal.returns
returns c = omega (arith, xor_add_and c.args.k 1, and_mask c.args.k 1)
