-- `first_of` meets its contract: the root holds the first place with the smallest key.
use Rattle.std.proofs.Common.{arith}
use Rattle.picking.proofs.Ranks.{root-least}
use Rattle.picking.proofs.Tables.{node-inner, node-place}
use Rattle.picking.proofs.Bracket.first_of.Goals as goal

pub returns : goal.returns
returns c =
    let a = c.args in
    let t = c.requires in
    rw (c.from.ensures, ← node-inner a.work.now a.self.at a.self.places 1 (omega arith))
    (root-least t.room.most t.matched (omega arith) (node-place a.work.now a.self.at a.self.places))
