-- `play` meets its contract: the entry of the node gets the place of the smaller rank, and this is the winner.
use Rattle.std.proofs.Common.{◌+◌, ◌*◌}
use Rattle.picking.specs.Winners.{key_of, node_of}
use Rattle.picking.proofs.Ranks.{rank-won}
use Rattle.picking.proofs.Bracket.play.Goals as goal

pub returns : goal.returns
returns c =
    let a = c.args in
    let held = node_of a.work.now a.self.at a.self.places in
    let won = rank-won (key_of a.work.now a.self.at) (held (2 * a.k)) (held (2 * a.k + 1)) c.requires.room.most c.requires.left_in c.requires.right_in in
    cc won
