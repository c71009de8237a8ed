-- `turn` meets its contract: the place with the smallest key is the one that the finder drops, and its key is what E loses.
use Rattle.std.proofs.Common.{arith}
use Rattle.harmonic.proofs.Turns.{turn-spare, turn-links, turn-some, turn-next}
use Rattle.harmonic.proofs.walks.turn.Goals as goal

pub drop_place-requires-clause-spare : goal.drop_place-requires-clause-spare
drop_place-requires-clause-spare c =
    rw c.number_of-number.ensures (turn-spare c.requires.at.1 c.requires.next)

pub less-requires-clause-has_links : goal.less-requires-clause-has_links
less-requires-clause-has_links c =
    let d = rw (c.bracket_of.ensures, c.number_of-number.ensures) at c.from-degree.ensures in
    omega (arith, d, turn-links c.requires.at.1 c.requires.next)

pub less-requires-clause-has_place : goal.less-requires-clause-has_place
less-requires-clause-has_place c = turn-some c.requires.at.1 c.requires.next

pub returns : goal.returns
returns c =
    let e = c.number_of-number.ensures in
    let d = rw e at c.drop_place.ensures in
    record {
      tree = d.tree;
      kept = d.kept;
      each = λ g a. rw (c.less.ensures, rw (c.bracket_of.ensures, e) at c.from-degree.ensures) (turn-next a c.requires.next d);
    }
