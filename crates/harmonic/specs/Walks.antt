-- The drops of the harmonic finder on the work table: the degrees of a peel are the keys of a tree of matches, whose nodes stand in the queue's place.
use Rattle.std.specs.Prelude.{ℕ, suc, ◌+◌, ◌-◌, ◌*◌, ◌<◌, ◌≤◌, cond, List, ◌≢◌, ◌≡◌, leb, ltb}
use Rattle.graph.specs.Range.{if}
use Rattle.graph.specs.Graph.{Graph, everyone}
use Rattle.graph.specs.Places.{targets}
use Rattle.graph.specs.Harmonic.{state_after, denser, harmonic_places, Harmonic}
use Rattle.graph.specs.Drops.{Unbeaten, Least, Keys, first_mark}
use Rattle.network.specs.declared.Side.{Side}
use Rattle.network.specs.declared.Side.TheVariants.{Source, Target}
use Rattle.network.specs.declared.Totals.{Totals}
use Rattle.network.specs.Groups.{group_of, GroupIn, totals}
use Rattle.peeling.specs.Peeling.{degree_of, between, Tabled, Kept}
use Rattle.picking.specs.Winners.{Tree}
use Rattle.harmonic.specs.declared.Place.{Place}
use Rattle.harmonic.specs.declared.Choice.{Choice}
use Rattle.harmonic.specs.declared.Choice.TheVariants.{Drop, Done}

-- where the keys start, and the tree of the table
abbrev pub keys_at : ℕ → ℕ → ℕ
keys_at n m = 2 * n + 1 + 2 * m

abbrev pub Picks : ℕ → ℕ → List ℕ → Type 0
Picks n m w = Tree w (keys_at n m) (2 * n)

-- the number of a member's place on a side
abbrev pub number_on : ℕ → Side → ℕ → ℕ
number_on n Source u = u
number_on n Target v = n + v

-- the number of a place
abbrev pub number_of : ℕ → Place → ℕ
number_of n p = number_on n p.side p.member

-- the place of a number
unfoldable pub place_at : ℕ → ℕ → Place
place_at n p = cond (ltb p n) (record { side = Source; member = p }) (record { side = Target; member = p - n })

-- a place to drop: it is one, it is left, and it is the first with the smallest key
pub record Next (n m : ℕ) (w : List ℕ) (p : Place) : Type 0 where
  pub inside : p.member < n
  pub left : degree_of n m w (number_of n p) < first_mark
  pub least : Least (degree_of n m w) everyone (2 * n) (number_of n p)

-- what is chosen: the place to drop, or nothing where each place was dropped
abbrev pub Chosen : ℕ → ℕ → List ℕ → Choice → Type 0
Chosen n m w (Drop p) = Next n m w p
Chosen n m w Done = (p : ℕ) → p < 2 * n → first_mark ≤ degree_of n m w p

-- each place that is left loses so much, and the tree follows; one that was dropped keeps its mark
pub record Loses (n m : ℕ) (loss : ℕ → ℕ) (w w' : List ℕ) : Type 0 where
  pub tree : Picks n m w'
  pub kept : Kept n m w w'
  pub keys : (q : ℕ) → q < 2 * n → degree_of n m w' q + if (ltb (degree_of n m w q) first_mark) (loss q) ≡ degree_of n m w q

-- a place that is left has the edges that it would lose
abbrev pub Spare : ℕ → ℕ → List ℕ → ℕ → ℕ → Type 0
Spare n m w place q = degree_of n m w q < first_mark → between n w place q ≤ degree_of n m w q

-- a place was dropped: it is marked, and each place that was left lost the edges to it
pub record Dropped (n m place mark : ℕ) (w w' : List ℕ) : Type 0 where
  pub tree : Picks n m w'
  pub kept : Kept n m w w'
  pub marked : degree_of n m w' place ≡ mark
  pub lowered : (q : ℕ) → q < 2 * n → q ≢ place → degree_of n m w q < first_mark → degree_of n m w' q + between n w place q ≡ degree_of n m w q
  pub others : (q : ℕ) → q < 2 * n → q ≢ place → first_mark ≤ degree_of n m w q → degree_of n m w' q ≡ degree_of n m w q

-- E, |S| and |T| without a place on a side of degree d (02, wish 13: the weight of its links)
abbrev pub without : Side → ℕ → Totals → Totals
without Source d c = record { edges = c.edges - d; sources = c.sources - 1; targets = c.targets }
without Target d c = record { edges = c.edges - d; sources = c.sources; targets = c.targets - 1 }

-- some place is left on the side
abbrev pub has_place : Side → Totals → Type 0
has_place Source c = 1 ≤ c.sources
has_place Target c = 1 ≤ c.targets

-- how many of the 2 × n places are dropped
abbrev pub step_of : ℕ → Totals → ℕ
step_of n c = 2 * n - (c.sources + c.targets)

-- 02: the better of the best state so far and another: that one, where its 2 × E / (|S| + |T|) is greater
abbrev pub better : Totals → Totals → Totals
better best c = cond (ltb (best.edges * (c.sources + c.targets)) (c.edges * (best.sources + best.targets))) c best

-- E, |S| and |T| of the state after i drops
abbrev pub totals_after : Graph → ℕ → Totals
totals_after g i = totals g (state_after g i) (targets g (state_after g i))

-- the table of a graph after i drops, and E, |S| and |T| of its state
pub record At (g : Graph) (n m : ℕ) (w : List ℕ) (i : ℕ) (c : Totals) : Type 0 where
  pub tabled : Tabled g n m w
  pub within : i ≤ 2 * n
  pub keys : Keys g i (degree_of n m w)
  pub counted : c ≡ totals_after g i

-- one place more is dropped, of every graph that has come to the state
pub record Turned (n m : ℕ) (c : Totals) (w w' : List ℕ) (r : Totals) : Type 0 where
  pub tree : Picks n m w'
  pub kept : Kept n m w w'
  pub each : (g : Graph) → At g n m w (step_of n c) c → At g n m w' (suc (step_of n c)) r

-- the best of the first k states
pub record Top (g : Graph) (n k : ℕ) (best : Totals) : Type 0 where
  pub unbeaten : Unbeaten (denser g) everyone k (step_of n best)
  pub counted : best ≡ totals_after g (step_of n best)

-- all places are dropped, of every graph in the table, and the best is that of the states before the last, empty one
pub record Walked (n m : ℕ) (w w' : List ℕ) (best : Totals) : Type 0 where
  pub kept : Kept n m w w'
  pub keys : (g : Graph) → Tabled g n m w → Keys g (2 * n) (degree_of n m w')
  pub top : (g : Graph) → Tabled g n m w → Top g n (2 * n) best

-- the keys tell the places found, which are those whose key is at least the mark of the first drop after the best state, and the numbers are theirs
pub record Tells (g : Graph) (n m : ℕ) (w : List ℕ) (r : Totals) : Type 0 where
  pub places : (p : ℕ) → p < 2 * n → harmonic_places g p ≡ leb (first_mark + step_of n r) (degree_of n m w p)
  pub counted : r ≡ totals g (harmonic_places g) (targets g (harmonic_places g))

-- so it is for every graph in the table
pub record BestIn (n m : ℕ) (w w' : List ℕ) (r : Totals) : Type 0 where
  pub kept : Kept n m w w'
  pub tells : (g : Graph) → Tabled g n m w → Tells g n m w' r

-- the groups written are those of the harmonic finder, of every graph in the table, and the numbers returned are theirs
pub record HarmonicIn (n m : ℕ) (w w' s s' t t' : List ℕ) (r : Totals) : Type 0 where
  pub harmonic : (g : Graph) → Tabled g n m w → Harmonic g (group_of s') (group_of t')
  pub counted : (g : Graph) → Tabled g n m w → r ≡ totals g (group_of s') (group_of t')
  pub sources : GroupIn n s s'
  pub targets : GroupIn n t t'
  pub kept : Kept n m w w'
