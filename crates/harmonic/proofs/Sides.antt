-- A place by its side and member, and by its number; what is chosen by the smallest key.
use Prim.Native.Nat.{ℕ, ◌*◌, ◌<◌}
use mathlib.Core.List.{List}
use mathlib.Core.Path.{◌≡◌}
use native.Mathlib.Decide.{dec_lt}
use native.Mathlib.Omega.{arith}
use borrow.Author.Tests.{lt-ltb, le-ltb}
use Rattle.graph.specs.Graph.{everyone}
use Rattle.graph.specs.Drops.{Least, first_mark}
use Rattle.peeling.specs.Peeling.{degree_of}
use Rattle.harmonic.specs.declared.Place.{Place}
use Rattle.harmonic.specs.Walks.{number_of, place_at, Next}

-- the place of a number has that number
pub number_at : (n p : ℕ) → number_of n (place_at n p) ≡ p
unfolding place_at
number_at n p = elim (dec_lt p n) [ yes l ↦ rw (lt-ltb p n l) | no l ↦ rw (le-ltb p n (omega arith)) (omega arith) ]

-- and its member is one
member-at : (n p : ℕ) → p < 2 * n → (place_at n p).member < n
unfolding place_at
member-at n p h = elim (dec_lt p n) [ yes l ↦ rw (lt-ltb p n l) l | no l ↦ rw (le-ltb p n (omega arith)) (omega arith) ]

-- the place with the smallest key is the next one, where that key is a degree
pub next_place : (n m : ℕ) (w : List ℕ) {p : ℕ} {r : Place} → Least (degree_of n m w) everyone (2 * n) p → r ≡ place_at n p → degree_of n m w p < first_mark
    → Next n m w r
next_place n m w {p} h e l =
    rw e record { inside = member-at n p h.below; left = rw (number_at n p) l; least = rw (number_at n p) h }
