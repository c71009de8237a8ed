-- The refusal of a row is decided by three comparisons in turn: the tables' lengths against the vertex, its start against the next, and
-- the next start against the length of the rows. Each outcome is stated once, for the code that tests them and for the tables of an index.
use Prim.Native.Nat.{ℕ, ◌+◌, ◌-◌, ◌<◌, ◌≤◌}
use mathlib.Core.List.{List}
use mathlib.Core.Path.{◌≡◌}
use native.Mathlib.Omega.{arith}
use borrow.Author.Tests.{lt-ltb, le-ltb, le-leb}
use lib.ListN.{length, get_or}
use Rattle.std.proofs.lemmas.Bool.Decides.{nat_tests}
use Rattle.std.specs.Prelude.{None, Some}
use Rattle.network.specs.declared.Refusal.TheVariants.{Table, Member, Row}
use Rattle.network.specs.Refusals.{row_refusal}
use Rattle.adjacency.specs.Rows as standing

module _ (starts rows : List ℕ) (u : ℕ) where
  -- 9: there is no start at all
  pub no-starts : length starts < 1 → row_refusal starts rows u ≡ Some Table
  unfolding row_refusal
  no-starts a = rw (lt-ltb (length starts) 1 a)

  -- 10: u has no next start
  pub no-vertex : 1 ≤ length starts → length starts - 1 ≤ u → row_refusal starts rows u ≡ Some Member
  unfolding row_refusal
  no-vertex a b = rw (le-ltb (length starts) 1 a, le-leb (length starts - 1) u b)

  -- 14: the next start is below the start
  pub descending : u + 1 < length starts → get_or starts (u + 1) 0 < get_or starts u 0 → row_refusal starts rows u ≡ Some Row
  unfolding row_refusal
  descending a b = grind (arith, nat_tests)

  -- 14: or above the length of the rows
  pub outside-rows : u + 1 < length starts → get_or starts u 0 ≤ get_or starts (u + 1) 0 → length rows < get_or starts (u + 1) 0 → row_refusal starts rows u ≡ Some Row
  unfolding row_refusal
  outside-rows a b k = grind (arith, nat_tests)

  -- any other is accepted
  pub row-accepted : standing.Row starts rows u → row_refusal starts rows u ≡ None
  unfolding row_refusal
  row-accepted r = grind (arith, nat_tests)

-- what decides the ways out of a row's test
pub ruleset ways_out = (no-starts, no-vertex, descending, outside-rows)
