-- A walk along the row of a place, from its first entry in the table to its last.
use Prim.Native.Nat.{ℕ, ◌+◌, ◌-◌, ◌*◌, ◌<◌, ◌≤◌}
use mathlib.Core.List.{List}
use mathlib.Core.Path.{◌≡◌}
use native.Mathlib.Omega.{arith}
use Rattle.peeling.specs.Peeling.{start_of, row_length, Rows}
use Rattle.peeling.proofs.Tables.{row_inside}

-- of the row, entries k₀ up to end of the table, those before k are passed
pub record Along (n : ℕ) (w : List ℕ) (place k₀ end k : ℕ) : Type 0 where
  pub from : k₀ ≡ 2 * n + 1 + start_of w place
  pub upto : end ≡ 2 * n + 1 + start_of w (place + 1)
  pub begun : k₀ ≤ k
  pub within : k ≤ end

-- at first none is
pub along-none : (k : ℕ) → k - k ≡ 0
along-none k = omega arith

-- and then one more
pub along-more : (k k₀ : ℕ) → k₀ ≤ k → k + 1 - k₀ ≡ k - k₀ + 1
along-more k k₀ l = omega arith

module _ {n m : ℕ} {w : List ℕ} {place : ℕ} (r : Rows n m w) (i : place < 2 * n) where
  -- the walk begins
  pub along-begins : {k end : ℕ} → k ≡ 2 * n + 1 + start_of w place → end ≡ 2 * n + 1 + start_of w (place + 1) → Along n w place k end k
  along-begins a b = record { from = a; upto = b; begun = omega arith; within = omega (arith, r.ascending place i) }

  module _ {k₀ end k : ℕ} (a : Along n w place k₀ end k) where
    -- ends when the whole row is passed
    pub along-ends : end ≤ k → k - k₀ ≡ row_length w place
    along-ends l = omega (arith, a.from, a.upto, a.within, r.ascending place i)

    -- and before that comes to a next entry
    module _ (l : k < end) where
      pub along-entry : k - k₀ < row_length w place
      along-entry = omega (arith, a.from, a.upto, a.begun)

      -- which is where the row has it
      pub along-at : k ≡ 2 * n + 1 + (start_of w place + (k - k₀))
      along-at = omega (arith, a.from, a.begun)

      -- among the rows
      pub along-inside : k < 2 * n + 1 + 2 * m
      along-inside = omega (arith, along-at, row_inside r place (k - k₀) i along-entry)

      -- and goes past it
      pub along-next : Along n w place k₀ end (k + 1)
      along-next = record { from = a.from; upto = a.upto; begun = omega (arith, a.begun); within = omega arith }
