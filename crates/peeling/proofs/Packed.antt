-- What an entry of a row packs is read from it again.
use Prim.Native.Nat.{ℕ, ◌<◌}
use mathlib.Core.Path.{◌≡◌}
use native.Mathlib.Omega.{arith}
use Rattle.peeling.specs.Peeling.{packed, place_in, weight_in}

-- the place
pub place-packed : (place weight : ℕ) → place < 4096 → place_in (packed place weight) ≡ place
place-packed place weight l = omega arith

-- and the weight
pub weight-packed : (place weight : ℕ) → place < 4096 → weight_in (packed place weight) ≡ weight
weight-packed place weight l = omega arith
