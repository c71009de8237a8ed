-- A group told byte by byte.
use Prim.Native.Nat.{ℕ, ◌+◌}
use mathlib.Core.Bool.{Bool, true, ◌&&◌}
use mathlib.Core.List.{List}
use mathlib.Core.Path.{◌≡◌, refl}
use native.Mathlib.Decide.{ℕ_discrete}
use native.Mathlib.Omega.{arith}
use borrow.Author.Tests.{le-leb, leb-true}
use lib.Dec.{leb}
use lib.ListN.{get_or}
use Rattle.graph.specs.Range.{first}
use Rattle.graph.proofs.Tests.{and_left, and_right, and_both, test-ext}
use Rattle.network.specs.Groups.{is_group}
use Rattle.network.proofs.Groups.{group-byte, byte-group}

-- no bytes are a group
pub group-none : (s : List ℕ) → true ≡ is_group 0 s
unfolding first
group-none s = refl

-- and one byte more is where it is 0 or 1
pub group-next : (s : List ℕ) (u : ℕ) {b : Bool} → b ≡ is_group u s → (b && leb (get_or s u 0) 1) ≡ is_group (u + 1) s
group-next s u e = rw e (test-ext _ _ both apart)
  where
    both : (is_group u s && leb (get_or s u 0) 1) ≡ true → is_group (u + 1) s ≡ true
    both h =
        let last = leb-true (get_or s u 0) 1 (and_right (is_group u s) _ h) in
        let others = group-byte u s (and_left _ (leb (get_or s u 0) 1) h) in
        byte-group (u + 1) s (λ k l. elim (ℕ_discrete k u) [ yes i ↦ rw i last | no i ↦ others k (omega arith) ])

    apart : is_group (u + 1) s ≡ true → (is_group u s && leb (get_or s u 0) 1) ≡ true
    apart h = and_both (byte-group u s (λ k l. group-byte (u + 1) s h k (omega arith))) (le-leb _ 1 (group-byte (u + 1) s h u (omega arith)))
