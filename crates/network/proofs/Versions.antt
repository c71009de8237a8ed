-- The version of a file, the bytes of its links, their kinds, and the range of their weights.
use Prim.Native.Nat.{ℕ, zero, suc, ◌+◌, ◌*◌, ◌<◌, ◌≤◌}
use mathlib.Core.Bool.{Bool, true, false, cond}
use mathlib.Core.List.{List, [], ◌∷◌}
use mathlib.Core.Logic.{◌≢◌}
use mathlib.Core.Path.{◌≡◌, refl}
use native.Mathlib.Decide.{ℕ_discrete}
use native.Mathlib.Nat.{le_trans, mul-le-mul_left}
use native.Mathlib.Omega.{arith}
use borrow.Author.Tests.{eq-eqb, ne_eqb}
use Rattle.std.proofs.lemmas.Bool.Decides.{nat_tests}
use lib.Dec.{eqb}
use lib.ListN.{length, get_or}
use Rattle.graph.specs.Range.{sum, if}
use Rattle.graph.specs.Graph.{Graph}
use Rattle.graph.proofs.Tests.{if-le}
use Rattle.graph.proofs.Sums.{sum_mono, sum-times, sum_ones}
use Rattle.network.specs.File.{u16_at, version_of, stride, stride_of, link_at, kind_at, weights, most_weight, weight_of}
use Rattle.network.specs.Bytes.{kind_bytes, link_bytes}

-- zero bytes count as a file of version 1
pub version-none : (f : List ℕ) → length f ≡ 0 → version_of f ≡ 1
unfolding version_of
version-none f e = rw (eq-eqb (length f) 0 e)

-- a file of some bytes has the version that stands in it
pub version-some : (f : List ℕ) → 1 ≤ length f → version_of f ≡ u16_at f 3
unfolding version_of
version-some f l = rw (ne_eqb (length f) 0 (λ e. omega arith))

-- a link has four bytes or five
pub stride-range : (v : ℕ) → (4 ≤ stride v) × (stride v ≤ 5)
unfolding stride
stride-range v = grind (arith, nat_tests)

-- five where it has not four
pub five-bytes : (f : List ℕ) {s : ℕ} → s ≡ stride_of f → s ≢ 4 → 5 ≡ stride_of f
five-bytes f {s} h n = omega (arith, stride-range (version_of f), h, n)

-- four in version 1
pub stride-four : {v : ℕ} → v ≢ 2 → stride v ≡ 4
unfolding stride
stride-four {v} n = rw (ne_eqb v 2 n)

-- and five in version 2
pub stride-five : {v : ℕ} → v ≡ 2 → stride v ≡ 5
unfolding stride
stride-five {v} e = rw (eq-eqb v 2 e)

-- in version 2 the kind is stored,
pub kind_bytes-some : {v : ℕ} (k : ℕ) → v ≡ 2 → kind_bytes v k ≡ k ∷ []
unfolding kind_bytes
kind_bytes-some {v} k e = rw (eq-eqb v 2 e)

-- and in version 1 nothing is
pub kind_bytes-none : {v : ℕ} (k : ℕ) → v ≢ 2 → kind_bytes v k ≡ []
unfolding kind_bytes
kind_bytes-none {v} k n = rw (ne_eqb v 2 n)

-- these are all the bytes of a link
pub link-length : (v : ℕ) (kind : ℕ → ℕ) (g : Graph) (e : ℕ) → length (link_bytes v kind g e) ≡ stride v
unfolding stride kind_bytes
link-length v kind g e = go (eqb v 2)
  where
    go : (b : Bool) → suc (suc (suc (suc (length (cond b (kind e ∷ []) []))))) ≡ cond b 5 4
    go true = refl
    go false = refl

-- a link starts no later than a later one
pub link-most : (s e m : ℕ) → e ≤ m → link_at s e ≤ link_at s m
link-most s e m l = omega (arith, mul-le-mul_left s l)

-- a link ends before the end of all
pub link-within : (s e m : ℕ) → e < m → link_at s e + s ≤ link_at s m
link-within s e m l = omega (arith, mul-le-mul_left s l)

-- a link has five bytes in no other version
pub five-version : {v : ℕ} → stride v ≡ 5 → v ≡ 2
five-version {v} e = elim (ℕ_discrete v 2) [ yes h ↦ h | no n ↦ absurd (omega (arith, stride-four n)) ]

-- a link of a file of version 1 has kind 0
pub kind-none : (f : List ℕ) (e : ℕ) → version_of f ≢ 2 → kind_at f e ≡ 0
unfolding kind_at
kind-none f e n = rw (ne_eqb (version_of f) 2 n)

-- and in version 2 its last byte
pub kind-some : (f : List ℕ) (e : ℕ) → version_of f ≡ 2 → kind_at f e ≡ get_or f (link_at (stride_of f) e + 4) 0
unfolding kind_at
kind-some f e q = rw (eq-eqb (version_of f) 2 q)

-- each number of a list is 1 to 12
InRange : List ℕ → Type 0
InRange [] = Unit {0}
InRange (w ∷ l) = (1 ≤ w) × (w ≤ most_weight) × InRange l

-- and so is the one at any place of it, or 1 past its end
in_range : (l : List ℕ) → InRange l → (k : ℕ) → (1 ≤ get_or l k 1) × (get_or l k 1 ≤ most_weight)
unfolding InRange
in_range [] r k = omega arith
in_range (w ∷ l) (p, q, r) zero = (p, q)
in_range (w ∷ l) (p, q, r) (suc k) = in_range l r k

-- 02, wish 13: every weight is 1 to 12
pub weight-range : (k : ℕ) → (1 ≤ weight_of k) × (weight_of k ≤ most_weight)
unfolding weight_of InRange
weight-range k = in_range weights (omega arith) k

-- at a place of a list it does not matter what stands past its end
get_or-any : (l : List ℕ) (k a b : ℕ) → k < length l → get_or l k a ≡ get_or l k b
get_or-any [] k a b h = absurd (omega arith)
get_or-any (w ∷ l) zero a b h = refl
get_or-any (w ∷ l) (suc k) a b h = get_or-any l k a b (omega arith)

-- a kind up to 7 has its weight in the table
pub weight-table : (k : ℕ) → k ≤ 7 → get_or weights k 0 ≡ weight_of k
unfolding weight_of
weight-table k h = get_or-any weights k 0 1 (omega arith)

-- so edges that pass a test weigh at most 12 times the number of all
pub weights-most : (kind : ℕ → ℕ) (p : ℕ → Bool) (n : ℕ) → sum (λ e. if (p e) (weight_of (kind e))) n ≤ most_weight * n
weights-most kind p n =
    omega (arith, sum_mono {h = λ e. most_weight * 1} n (λ e l. le_trans (if-le (p e) (weight_of (kind e))) (weight-range (kind e)).1), sum-times most_weight (λ e. 1) n, sum_ones n)
