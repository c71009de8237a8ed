-- Where no two edges join the same vertices in the same direction, and none weighs more than c, no place has more than c for each vertex.
use Prim.Native.Nat.{ℕ, ◌+◌, ◌-◌, ◌*◌, ◌<◌, ◌≤◌}
use mathlib.Core.Path.{◌≡◌, ap}
use native.Mathlib.Decide.{dec_lt}
use native.Mathlib.Omega.{arith}
use Rattle.graph.specs.Range.{sum, if}
use Rattle.graph.specs.Graph.{Graph, Group, edges, out_degree, in_degree}
use Rattle.graph.specs.Shapes.{Closed, Simple}
use Rattle.graph.specs.Linkage.{degree}
use Rattle.graph.specs.Places.{targets}
use Rattle.graph.specs.Cover.{joined}
use Rattle.graph.proofs.Tests.{if-le}
use Rattle.graph.proofs.Sums.{sum_mono, sum-times, sum_ones}
use Rattle.graph.proofs.Degrees.{closed-reverse, only, edges-reverse, edges-out}
use Rattle.graph.proofs.Pairs.{pair-most}
use Rattle.graph.proofs.Cover.{degree-source, degree-target}

-- no edge weighs more than c
abbrev pub Light : Graph → ℕ → Type 0
Light g c = (e : ℕ) → e < g.size → g.weight e ≤ c

-- a vertex has at most c from each vertex,
in-light : {g : Graph} → Closed g → (c v : ℕ) (S : Group) → Simple g → Light g c → in_degree g S v ≤ c * g.order
in-light {g} k c v S s h =
    omega (
      arith,
      edges-out k S (only v),
      sum_mono {f = λ u. if (S u) (edges g (only u) (only v))} {h = λ u. c * 1} g.order (λ u l. omega (arith, if-le (S u) (edges g (only u) (only v)), pair-most g c s h u v)),
      sum-times c (λ u. 1) g.order,
      ap (λ k. c * k) (sum_ones g.order),
    )

-- and to each
out-light : {g : Graph} → Closed g → (c u : ℕ) (T : Group) → Simple g → Light g c → out_degree g T u ≤ c * g.order
out-light {g} k c u T s h = rw (← edges-reverse g (only u) T) (in-light (closed-reverse k) c u T (λ d e m n a b. s d e m n b a) h)

-- and so it is for a place
pub degree-light : {g : Graph} → Closed g → (c : ℕ) → Simple g → Light g c → (R : Group) (p : ℕ) → p < 2 * g.order → degree (joined g) (2 * g.order) R p ≤ c * g.order
degree-light {g} k c s h R p l =
    elim (dec_lt p g.order) [
      | yes b ↦ rw (degree-source k R b) (out-light k c p (targets g R) s h)
      | no b ↦
          let e : p ≡ g.order + (p - g.order) = omega arith in
          rw (e, degree-target k R (p - g.order)) (in-light k c (p - g.order) R s h)
    ]
