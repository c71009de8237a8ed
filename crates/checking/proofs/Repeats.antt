-- Repeated edges: in the ascending order an edge that repeats an earlier one stands right after one that is the same.
use Prim.Native.Nat.{ℕ, min, zero, suc, ◌+◌, ◌<◌, ◌≤◌}
use mathlib.Core.Bool.{Bool, true, false}
use mathlib.Core.Logic.{◌≢◌}
use mathlib.Core.Path.{◌≡◌, subst, refl, sym, ap, ◌∙◌}
use native.Mathlib.Decide.{dec_le, ℕ_discrete}
use native.Mathlib.Omega.{arith}
use borrow.Author.Tests.{ltb-true, lt-ltb}
use lib.Dec.{ltb}
use Rattle.std.proofs.lemmas.Bool.Decides.{nat_tests}
use Rattle.graph.specs.Range.{first}
use Rattle.graph.specs.Graph.{Graph}
use Rattle.graph.specs.Order.{precedes, edge_at}
use Rattle.graph.specs.Sorting.{rank}
use Rattle.graph.proofs.Tests.{test-fails}
use Rattle.graph.proofs.Ranges.{first_passes, first_some, first-is}
use Rattle.graph.proofs.Order.{precedes-strict, rank_lt, rank-injective, rank_mono, rank_less, rank-nth, nth-rank, edge_at-lt, edge_at-ascending}
use Rattle.network.specs.File.{same, repeat}

-- edge e repeats an earlier one
abbrev pub repeats : Graph → ℕ → Bool
repeats g e = ltb (first (λ d. same g d e) e) e

-- of two edges that are the same the one of the smaller number comes before the other
same-precedes : (g : Graph) (d e : ℕ) → same g d e ≡ true → precedes g d e ≡ ltb d e
same-precedes g d e h = grind (arith, nat_tests)

-- what stands between two edges that are the same is the same
same-between : (g : Graph) (d b e : ℕ) → same g d e ≡ true → (d ≡ b → ⊥) → precedes g d b ≡ true → precedes g b e ≡ true → same g b e ≡ true
same-between g d b e h n p q = grind (arith, nat_tests)

-- an edge that stands right after one that is the same repeats it
pub neighbour-repeats : (g : Graph) (i : ℕ) → suc i < g.size → same g (edge_at g i) (edge_at g (suc i)) ≡ true → repeats g (edge_at g (suc i)) ≡ true
neighbour-repeats g i l h =
    let less : edge_at g i < edge_at g (suc i) = ltb-true _ _ (sym (same-precedes g (edge_at g i) (edge_at g (suc i)) h) ∙ edge_at-ascending g i (suc i) (omega arith) l) in
    lt-ltb _ _ (first_some (λ d. same g d (edge_at g (suc i))) _ (edge_at g i) less h)

-- and an edge that repeats another stands right after one that is the same
pub repeats-neighbour : (g : Graph) (e : ℕ) → e < g.size → repeats g e ≡ true
    → (i : ℕ) × (suc i < g.size) × (edge_at g (suc i) ≡ e) × (same g (edge_at g i) e ≡ true)
repeats-neighbour g e l h = go (rank g e) refl
  where
    n : ℕ
    n = g.size

    d : ℕ
    d = first (λ d. same g d e) e

    less : d < e
    less = ltb-true d e h

    alike : same g d e ≡ true
    alike = first_passes (λ d. same g d e) e less

    earlier : rank g d < rank g e
    earlier = rank_mono (precedes-strict g) n d e (omega (arith, less)) (same-precedes g d e alike ∙ lt-ltb d e less)

    before : (i : ℕ) → suc i < n → rank g e ≡ suc i → same g (edge_at g i) e ≡ true
    before i m q =
        let b = edge_at g i in
        let r : rank g b ≡ i = rank-nth (precedes-strict g) n i (omega arith) in
        let other : (d ≡ b → ⊥) → rank g d ≢ rank g b = λ w t. w (rank-injective (precedes-strict g) n d b (omega (arith, less)) (edge_at-lt g i (omega arith)) t) in
        elim (ℕ_discrete d b) [
          | yes w ↦ rw (← w) alike
          | no w ↦ same-between g d b e alike w
              (rank_less (precedes-strict g) n d b (edge_at-lt g i (omega arith)) (omega (arith, earlier, other w)))
              (rank_less (precedes-strict g) n b e l (omega arith))
        ]

    go : (r : ℕ) → rank g e ≡ r → (i : ℕ) × (suc i < g.size) × (edge_at g (suc i) ≡ e) × (same g (edge_at g i) e ≡ true)
    go zero q = absurd (omega (arith, earlier))
    go (suc i) q =
        let m : suc i < n = omega (arith, rank_lt (precedes-strict g) n e l) in
        (i, m, ap (edge_at g) (sym q) ∙ nth-rank (precedes-strict g) n e l, before i m q)

-- so the least edge that stands right after one that is the same is the first repeat
pub least-repeat : (g : Graph) (k : ℕ) → k ≤ g.size → (k < g.size → repeats g k ≡ true)
    → ((i : ℕ) → suc i < g.size → same g (edge_at g i) (edge_at g (suc i)) ≡ true → k ≤ edge_at g (suc i)) → k ≡ repeat g
least-repeat g k l some least = sym (first-is (repeats g) g.size k l none some)
  where
    late : (e : ℕ) → e < k → (i : ℕ) × (suc i < g.size) × (edge_at g (suc i) ≡ e) × (same g (edge_at g i) e ≡ true) → ⊥
    late e m (i, n, q, h) = omega (arith, least i n (rw q h))

    none : (e : ℕ) → e < k → repeats g e ≡ false
    none e m = test-fails (repeats g e) (λ h. late e m (repeats-neighbour g e (omega arith) h))

-- k is the least edge that stands right after one that is the same, of those before place i, or the number of edges
pub record Least (g : Graph) (i k : ℕ) : Type 0 where
  pub most : k ≤ g.size
  pub some : k < g.size → repeats g k ≡ true
  pub least : (j : ℕ) → suc j < i → suc j < g.size → same g (edge_at g j) (edge_at g (suc j)) ≡ true → k ≤ edge_at g (suc j)

-- the next edge counts where it is the same as the one before it
pub least-taken : (g : Graph) (i k b e : ℕ) → suc i < g.size → b ≡ edge_at g i → e ≡ edge_at g (suc i) → same g b e ≡ true → Least g (i + 1) k → Least g (i + 2) (min k e)
least-taken g i k b e l p q s h =
    let alike : same g (edge_at g i) (edge_at g (suc i)) ≡ true = rw (← p, ← q) s in
    let repeat : repeats g e ≡ true = rw q (neighbour-repeats g i l alike) in
    record {
      most = omega (arith, h.most);
      some = λ m. elim (dec_le k e) [
        | yes n ↦ let is : k ≡ min k e = omega arith in subst (λ r. repeats g r ≡ true) is (h.some (omega arith))
        | no n ↦ let is : e ≡ min k e = omega arith in subst (λ r. repeats g r ≡ true) is repeat
      ];
      least = λ j m n t. elim (ℕ_discrete j i) [ yes u ↦ omega (arith, ap (λ j. edge_at g (suc j)) u) | no u ↦ omega (arith, h.least j (omega arith) n t) ];
    }

-- and else it does not
pub least-kept : (g : Graph) (i k b e : ℕ) → b ≡ edge_at g i → e ≡ edge_at g (suc i) → same g b e ≡ false → Least g (i + 1) k → Least g (i + 2) k
least-kept g i k b e p q s h = grind (arith, nat_tests)

-- at the end it is the first repeat
pub least-last : (g : Graph) (i k : ℕ) → g.size ≤ i → Least g i k → k ≡ repeat g
least-last g i k l h = least-repeat g k h.most h.some (λ j m. h.least j (omega arith) m)
