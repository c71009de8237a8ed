-- Edges looked at, one after the other.
use Prim.Native.Nat.{ℕ, suc, ◌+◌, ◌-◌, ◌<◌, ◌≤◌}
use mathlib.Core.Bool.{Bool, true, false, ◌||◌}
use mathlib.Core.Path.{◌≡◌, sym}
use Rattle.std.proofs.lemmas.Bool.Decides.{nat_tests}
use native.Mathlib.Omega.{arith}
use lib.Dec.{leb}
use Rattle.std.specs.Prelude.{Option, Some, None, MatchOption}
use Rattle.std.specs.Option.{SomeIff}
use Rattle.graph.specs.Range.{first}
use Rattle.graph.specs.Graph.{Graph}
use Rattle.graph.specs.Order.{ascends, Ascending}
use Rattle.graph.proofs.Ascending.{ascending-later}
use native.Mathlib.Decide.{dec_lt}
use native.Mathlib.Nat.{le_refl}
use Rattle.graph.specs.Sorting.{key_of}
use Rattle.graph.proofs.Ranges.{first-none, first-is}
use Rattle.graph.proofs.Sums.{below_suc}

-- edge e names a vertex not below n
abbrev pub names-outside : Graph → ℕ → Bool
names-outside g e = leb g.order (g.source e) || leb g.order (g.target e)

-- no number below k passes a test
abbrev pub None-below : (ℕ → Bool) → ℕ → Type 0
None-below p k = (e : ℕ) → 0 ≤ e → e < k → p e ≡ false

-- what is found below n is the first that does
pub first-found : (p : ℕ → Bool) (m n : ℕ) (r : Option ℕ) → n ≡ m → MatchOption r (None-below p n) (λ k. (0 ≤ k) × (k < n) × (p k ≡ true) × None-below p k)
    → SomeIff r (first p m < m) (first p m)
first-found p m n None q h = λ l. omega (arith, l, first-none p m (λ e i. h e (omega arith) (omega arith)))
first-found p m n (Some k) q h =
    let e = sym (first-is p m k (omega (arith, h.1)) (λ e l. h.3 e (omega arith) l) (λ l. h.2)) in
    (omega (arith, e, h.1), e)

-- an edge with a greater key comes after
pub key-ascends : (g : Graph) (d e : ℕ) → g.target d < 65536 → g.target e < 65536 → key_of g d < key_of g e → ascends g d e ≡ true
key-ascends g d e p q l = grind (arith, nat_tests)

-- so one edge more ascends where its key is greater than that of the one before it
pub ascending-next : (g : Graph) {e : ℕ} → ((d : ℕ) → suc d < e → ascends g d (suc d) ≡ true) → g.target (e - 1) < 65536 → g.target e < 65536 → key_of g (e - 1) < key_of g e
    → (d : ℕ) → suc d < e + 1 → ascends g d (suc d) ≡ true
ascending-next g {e} h p q l d m = below_suc {n = e} (omega (arith, m)) (λ (i : suc d ≡ e). last i (omega (arith, i))) (h d)
  where
    last : suc d ≡ e → e - 1 ≡ d → ascends g d (suc d) ≡ true
    last i j = key-ascends g d (suc d) (rw j at p) (rw (sym i) at q) (rw (j, sym i) at l)

-- what was the greatest stays so with one number more where that is no greater, and what was kept did not fall
pub greatest-next : (f : ℕ → ℕ) {k m n : ℕ} → ((d : ℕ) → d < k → f d ≤ m) → f k ≤ n → m ≤ n → (d : ℕ) → d < k + 1 → f d ≤ n
greatest-next f {k} {m} {n} h last grown d l = below_suc {n = k} (omega (arith, l)) (λ e. rw e last) (λ (i : d < k). omega (arith, h d i, grown))

-- of edges that ascend none has a greater source than the last
pub greatest-last : (g : Graph) → Ascending g → (e : ℕ) → e < g.size → g.source e ≤ g.source (g.size - 1)
greatest-last g a e l = elim (dec_lt e (g.size - 1)) [
  | yes m ↦ no-less (ascending-later g a e (g.size - 1) m (omega (arith, l)))
  | no m ↦ rw (last m) (le_refl _)
]
  where
    last : ¬ (e < g.size - 1) → e ≡ g.size - 1
    last m = omega (arith, m, l)

    no-less : ascends g e (g.size - 1) ≡ true → g.source e ≤ g.source (g.size - 1)
    no-less h = grind (arith, nat_tests)

-- the edge before the next one
pub edge-before : (e : ℕ) → e + 1 - 1 ≡ e
edge-before e = omega arith
