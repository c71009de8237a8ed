-- Where edges stop ascending: of edges of which no two are the same, the first that does not come after the one preceding it comes before it.
use Prim.Native.Nat.{ℕ, zero, suc, ◌-◌, ◌<◌, ◌≤◌}
use mathlib.Core.Bool.{true, false, false≢true}
use mathlib.Core.Logic.{◌↔◌}
use mathlib.Core.Path.{◌≡◌, refl, sym, ◌∙◌}
use native.Mathlib.Omega.{arith}
use Rattle.graph.specs.Graph.{Graph}
use Rattle.graph.specs.Order.{ascends, Ascending}
use Rattle.graph.specs.Shapes.{Simple}
use Rattle.graph.proofs.Tests.{test-fails}
use Rattle.graph.proofs.Ranges.{first-is, first-before}
use Rattle.graph.proofs.Ascending.{ascends-either, ascends-once, ascends-other}
use Rattle.network.specs.File.{descent}

-- the number before the next
before-suc : (e : ℕ) → suc e - 1 ≡ e
before-suc e = omega arith

module _ (g : Graph) (s : Simple g) where
  -- two neighbours are not the same
  neighbours : (e : ℕ) → suc e < g.size → g.source e ≡ g.source (suc e) → g.target e ≡ g.target (suc e) → ⊥
  neighbours e l p q = omega (arith, s e (suc e) (omega arith) l p q)

  -- the first descent is where edges that ascended stop, or past the last
  pub descent-is : (k : ℕ) → k ≤ g.size → ((e : ℕ) → suc e < k → ascends g e (suc e) ≡ true) → (k < g.size → (1 ≤ k) × (ascends g (k - 1) k ≡ false)) → k ≡ descent g
  descent-is k l up down = sym (first-is (λ e. ascends g e (e - 1)) g.size k l none (some k down))
    where
      none : (e : ℕ) → e < k → ascends g e (e - 1) ≡ false
      none zero m = test-fails _ (λ h. ascends-other g 0 0 h refl refl)
      none (suc e) m = rw (before-suc e) (test-fails _ (ascends-once g e (suc e) (up e m)))

      some : (k : ℕ) → (k < g.size → (1 ≤ k) × (ascends g (k - 1) k ≡ false)) → k < g.size → ascends g k (k - 1) ≡ true
      some zero down m = absurd (omega (arith, (down m).0))
      some (suc k) down m =
          rw (before-suc k) (ascends-either g k (suc k) (neighbours k m) (λ h. absurd (false≢true (sym (rw (before-suc k) at (down m).1) ∙ h))) (λ h. h))

  -- there is none exactly when the edges ascend
  pub descent-none : (descent g ≡ g.size) ↔ Ascending g
  descent-none = (up, λ next. sym (descent-is g.size (omega arith) next (λ l. absurd (omega arith))))
    where
      up : descent g ≡ g.size → Ascending g
      up h e l =
          ascends-either g e (suc e) (neighbours e l) (λ t. t) (λ t.
          absurd (false≢true (sym (first-before (λ e. ascends g e (e - 1)) g.size (suc e) (omega arith)) ∙ rw (before-suc e) t)))
