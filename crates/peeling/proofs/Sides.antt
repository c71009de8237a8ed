-- How many places are left on each side: where a place is pushed, its own side has one less, and the other as many as before.
use Prim.Native.Nat.{ℕ, ◌+◌, ◌-◌, ◌*◌, ◌<◌, ◌≤◌}
use mathlib.Core.Bool.{true, cond}
use mathlib.Core.Logic.{◌≢◌}
use mathlib.Core.Path.{◌≡◌, ap, ◌∙◌}
use native.Mathlib.Decide.{dec_lt}
use native.Mathlib.Nat.{add_left_cancel}
use native.Mathlib.Omega.{arith}
use Rattle.std.proofs.lemmas.Bool.Decides.{nat_tests}
use borrow.Author.Tests.{lt-ltb, le-ltb, eqb-true, eq-eqb, ne_eqb}
use lib.Dec.{eqb, ltb}
use Rattle.graph.specs.Range.{sum, if}
use Rattle.graph.specs.Graph.{Group}
use Rattle.graph.proofs.Tests.{test-ext}
use Rattle.graph.proofs.Sums.{sum-ext}
use Rattle.graph.proofs.Degrees.{without, sum-without}
use Rattle.peeling.specs.declared.Peel.{Peel}
use Rattle.peeling.specs.Peeling.{Sizes, pushed}

-- of n places f p, one that is taken out is missing
side-less : (f : ℕ → ℕ) → ((p q : ℕ) → f p ≡ f q → p ≡ q) → (n : ℕ) (R : Group) (v : ℕ) → v < n → R (f v) ≡ true
    → sum (λ p. if (R (f p)) 1) n ≡ sum (λ p. if (without R (f v) (f p)) 1) n + 1
side-less f apart n R v l h = sum-without (λ p. 1) (λ p. R (f p)) n v l h ∙ ap (λ c. c + 1) (sum-ext n (λ p b. rw (same p)))
  where
    same : (p : ℕ) → eqb p v ≡ eqb (f p) (f v)
    same p = test-ext _ _ (λ t. eq-eqb (f p) (f v) (ap f (eqb-true p v t))) (λ t. eq-eqb p v (apart p v (eqb-true _ _ t)))

-- and none where it is not one of them
side_same : (f : ℕ → ℕ) (n : ℕ) (R : Group) (q : ℕ) → ((p : ℕ) → p < n → f p ≢ q) → sum (λ p. if (R (f p)) 1) n ≡ sum (λ p. if (without R q (f p)) 1) n
side_same f n R q h = sum-ext n (λ p b. rw (ne_eqb (f p) q (h p b)))

-- the same places are as many
pub sizes-same : {n : ℕ} {R R' : Group} {s : Peel} → ((p : ℕ) → R p ≡ R' p) → Sizes n R s → Sizes n R' s
sizes-same {n} e c =
    record {
      sources = c.sources ∙ sum-ext n (λ p l. rw (e p));
      targets = c.targets ∙ sum-ext n (λ p l. rw (e (n + p)));
    }

module _ {n : ℕ} {R : Group} {s : Peel} (c : Sizes n R s) (q : ℕ) (l : q < 2 * n) (h : R q ≡ true) where
  -- a source taken out of R
  source-less : q < n → s.sources ≡ sum (λ p. if (without R q p) 1) n + 1
  source-less b = c.sources ∙ side-less (λ p. p) (λ p p' e. e) n R q b h

  -- or a target
  target-less : n ≤ q → s.targets ≡ sum (λ p. if (without R q (n + p)) 1) n + 1
  target-less b = at (q - n) (omega arith)
    where
      at : (v : ℕ) → q ≡ n + v → s.targets ≡ sum (λ p. if (without R q (n + p)) 1) n + 1
      at v e = c.targets ∙ rw e (side-less (λ p. n + p) (λ p p'. add_left_cancel n) n R v (omega arith) (rw e at h))

  -- so the place's own side has somebody
  pub sizes-some : 1 ≤ cond (ltb q n) s.sources s.targets
  sizes-some = grind (arith, nat_tests, source-less, target-less)

  -- and one less without it, while the other is as it was
  pub sizes-without : Sizes n (without R q) (pushed n s q)
  sizes-without =
      elim (dec_lt q n) [
        | yes b ↦ rw (lt-ltb q n b) (record {
          sources = omega (arith, source-less b);
          targets = c.targets ∙ side_same (λ p. n + p) n R q (λ p a e. omega arith);
        })
        | no b ↦ rw (le-ltb q n (omega arith)) (record {
          sources = c.sources ∙ side_same (λ p. p) n R q (λ p a e. omega arith);
          targets = omega (arith, target-less (omega arith));
        })
      ]
