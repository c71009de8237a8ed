-- The least of numbers below 65536 over those that pass a test, found one after the other.
use Prim.Native.Nat.{ℕ, ◌+◌, ◌-◌, ◌<◌, ◌≤◌}
use mathlib.Core.Bool.{Bool, true, false, cond, ◌&&◌, false≢true}
use mathlib.Core.Path.{◌≡◌, refl, sym, ◌∙◌}
use native.Mathlib.Decide.{dec_lt}
use native.Mathlib.Omega.{arith}
use borrow.Author.Count.{below_more}
use Rattle.std.proofs.lemmas.Bool.Decides.{nat_tests}
use borrow.Author.Tests.{le-leb}
use lib.Dec.{leb, ltb}
use Rattle.graph.specs.Graph.{Group}
use Rattle.graph.proofs.Tests.{and_both}
use Rattle.climbing.specs.Climbs.{Some, Least}

-- k is the least over the numbers below i that pass, or 65535 where none does
pub record Lowest (P : Group) (d : ℕ → ℕ) (i k : ℕ) : Type 0 where
  pub small : (p : ℕ) → p < i → P p ≡ true → d p < 65536
  pub low : (p : ℕ) → p < i → P p ≡ true → k ≤ d p
  pub reached : k < 65535 → Some (λ p. P p && leb (d p) k) i

-- at first none has passed
pub lowest-begins : (P : Group) (d : ℕ → ℕ) → Lowest P d 0 65535
lowest-begins P d = record { small = λ p l. absurd (omega arith); low = λ p l. absurd (omega arith); reached = λ l. absurd (omega arith) }

-- it is the same for a test that agrees below i, and further on where no number passes
pub lowest-skips : {P Q : Group} {d : ℕ → ℕ} {i j k : ℕ} → i ≤ j → ((p : ℕ) → p < i → P p ≡ Q p) → ((p : ℕ) → i ≤ p → p < j → Q p ≡ false)
    → Lowest P d i k → Lowest Q d j k
lowest-skips {Q = Q} {i = i} {j} l same none o =
    record {
      small = λ p b h. o.small p (early p b h) (same p (early p b h) ∙ h);
      low = λ p b h. o.low p (early p b h) (same p (early p b h) ∙ h);
      reached = λ m. let s = o.reached m in record { number = s.number; below = omega (arith, s.below); passes = rw (same s.number s.below) at s.passes };
    }
  where
    early : (p : ℕ) → p < j → Q p ≡ true → p < i
    early p b h = grind (arith, none p)

-- the next number counts where it passes and is less
pub lowest-next : {P : Group} {d : ℕ → ℕ} {i k k' : ℕ} → Lowest P d i k → d i < 65536 → k' ≡ cond (P i && ltb (d i) k) (d i) k → Lowest P d (i + 1) k'
lowest-next {P} {d} {i} {k} {k'} o l e =
    record {
      small = below_more _ _ o.small (λ q. l);
      low = below_more _ _ (λ p m q. grind (arith, nat_tests, o.low p m q)) (λ q. grind (arith, nat_tests));
      reached = go (P i && ltb (d i) k) refl;
    }
  where
    go : (b : Bool) → (P i && ltb (d i) k) ≡ b → k' < 65535 → Some (λ p. P p && leb (d p) k') (i + 1)
    go true h m = record { number = i; below = omega arith; passes = grind (arith, nat_tests) }
    go false h m = let s = o.reached (grind arith) in record { number = s.number; below = omega (arith, s.below); passes = grind (arith, nat_tests, s.passes) }

-- what is found among numbers in a row from f on, counted from there, is found below the last of them where none before f passes
pub lowest-shift : {P Q : Group} {d e : ℕ → ℕ} {n k : ℕ} (f : ℕ) → ((i : ℕ) → i < n → Q (f + i) ≡ P i) → ((i : ℕ) → i < n → e (f + i) ≡ d i)
    → ((p : ℕ) → p < f → Q p ≡ false) → Lowest P d n k → Lowest Q e (f + n) k
lowest-shift {P} {Q} {d} {e} {n} {k} f same value none o =
    record {
      small = λ p b h. nth p b h (λ p. e p < 65536) (λ i m t. rw (value i m) (o.small i m t));
      low = λ p b h. nth p b h (λ p. k ≤ e p) (λ i m t. rw (value i m) (o.low i m t));
      reached = λ m.
          let s = o.reached m in
          record { number = f + s.number; below = omega (arith, s.below); passes = rw (same s.number s.below, value s.number s.below) s.passes };
    }
  where
    nth : (p : ℕ) → p < f + n → Q p ≡ true → (R : ℕ → Type 0) → ((i : ℕ) → i < n → P i ≡ true → R (f + i)) → R p
    nth p b h R g =
        elim (dec_lt p f) [
          | yes m ↦ absurd (false≢true (sym (none p m) ∙ h))
          | no m ↦
              let q : f + (p - f) ≡ p = omega arith in
              let l : p - f < n = omega arith in
              rw q at (g (p - f) l (sym (same (p - f) l) ∙ rw q h))
        ]

-- at the end it is the least, where some number passes: that one is no greater than 65535
pub lowest-ends : {P : Group} {d : ℕ → ℕ} {N k : ℕ} → Lowest P d N k → Some P N → Least P d N k
lowest-ends {P} {d} {N} {k} o s =
    record {
      low = o.low;
      reached = elim (dec_lt k 65535) [
        | yes m ↦ o.reached m
        | no m ↦
            let small = o.small s.number s.below s.passes in
            record { number = s.number; below = s.below; passes = and_both s.passes (le-leb (d s.number) k (omega arith)) }
      ];
    }
