-- The edges of a list are taken into a layer, and the others are moved to its front.
use Prim.Native.Nat.{ℕ, ◌+◌, ◌<◌}
use mathlib.Core.Bool.{Bool, true, false, ◌&&◌, cond, and-false}
use mathlib.Core.List.{List}
use mathlib.Core.Logic.{◌≢◌}
use mathlib.Core.Path.{◌≡◌, refl, sym, ap, ◌∙◌}
use native.Mathlib.Decide.{ℕ_discrete}
use native.Mathlib.Nat.{le_refl}
use native.Mathlib.Omega.{arith}
use borrow.Author.Tests.{le-leb}
use lib.Dec.{eqb, leb}
use lib.ListN.{length, get_or, set, length-set}
use lib.Seq.{get_or-set_same, get_or-set_other}
use Rattle.graph.specs.Range.{if}
use Rattle.graph.specs.Graph.{Graph, Group}
use Rattle.graph.specs.Layers.{joins}
use Rattle.graph.proofs.Tests.{if-le, if-add, if-other, if-zero}
use Rattle.graph.proofs.Sums.{sum-next, sum-empty}
use Rattle.filling.specs.Listed.{times}
use Rattle.filling.proofs.Times.{times-entry, times-put}
use Rattle.layering.specs.Calls.{layer_in}
use Rattle.layering.specs.Takings.{TakenFrom, Sifted}

module _ {g : Graph} {S T : Group} {c : ℕ} (l : List ℕ) where
  -- at first no edge is taken
  pub taken-begins : (t : List ℕ) → TakenFrom g S T c l 0 t t
  taken-begins t = record { taken = λ e. rw (sum-empty (λ i. if (eqb (get_or l i 0) e) 1)); same_length = refl }

  -- then one edge more
  pub taken_next : {k : ℕ} {t t₁ t₂ : List ℕ} → TakenFrom g S T c l k t t₁ → get_or l k 0 < length t₁
      → t₂ ≡ cond (joins g S T (get_or l k 0)) (set t₁ (get_or l k 0) c) t₁ → TakenFrom g S T c l (k + 1) t t₂
  taken_next {k} {t} {t₁} h below e = rw e record { taken = λ d. each d (joins g S T (get_or l k 0)) refl (ℕ_discrete (get_or l k 0) d); same_length = long (joins g S T (get_or l k 0)) ∙ h.same_length }
    where
      long : (b : Bool) → length (cond b (set t₁ (get_or l k 0) c) t₁) ≡ length t₁
      long true = length-set t₁ (get_or l k 0) c
      long false = refl

      -- another edge stands there as often as before
      other : (d : ℕ) → get_or l k 0 ≢ d → times l (k + 1) d ≡ times l k d
      other d n = omega (arith, sum-next (λ i. if (eqb (get_or l i 0) d) 1) k, if-other (get_or l k 0) d 1 n)

      -- the edge itself is taken where it goes from S to T, and every other one stays as it is
      each : (d : ℕ) (b : Bool) → joins g S T (get_or l k 0) ≡ b → Dec (get_or l k 0 ≡ d)
          → layer_in (cond b (set t₁ (get_or l k 0) c) t₁) d ≡ cond (leb 1 (times l (k + 1) d) && joins g S T d) c (layer_in t d)
      each d true j (yes i) =
          here d i
          ∙ rw (le-leb 1 (times l (k + 1) d) (rw i at (times-entry l (k + 1) k (omega arith))), sym (ap (joins g S T) i) ∙ j)
        where
          here : (d : ℕ) → get_or l k 0 ≡ d → layer_in (set t₁ (get_or l k 0) c) d ≡ c
          here d i = rw (sym i) (get_or-set_same t₁ (get_or l k 0) c 0 below)
      each d true j (no n) = get_or-set_other t₁ (get_or l k 0) d c 0 (λ i. n (sym i)) ∙ h.taken d ∙ rw (other d n)
      each d false j (yes i) = let none : joins g S T d ≡ false = sym (ap (joins g S T) i) ∙ j in h.taken d ∙ simp (none, and-false)
      each d false j (no n) = h.taken d ∙ rw (other d n)

-- at first nothing is moved
pub sifted-begins : (t l : List ℕ) → Sifted t l l 0 0
sifted-begins t l =
    record {
      few = omega arith;
      kept = λ e. rw (sum-empty (λ i. if (eqb (get_or l i 0) e) 1)) (sym (if-zero (eqb (layer_in t e) 0)));
      ahead = λ i h. refl;
      same_length = refl;
    }

-- then one entry more: it is moved to the place after those that stay, and counts there where it is in no layer
pub sifted-next : {t l l₁ l₂ : List ℕ} {k r r₂ : ℕ} → Sifted t l l₁ k r → k < length l → l₂ ≡ set l₁ r (get_or l₁ k 0)
    → r₂ ≡ r + if (eqb (layer_in t (get_or l₁ k 0)) 0) 1 → Sifted t l l₂ (k + 1) r₂
sifted-next {t} {l} {l₁} {l₂} {k} {r} h below e p = rw (e, p) record {
  few = omega (arith, h.few, if-le (eqb (layer_in t d) 0) 1);
  kept = λ a. times-put l₁ r d (omega (arith, h.few, h.same_length)) a (eqb (layer_in t d) 0) ∙ ap (λ n. n + if (eqb (layer_in t d) 0) (if (eqb d a) 1)) (h.kept a) ∙ counted a;
  ahead = λ i m. get_or-set_other l₁ r i d 0 (λ j. omega (arith, h.few)) ∙ h.ahead i (omega arith);
  same_length = length-set l₁ r d ∙ h.same_length;
}
  where
    d : ℕ
    d = get_or l₁ k 0

    -- in the list as it was the entry is the next
    last : (a : ℕ) → times l (k + 1) a ≡ times l k a + if (eqb d a) 1
    last a = sum-next (λ i. if (eqb (get_or l i 0) a) 1) k ∙ ap (λ b. times l k a + if (eqb b a) 1) (sym (h.ahead k (le_refl k)))

    -- so it counts for itself, where it is in no layer
    counted : (a : ℕ) → if (eqb (layer_in t a) 0) (times l k a) + if (eqb (layer_in t d) 0) (if (eqb d a) 1) ≡ if (eqb (layer_in t a) 0) (times l (k + 1) a)
    counted a =
        elim (ℕ_discrete d a) [
          | yes i ↦
              ap (λ b. if (eqb (layer_in t a) 0) (times l k a) + if (eqb (layer_in t b) 0) (if (eqb d a) 1)) i
              ∙ sym (if-add (eqb (layer_in t a) 0) (times l k a) (if (eqb d a) 1)) ∙ ap (if (eqb (layer_in t a) 0)) (sym (last a))
          | no n ↦
              let zero = if-other d a 1 n in
              let same : times l (k + 1) a ≡ times l k a = omega (arith, zero, last a) in
              omega (arith, ap (if (eqb (layer_in t d) 0)) zero, if-zero (eqb (layer_in t d) 0), ap (if (eqb (layer_in t a) 0)) same)
        ]
