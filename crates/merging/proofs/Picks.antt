-- The list of the numbers that pass a test: it begins empty and grows number by number. And the edges of a network that are picked so.
use Prim.Native.Nat.{ℕ, zero, suc, ◌+◌, ◌<◌, ◌≤◌}
use mathlib.Core.Bool.{Bool, true, false, false≢true}
use mathlib.Core.List.{List}
use mathlib.Core.Logic.{◌↔◌}
use mathlib.Core.Path.{◌≡◌, refl, sym, ap, ◌∙◌}
use native.Mathlib.Decide.{dec_le, ℕ_discrete}
use native.Mathlib.Numerals.{add-one}
use native.Mathlib.Omega.{arith}
use lib.ListN.{length, get_or, take}
use lib.Seq.{length-take-le}
use Rattle.std.proofs.lemmas.List.{get_or-take}
use Rattle.graph.specs.Range.{sum, if}
use Rattle.graph.specs.Graph.{Graph}
use Rattle.graph.specs.Order.{Ascending}
use Rattle.graph.specs.Listed.{listed}
use Rattle.graph.proofs.Sums.{sum-next, sum-tests}
use Rattle.graph.proofs.Ascending.{ascending-later}
use Rattle.network.specs.File.{LinkedAs}
use Rattle.merging.specs.Merging.{Picked}

-- of no numbers none passes
pub picked-begin : (p : ℕ → Bool) (l : List ℕ) → Picked p 0 l 0
unfolding sum
picked-begin p l =
    record {
      counted = refl;
      below = λ i h. absurd (omega arith);
      passes = λ i h. absurd (omega arith);
      rises = λ i h. absurd (omega arith);
      every = λ e h t. absurd (omega arith);
    }

-- a list with the same front has the same
pub picked-same : {p : ℕ → Bool} {n : ℕ} {l : List ℕ} (l' : List ℕ) {k : ℕ} → ((i : ℕ) → i < k → get_or l' i 0 ≡ get_or l i 0) → Picked p n l k → Picked p n l' k
picked-same {p} {n} {l} l' {k} e a =
    record {
      counted = a.counted;
      below = λ i h. rw (e i h) (a.below i h);
      passes = λ i h. rw (e i h) (a.passes i h);
      rises = λ i h. omega (arith, e i (omega arith), e (suc i) h, a.rises i h);
      every = λ d h t. let (i, m, q) = a.every d h t in (i, m, e i m ∙ q);
    }

module _ {p : ℕ → Bool} {n : ℕ} {l : List ℕ} {k : ℕ} (a : Picked p n l k) where
  -- one number more, which does not pass
  pub picked-no : p n ≡ false → Picked p (n + 1) l k
  picked-no t =
      record {
        counted = omega (arith, a.counted, sum-next (λ e. if (p e) 1) n, ap (λ b. if b 1) t);
        below = λ i h. omega (arith, a.below i h);
        passes = a.passes;
        rises = a.rises;
        every = λ e h q. elim (ℕ_discrete e n) [ yes i ↦ absurd (fails i q) | no i ↦ a.every e (omega arith) q ];
      }
    where
      fails : {e : ℕ} → e ≡ n → p e ≡ true → ⊥
      fails i q = false≢true (sym t ∙ (rw i at q))

  -- one more, which passes and stands next in the list
  pub picked-yes : get_or l k 0 ≡ n → p n ≡ true → Picked p (n + 1) l (k + 1)
  picked-yes s t =
      record {
        counted = omega (arith, a.counted, sum-next (λ e. if (p e) 1) n, ap (λ b. if b 1) t);
        below = λ i h. elim (ℕ_discrete i k) [ yes q ↦ rw (q, s) (omega arith) | no q ↦ omega (arith, a.below i (omega arith)) ];
        passes = λ i h. elim (ℕ_discrete i k) [ yes q ↦ rw (q, s) t | no q ↦ a.passes i (omega arith) ];
        rises = λ i h. elim (ℕ_discrete (suc i) k) [ yes q ↦ rw (q, s) (a.below i (omega arith)) | no q ↦ a.rises i (omega arith) ];
        every = λ e h q. elim (ℕ_discrete e n) [ yes i ↦ (k, omega arith, s ∙ sym i) | no i ↦ let (j, m, r) = a.every e (omega arith) q in (j, omega arith, r) ];
      }

-- and more of them, none of which passes
pub picked-rest : {p : ℕ → Bool} {n : ℕ} {l : List ℕ} {k : ℕ} (m : ℕ) → n ≤ m → ((e : ℕ) → n ≤ e → e < m → p e ≡ false) → Picked p n l k → Picked p m l k
picked-rest {p} {n} {l} {k} zero h t a = let z : n ≡ 0 = omega arith in rw z at a
picked-rest {p} {n} {l} {k} (suc m) h t a =
    elim (dec_le n m) [
      | yes i ↦ rw (add-one m) at (picked-no (picked-rest m i (λ e q r. t e q (omega arith)) a) (t m i (omega arith)))
      | no i ↦ let z : n ≡ suc m = omega arith in rw z at a
    ]

-- no more pass than there are
pub picked-few : {p : ℕ → Bool} {n : ℕ} {l : List ℕ} {k : ℕ} → Picked p n l k → k ≤ n
picked-few {p} {n} a = omega (arith, a.counted, sum-tests p n)

-- the front of the list is a list by itself
pub picked-cut : {p : ℕ → Bool} {n : ℕ} (l : List ℕ) (k : ℕ) → k ≤ length l → Picked p n l k → Picked p n (take k l) (length (take k l))
picked-cut l k m a = rw (length-take-le k l m) (picked-same (take k l) (λ i h. get_or-take k l i 0 h) a)

-- the edges of a network that pass, in a list,
module _ {p : ℕ → Bool} (g : Graph) {l : List ℕ} (a : Picked p g.size l (length l)) where
  -- ascend where its edges ascend,
  pub picked-ascending : Ascending g → Ascending (listed g l)
  picked-ascending next i h = ascending-later g next _ _ (a.rises i h) (a.below (suc i) h)

  -- and are those that pass, each of its kind
  pub picked-linked : (kind : ℕ → ℕ) (u v k : ℕ)
      → LinkedAs (listed g l) (λ i. kind (get_or l i 0)) u v k ↔ ((e : ℕ) × (e < g.size) × (p e ≡ true) × (g.source e ≡ u) × (g.target e ≡ v) × (kind e ≡ k))
  picked-linked kind u v k = (
    λ (i, h, s, t, q). (get_or l i 0, a.below i h, a.passes i h, s, t, q),
    λ (e, h, q, s, t, w). let (i, m, r) = a.every e h q in (i, m, ap g.source r ∙ s, ap g.target r ∙ t, ap kind r ∙ w),
  )
