-- The place of a link in an ascending set.
use Prim.Native.Nat.{ℕ, ◌+◌, ◌-◌, ◌*◌, ◌<◌, ◌≤◌}
use mathlib.Core.Bool.{Bool, true, false, cond, false≢true}
use mathlib.Core.Path.{◌≡◌, refl, sym, ◌∙◌}
use native.Mathlib.Decide.{dec_lt}
use native.Mathlib.Omega.{arith}
use borrow.Author.Tests.{ltb-true, lt-ltb, le-ltb}
use lib.Dec.{eqb, ltb}
use lib.ListN.{length}
use Rattle.std.proofs.lemmas.Bool.{false_from_ne_true}
use Rattle.graph.specs.Range.{if}
use Rattle.graph.proofs.Order.{lexicographic-less, lexicographic-same, lexicographic-either}
use Rattle.linkset.specs.Tables.{Pairs, source_at, target_at, before_at, Sorted, earlier, Narrowed, quarter_of, told, passed}

-- a link before another one has no greater source
pub before-source : (l : Pairs) (a b e : ℕ) → before_at l a b e ≡ true → source_at l e ≤ a
before-source l a b e t = lexicographic-either (source_at l e) a _ t (λ q. omega arith) (λ q r. omega arith)

-- and one that is not before it has no less
pub from-source : (l : Pairs) (a b e : ℕ) → before_at l a b e ≡ false → a ≤ source_at l e
from-source l a b e f = elim (dec_lt (source_at l e) a) [ yes k ↦ absurd (false≢true (sym f ∙ lexicographic-less (source_at l e) a _ k)) | no k ↦ omega arith ]

-- so sources ascend too
pub source-ascends : (l : Pairs) (d e : ℕ) → Sorted l → d ≤ e → e < length l → source_at l d ≤ source_at l e
source-ascends l d e s h k =
    elim (dec_lt d e) [ yes p ↦ before-source l _ (target_at l e) d (s.ascends d e p k) | no p ↦ (let q : d ≡ e = omega arith in rw q (omega arith)) ]

-- a link before one that comes before another comes before that other
before-earlier : (l : Pairs) (a b d e : ℕ) → Sorted l → d < e → e < length l → before_at l a b e ≡ true → before_at l a b d ≡ true
before-earlier l a b d e s h h' t =
    lexicographic-either (source_at l d) (source_at l e) _ (s.ascends d e h h')
    (λ p. lexicographic-either (source_at l e) a _ t
    (λ q. lexicographic-less (source_at l d) a _ (omega arith))
    (λ q r. lexicographic-less (source_at l d) a _ (omega arith)))
    (λ p o. lexicographic-either (source_at l e) a _ t
    (λ q. lexicographic-less (source_at l d) a _ (omega arith))
    (λ q r. lexicographic-same (source_at l d) a _ (p ∙ q) ∙ lt-ltb (target_at l d) b (omega (arith, ltb-true (target_at l d) (target_at l e) o, ltb-true (target_at l e) b r))))

-- a turn tells of no more links than are left
pub told-most : (left : ℕ) → 0 < left → told left ≤ left
told-most left h = elim (dec_lt left 3) [ yes l ↦ rw (lt-ltb left 3 l) (omega arith) | no l ↦ rw (le-ltb left 3 (omega arith)) (omega arith) ]

module _ (ends : ℕ) (l : Pairs) (a b : ℕ) (s : Sorted l) where
  -- what a search asks holds of all links up to one of which it holds,
  before-all : (e : ℕ) → e < length l → earlier ends l a b e ≡ true → (d : ℕ) → d ≤ e → earlier ends l a b d ≡ true
  before-all e h t d k = elim (dec_lt d e) [ yes p ↦ either (eqb ends 1) p t | no p ↦ (let q : d ≡ e = omega arith in rw q t) ]
    where
      either : (c : Bool) → d < e → cond c (ltb (source_at l e) a) (before_at l a b e) ≡ true → cond c (ltb (source_at l d) a) (before_at l a b d) ≡ true
      either true p t = lt-ltb (source_at l d) a (omega (arith, ltb-true (source_at l e) a t, source-ascends l d e s k h))
      either false p t = before-earlier l a b d e s p h t

  -- and of none from one on of which it does not
  before-none : (e : ℕ) → earlier ends l a b e ≡ false → (d : ℕ) → e ≤ d → d < length l → earlier ends l a b d ≡ false
  before-none e f d k h = false_from_ne_true _ (λ q. false≢true (sym f ∙ before-all d h q e k))

  -- after a turn of the search
  pub narrowed-next : {low left : ℕ} → Narrowed (earlier ends l a b) (length l) low left → 0 < left
      → Narrowed (earlier ends l a b) (length l) (low + passed (earlier ends l a b) low left) (left - told left)
  narrowed-next {low} {left} n some =
      elim (dec_lt left 3) [
        | yes h ↦ rw (lt-ltb left 3 h) (one (test low) refl)
        | no h ↦ rw (le-ltb left 3 (omega arith)) (third (omega arith) (test (last + 2 * quarter)) refl)
      ]
    where
      test : ℕ → Bool
      test = earlier ends l a b

      quarter : ℕ
      quarter = quarter_of left

      last : ℕ
      last = low + quarter - 1

      -- one of the last two
      one : (t : Bool) → test low ≡ t → Narrowed test (length l) (low + if t 1) (left - 1)
      one true e = record { most = omega (arith, n.most); below = λ d i. before-all low (omega (arith, n.most)) e d (omega arith); past = λ d i j. n.past d (omega arith) j }
      one false e = record { most = omega (arith, n.most); below = λ d i. n.below d (omega arith); past = λ d i o. before-none low e d (omega arith) o }

      -- the quarters, by the links between them
      first : 3 ≤ left → test (last + quarter) ≡ false → (t : Bool) → test last ≡ t → Narrowed test (length l) (low + (if t quarter + 0 + 0)) (left - 3 * quarter)
      first h f true e = record {
        most = omega (arith, n.most);
        below = λ d i. before-all last (omega (arith, n.most)) e d (omega arith);
        past = λ d i j. before-none (last + quarter) f d (omega arith) j;
      }
      first h f false e = record {
        most = omega (arith, n.most);
        below = λ d i. n.below d (omega arith);
        past = λ d i j. before-none last e d (omega arith) j;
      }

      second : 3 ≤ left → test (last + 2 * quarter) ≡ false → (t : Bool) → test (last + quarter) ≡ t
          → Narrowed test (length l) (low + (if (test last) quarter + if t quarter + 0)) (left - 3 * quarter)
      second h f true e =
          rw (before-all (last + quarter) (omega (arith, n.most)) e last (omega arith))
          (record {
            most = omega (arith, n.most);
            below = λ d i. before-all (last + quarter) (omega (arith, n.most)) e d (omega arith);
            past = λ d i j. before-none (last + 2 * quarter) f d (omega arith) j;
          })
      second h f false e = first h e (test last) refl

      third : 3 ≤ left → (t : Bool) → test (last + 2 * quarter) ≡ t
          → Narrowed test (length l) (low + (if (test last) quarter + if (test (last + quarter)) quarter + if t quarter)) (left - 3 * quarter)
      third h true e =
          rw (before-all (last + 2 * quarter) (omega (arith, n.most)) e last (omega arith), before-all (last + 2 * quarter) (omega (arith, n.most)) e (last + quarter) (omega arith))
          (record {
            most = omega (arith, n.most);
            below = λ d i. before-all (last + 2 * quarter) (omega (arith, n.most)) e d (omega arith);
            past = λ d i j. n.past d (omega arith) j;
          })
      third h false e = second h e (test (last + quarter)) refl
