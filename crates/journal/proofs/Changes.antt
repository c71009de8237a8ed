-- What adding and withdrawing a link makes of the vouches given, of live and of due.
use Prim.Native.Nat.{ℕ, ◌+◌, ◌-◌, ◌*◌, ◌<◌, ◌≤◌}
use mathlib.Core.Bool.{Bool, true, false, not, cond, ◌&&◌, ◌||◌}
use mathlib.Core.Logic.{◌≢◌}
use mathlib.Core.Path.{◌≡◌, refl, sym, ap, ◌∙◌}
use native.Mathlib.Decide.{ℕ_discrete, dec_lt, dec_le}
use native.Mathlib.Omega.{arith}
use borrow.Author.Tests.{eq-eqb, ne_eqb, lt-ltb, le-ltb, le-leb, lt-leb}
use lib.Dec.{ltb, leb}
use Rattle.graph.specs.Range.{sum, if}
use Rattle.graph.proofs.Sums.{sum-ext, sum-zero, sum-times, sum_ones, term-le-sum}
use Rattle.graph.proofs.Degrees.{without as others, sum-without}
use Rattle.linkset.specs.Links.{Links, empty, is, with, without}
use Rattle.linkset.proofs.Sets.{is_same}
use Rattle.journal.specs.Journal.{given, live, due}

-- two sums of which the terms differ in one place only
sum-change : (f h : ℕ → ℕ) (n a d e : ℕ) → a < n → ((u : ℕ) → u < n → u ≢ a → f u ≡ h u) → f a + d ≡ h a + e → sum f n + d ≡ sum h n + e
sum-change f h n a d e l same at =
    omega (
      arith,
      at,
      sum-without f (λ u. true) n a l refl,
      sum-without h (λ u. true) n a l refl,
      sum-ext {f = λ u. if (others (λ w. true) a u) (f u)} {h = λ u. if (others (λ w. true) a u) (h u)} n
          (λ u k. elim (ℕ_discrete u a) [ yes q ↦ rw (eq-eqb u a q) | no q ↦ rw (ne_eqb u a q) (same u k q) ]),
    )

-- sets of the same links have the same totals
module _ (n : ℕ) (S S' : Links) (same : (u v : ℕ) → S u v ≡ S' u v) where
  given-same : (u : ℕ) → given n S u ≡ given n S' u
  given-same u = sum-ext n (λ v l. ap (λ t. if t 1) (same u v))

  live-same : live n S ≡ live n S'
  unfolding live
  live-same = sum-ext n (λ u l. given-same u)

  due-same : due n S ≡ due n S'
  unfolding due
  due-same = sum-ext n (λ u l. ap (λ k. 4 - k) (given-same u))

module _ (n : ℕ) (S : Links) (a b : ℕ) (ha : a < n) (hb : b < n) where
  -- another voucher has given as many
  pub given-with-other : (u : ℕ) → u ≢ a → given n (with S a b) u ≡ given n S u
  given-with-other u p = sum-ext n (λ v l. rw (ne_eqb u a p))

  module _ (absent : S a b ≡ false) where
    -- the voucher has given one more
    pub given-with : given n (with S a b) a ≡ given n S a + 1
    given-with =
        omega (
          arith,
          sum-change (λ v. if (with S a b a v) 1) (λ v. if (S a v) 1) n b 0 1 hb
              (λ v l p. rw (ne_eqb v b p, eq-eqb a a refl)) (rw (eq-eqb a a refl, eq-eqb b b refl, absent)),
        )

    -- there is one link more
    pub live-with : live n (with S a b) ≡ live n S + 1
    unfolding live
    live-with = omega (arith, sum-change (given n (with S a b)) (given n S) n a 0 1 ha (λ u l p. given-with-other u p) (omega (arith, given-with)))

    -- and one less is due where the voucher had fewer than four
    pub due-with : due n (with S a b) + if (ltb (given n S a) 4) 1 ≡ due n S
    unfolding due
    due-with =
        omega (arith, sum-change (λ u. 4 - given n (with S a b) u) (λ u. 4 - given n S u) n a (if (ltb (given n S a) 4) 1) 0 ha (λ u l p. rw (given-with-other u p)) at)
      where
        at : (4 - given n (with S a b) a) + if (ltb (given n S a) 4) 1 ≡ (4 - given n S a) + 0
        at = elim (dec_lt (given n S a) 4) [ yes l ↦ rw (lt-ltb _ _ l, given-with) (omega arith) | no l ↦ rw (le-ltb (given n S a) 4 (omega arith), given-with) (omega arith) ]

module _ (n : ℕ) (S : Links) (a b : ℕ) (ha : a < n) (hb : b < n) (present : S a b ≡ true) where
  -- a link that is withdrawn may be put back: then the set is as it was
  put-back : (u v : ℕ) → with (without S a b) a b u v ≡ S u v
  put-back u v = go (is a b u v) refl
    where
      go : (x : Bool) → is a b u v ≡ x → (x || (not x && S u v)) ≡ S u v
      go true e = let (p, q) = is_same a b u v e in rw (p, q) (sym present)
      go false e = refl

  gone : without S a b a b ≡ false
  gone = rw (eq-eqb a a refl, eq-eqb b b refl)

  -- so what an addition does a withdrawal undoes: the voucher has given one less,
  pub given-without : given n (without S a b) a + 1 ≡ given n S a
  given-without = sym (given-with n (without S a b) a b ha hb gone) ∙ given-same n _ S put-back a

  -- another one as many,
  pub given-without-other : (u : ℕ) → u ≢ a → given n (without S a b) u ≡ given n S u
  given-without-other u p = sym (given-with-other n (without S a b) a b ha hb u p) ∙ given-same n _ S put-back u

  -- there is one link less,
  pub live-without : live n (without S a b) + 1 ≡ live n S
  live-without = sym (live-with n (without S a b) a b ha hb gone) ∙ live-same n _ S put-back

  -- and one more is due where the voucher had at most four
  pub due-without : due n (without S a b) ≡ due n S + if (leb (given n S a) 4) 1
  due-without = sym (due-with n (without S a b) a b ha hb gone) ∙ rw (due-same n _ S put-back, ← given-without) (ap (λ t. due n S + if t 1) below)
    where
      below : ltb (given n (without S a b) a) 4 ≡ leb (given n (without S a b) a + 1) 4
      below = elim (dec_lt (given n (without S a b) a) 4) [ yes l ↦ rw (lt-ltb (given n (without S a b) a) 4 l, le-leb (given n (without S a b) a + 1) 4 (omega arith)) | no l ↦ rw (le-ltb (given n (without S a b) a) 4 (omega arith), lt-leb (given n (without S a b) a + 1) 4 (omega arith)) ]

-- without links nothing is live
pub live-empty : (n : ℕ) → live n empty ≡ 0
unfolding live
live-empty n = sum-ext n (λ u l. sum-zero n) ∙ sum-zero n

-- and four is due to each member
pub due-empty : (n : ℕ) → due n empty ≡ 4 * n
unfolding due
due-empty n = sum-ext {h = λ u. 4 * 1} n (λ u l. rw (sum-zero n)) ∙ sum-times 4 (λ u. 1) n ∙ ap (λ k. 4 * k) (sum_ones n)

-- what a member lacks to four is among what is due
pub lack-due : (n : ℕ) (S : Links) (u : ℕ) → u < n → 4 - given n S u ≤ due n S
unfolding due
lack-due n S u l = term-le-sum (λ u. 4 - given n S u) n u l

-- due after an addition, from what was due and what the voucher had given
pub due-added : (n : ℕ) (S : Links) (u v d g : ℕ) → u < n → v < n → S u v ≡ false → d ≡ due n S → g ≡ given n S u → cond (ltb g 4) (d - 1) d ≡ due n (with S u v)
due-added n S u v d g hu hv absent is from =
    let c : due n (with S u v) + if (ltb g 4) 1 ≡ due n S = rw from (due-with n S u v hu hv absent) in
    elim (dec_lt g 4) [
      | yes k ↦ let e : due n (with S u v) + 1 ≡ due n S = rw (lt-ltb g 4 k) at c in rw (lt-ltb g 4 k) (omega arith)
      | no k ↦ let e : due n (with S u v) + 0 ≡ due n S = rw (le-ltb g 4 (omega arith)) at c in rw (le-ltb g 4 (omega arith)) (omega arith)
    ]

-- and after a withdrawal
pub due-withdrawn : (n : ℕ) (S : Links) (u v d g : ℕ) → u < n → v < n → S u v ≡ true → d ≡ due n S → g ≡ given n S u → cond (leb g 4) (d + 1) d ≡ due n (without S u v)
due-withdrawn n S u v d g hu hv present is from =
    let c : due n (without S u v) ≡ due n S + if (leb g 4) 1 = rw from (due-without n S u v hu hv present) in
    elim (dec_le g 4) [
      | yes k ↦ let e : due n (without S u v) ≡ due n S + 1 = rw (le-leb g 4 k) at c in rw (le-leb g 4 k) (omega arith)
      | no k ↦ let e : due n (without S u v) ≡ due n S + 0 = rw (lt-leb g 4 (omega arith)) at c in rw (lt-leb g 4 (omega arith)) (omega arith)
    ]
