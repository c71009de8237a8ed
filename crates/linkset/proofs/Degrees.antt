-- How many links have a source: the difference of two places, each of which is sought near a place among these links.
use Prim.Native.Nat.{ℕ, ◌+◌, ◌-◌, ◌<◌, ◌≤◌, min}
use mathlib.Core.Bool.{Bool, true}
use mathlib.Core.Logic.{◌⊎◌, inl, inr, ◌≢◌}
use mathlib.Core.Path.{◌≡◌}
use native.Mathlib.Decide.{dec_lt}
use native.Mathlib.Numerals.{add-one}
use native.Mathlib.Omega.{arith}
use borrow.Author.Tests.{eq-eqb, lt-ltb, le-ltb}
use lib.Dec.{eqb, ltb}
use lib.ListN.{length}
use Rattle.std.proofs.lemmas.Bool.Decides.{nat_tests}
use Rattle.graph.specs.Range.{sum, if}
use Rattle.graph.proofs.Tests.{if-suc}
use Rattle.graph.proofs.Sums.{sum-ext, sum-add, sum-after, sum-front, sum-none, sum_ones}
use Rattle.linkset.specs.Tables.{Pairs, source_at, Sorted, Parted, Place, Narrowed, earlier, degree_of, most_of_source}
use Rattle.linkset.proofs.Places.{before-source, from-source, source-ascends}

-- a test that holds of the first r of m numbers and of no other holds r times
sum-parted : (test : ℕ → Bool) (m r : ℕ) → Parted test m r → sum (λ e. if (test e) 1) m ≡ r
sum-parted test m r p =
    let z : r + (m - r) ≡ m = omega (arith, p.most) in
    omega (
      arith,
      rw z at (sum-after (λ e. if (test e) 1) r (m - r)),
      sum-ext {f = λ e. if (test e) 1} {h = λ e. 1} r (λ e h. rw (p.before e h)),
      sum_ones r,
      sum-none (λ e. if (test (r + e)) 1) (m - r) (λ e h. rw (p.from (r + e) (omega arith) (omega arith))),
    )

-- one that holds of k numbers in a row below m holds k times at the least
sum-run : (test : ℕ → Bool) (m d k : ℕ) → d + k ≤ m → ((e : ℕ) → d ≤ e → e < d + k → test e ≡ true) → k ≤ sum (λ e. if (test e) 1) m
sum-run test m d k l holds =
    omega (
      arith,
      sum-front (λ e. if (test e) 1) (d + k) m l,
      sum-after (λ e. if (test e) 1) d k,
      sum-ext {f = λ e. if (test (d + e)) 1} {h = λ e. 1} k (λ e h. rw (holds (d + e) (omega arith) (omega arith))),
      sum_ones k,
    )

-- a number is below u + 1 where it is below u or u itself
if-next : (t u : ℕ) → if (ltb t (u + 1)) 1 ≡ if (ltb t u) 1 + if (eqb t u) 1
if-next t u = rw (add-one u) (if-suc t u)

module _ (l : Pairs) (u : ℕ) where
  -- the links of a source stand from where links have a source below it no more up to where they have one below the next
  pub degree-between : (p q : ℕ) → Parted (earlier 1 l u 0) (length l) p → Parted (earlier 1 l (u + 1) 0) (length l) q → p + degree_of l u ≡ q
  degree-between p q first past =
      omega (
        arith,
        sum-parted (λ e. ltb (source_at l e) u) (length l) p first,
        sum-parted (λ e. ltb (source_at l e) (u + 1)) (length l) q past,
        sum-ext (length l) (λ e k. if-next (source_at l e) u),
        sum-add (λ e. if (ltb (source_at l e) u) 1) (λ e. if (eqb (source_at l e) u) 1) (length l),
      )

  module _ (s : Sorted l) (few : degree_of l u ≤ most_of_source) where
    -- two of them are not far apart
    apart : (d e : ℕ) → d ≤ e → e < length l → source_at l d ≡ u → source_at l e ≡ u → e < d + most_of_source
    apart d e h k p q =
        omega (
          arith,
          few,
          sum-run (λ i. eqb (source_at l i) u) (length l) d (e - d + 1) (omega arith) (λ i f g.
              eq-eqb _ u (omega (arith, source-ascends l d i s f (omega arith), source-ascends l i e s (omega arith) k))),
        )

    module _ (v r : ℕ) (at : Place l u v r) where
      own-before : (e : ℕ) → e < r → source_at l e ≤ u
      own-before e h = before-source l u v e (at.before e h)

      own-from : (e : ℕ) → r ≤ e → e < length l → u ≤ source_at l e
      own-from e h k = from-source l u v e (at.from e h k)

      -- the first of them is sought where below no link is theirs, and past it each up to the place is
      begins : (low left : ℕ) → low + left ≤ r → ((e : ℕ) → e < low → source_at l e ≢ u) → ((e : ℕ) → low + left ≤ e → e < r → u ≤ source_at l e)
          → Narrowed (earlier 1 l u 0) (length l) low left
      begins low left h other own = record {
        most = omega (arith, at.most);
        below = λ e k. lt-ltb _ u (omega (arith, own-before e (omega arith), other e k));
        past = λ e k i. le-ltb _ u (elim (dec_lt e r) [ yes j ↦ own e k j | no j ↦ own-from e (omega arith) i ]);
      }

      -- so near the place, where the fourth before it is another's,
      pub begins-near : (r < 4) ⊎ (source_at l (r - 4) ≢ u) → Narrowed (earlier 1 l u 0) (length l) (r - 3) (r - (r - 3))
      begins-near other = begins (r - 3) (r - (r - 3)) (omega arith) (past other) (λ e h k. absurd (omega arith))
        where
          past : (r < 4) ⊎ (source_at l (r - 4) ≢ u) → (e : ℕ) → e < r - 3 → source_at l e ≢ u
          past (inl k) e h q = omega arith
          past (inr k) e h q = k (omega (arith, q, own-before (r - 4) (omega arith), source-ascends l e (r - 4) s (omega arith) (omega (arith, at.most))))

      -- or farther off, where it is theirs
      pub begins-far : 4 ≤ r → source_at l (r - 4) ≡ u → Narrowed (earlier 1 l u 0) (length l) (r - most_of_source) (r - 4 - (r - most_of_source))
      begins-far four own =
          begins (r - most_of_source) (r - 4 - (r - most_of_source)) (omega arith)
          (λ e h q. omega (
            arith,
            apart e (r - 1) (omega arith) (omega (arith, at.most)) q
                (omega (arith, own-before (r - 1) (omega arith), source-ascends l e (r - 1) s (omega arith) (omega (arith, at.most)))),
          ))
          (λ e h k. omega (arith, own, source-ascends l (r - 4) e s (omega arith) (omega (arith, at.most))))

      -- the last of them is sought where up to the place each is theirs, and past it none
      ends : (low left : ℕ) → r ≤ low → low + left ≤ length l → ((e : ℕ) → r ≤ e → e < low → source_at l e ≤ u) → ((e : ℕ) → low + left ≤ e → e < length l → source_at l e ≢ u)
          → Narrowed (earlier 1 l (u + 1) 0) (length l) low left
      ends low left h h' own other = record {
        most = h';
        below = λ e k. lt-ltb _ (u + 1) (elim (dec_lt e r) [ yes j ↦ omega (arith, own-before e j) | no j ↦ omega (arith, own e (omega arith) k) ]);
        past = λ e k i. le-ltb _ (u + 1) (omega (arith, own-from e (omega arith) i, other e k i));
      }

      -- near the place,
      pub ends-near : (length l < r + 4) ⊎ (source_at l (r + 3) ≢ u) → Narrowed (earlier 1 l (u + 1) 0) (length l) r (min (length l) (r + 3) - r)
      ends-near other = grind (arith, nat_tests)

      -- or farther off
      pub ends-far : r + 4 ≤ length l → source_at l (r + 3) ≡ u → Narrowed (earlier 1 l (u + 1) 0) (length l) (r + 4) (min (length l) (r + most_of_source) - (r + 4))
      ends-far four own =
          ends (r + 4) (min (length l) (r + most_of_source) - (r + 4)) (omega arith) (omega arith)
          (λ e k i. omega (arith, own, source-ascends l e (r + 3) s (omega arith) (omega arith)))
          (λ e k j q. omega (arith, apart r e (omega arith) j (omega (arith, q, own-from r (omega arith) (omega arith), source-ascends l r e s (omega arith) j)) q))
