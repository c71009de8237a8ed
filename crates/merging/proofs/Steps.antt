-- The steps of a merge: each keeps the list of the edges that are passed and shared, and their number in the second network.
use Prim.Native.Nat.{ℕ, zero, suc, ◌+◌, ◌-◌, ◌<◌, ◌≤◌}
use mathlib.Core.Bool.{Bool, cond, true, false}
use mathlib.Core.List.{List}
use mathlib.Core.Path.{◌≡◌, refl, sym, ap, ◌∙◌}
use native.Mathlib.Decide.{dec_lt, ℕ_discrete}
use native.Mathlib.Nat.{add-zero}
use native.Mathlib.Omega.{arith}
use borrow.Author.Tests.{le-leb, lt-leb}
use lib.Dec.{eqb, leb}
use lib.ListN.{get_or}
use Rattle.graph.specs.Range.{sum, if}
use Rattle.graph.specs.Graph.{Graph}
use Rattle.graph.proofs.Sums.{sum-next, sum-after, sum-none}
use Rattle.merging.specs.declared.walks.Walk.{Walk}
use Rattle.merging.specs.Shared.{is_one, is_shared, shared}
use Rattle.merging.specs.Merging.{mark_of, Run, PutRun, Picked, Merging, Merged, stepped}
use Rattle.merging.proofs.Shares.{one-mark, one-turned, shared-holds}
use Rattle.merging.proofs.Walking.{Rising, turned, pass-first, first-unshared, pass-both, rest-unshared}
use Rattle.merging.proofs.Picks.{picked-begin, picked-same, picked-yes, picked-no, picked-rest}

-- at first nothing is passed
pub merging-begin : (g h : Graph) (l : List ℕ) → Merging g h l 0 0 0
unfolding sum
merging-begin g h l =
    record {
      walked = record { first_most = omega arith; second_most = omega arith; first = λ d e p. absurd (omega arith); second = λ d e p q r. absurd (omega arith) };
      picked = picked-begin _ l;
      counted = refl;
      few = omega arith;
    }

-- a sum of which the later terms are 0
sum-rest : (f : ℕ → ℕ) (i n : ℕ) → i ≤ n → ((d : ℕ) → i ≤ d → d < n → f d ≡ 0) → sum f n ≡ sum f i
sum-rest f i n l z =
    let s : n ≡ i + (n - i) = omega arith in
    ap (sum f) s ∙ sum-after f i (n - i) ∙ omega (arith, sum-none (λ d. f (i + d)) (n - i) (λ d h. z (i + d) (omega arith) (omega arith)))

-- a list with the same front tells the same
pub merging-same : {g h : Graph} {l : List ℕ} (l' : List ℕ) {i j k : ℕ} → ((e : ℕ) → e < k → get_or l' e 0 ≡ get_or l e 0) → Merging g h l i j k → Merging g h l' i j k
merging-same l' e r = record { walked = r.walked; picked = picked-same l' e r.picked; counted = r.counted; few = r.few }

module _ {g h : Graph} (a : Rising g) (b : Rising h) {l : List ℕ} {i j k : ℕ} (r : Merging g h l i j k) where
  module _ (m : i < g.size) (n : j < h.size) where
    -- two that are one link are passed, and the first of them is in the list where it stands next
    merging-one : get_or l k 0 ≡ i → is_one g h i j ≡ true → Merging g h l (i + 1) (j + 1) (k + 1)
    merging-one s o =
        record {
          walked = pass-both a b r.walked m n (one-mark g h i j o);
          picked = picked-yes r.picked s ((shared-holds g h i).1 (j, n, o));
          counted = omega (arith, r.counted, sum-next (λ e. if (is_shared h g e) 1) j, ap (λ b. if b 1) ((shared-holds h g j).1 (i, m, one-turned h g j i ∙ o)));
          few = omega (arith, r.few);
        }

    -- of two that are not, the one that does not come after the other is passed
    module _ (o : is_one g h i j ≡ false) where
      -- an edge of the first,
      merging-first : mark_of g i ≤ mark_of h j → Merging g h l (i + 1) j k
      merging-first p =
          record {
            walked = pass-first a b r.walked m n p o;
            picked = picked-no r.picked (first-unshared a b r.walked m n p o);
            counted = r.counted;
            few = omega (arith, r.few);
          }

      -- of the second,
      merging-second : mark_of h j ≤ mark_of g i → Merging g h l i (j + 1) k
      merging-second p =
          let t = one-turned h g j i ∙ o in
          record {
            walked = turned (pass-first b a (turned r.walked) n m p t);
            picked = r.picked;
            counted = omega (arith, r.counted, sum-next (λ e. if (is_shared h g e) 1) j, ap (λ b. if b 1) (first-unshared b a (turned r.walked) n m p t));
            few = r.few;
          }

      -- or both
      merging-neither : mark_of g i ≡ mark_of h j → Merging g h l (i + 1) (j + 1) k
      merging-neither p =
          record {
            walked = pass-both a b r.walked m n p;
            picked = (merging-first (omega arith)).picked;
            counted = (merging-second (omega arith)).counted;
            few = omega (arith, r.few);
          }

    -- so the tests of the marks tell which are passed, and an edge that stands next in the list is counted where it is one link with the other
    pub merging-step : get_or l k 0 ≡ i → Merging g h l (i + if (leb (mark_of g i) (mark_of h j)) 1) (j + if (leb (mark_of h j) (mark_of g i)) 1) (k + if (is_one g h i j) 1)
    merging-step s = go (is_one g h i j) refl
      where
        u : ℕ
        u = mark_of g i

        v : ℕ
        v = mark_of h j

        go : (one : Bool) → is_one g h i j ≡ one → Merging g h l (i + if (leb u v) 1) (j + if (leb v u) 1) (k + if one 1)
        go true o = let q = one-mark g h i j o in rw (le-leb u v (omega arith), le-leb v u (omega arith)) (merging-one s o)
        go false o =
            elim (dec_lt u v) [
              | yes p ↦ rw (le-leb u v (omega arith), lt-leb v u p, add-zero j, add-zero k) (merging-first o (omega arith))
              | no p ↦ elim (dec_lt v u) [
                | yes q ↦ rw (lt-leb u v q, le-leb v u (omega arith), add-zero i, add-zero k) (merging-second o (omega arith))
                | no q ↦ rw (le-leb u v (omega arith), le-leb v u (omega arith), add-zero k) (merging-neither o (omega arith))
              ]
            ]

  -- where one of the two is passed whole
  module _ (over : i < g.size → j < h.size → ⊥) where
    -- all edges that are shared are in the list,
    pub merging-picked : Picked (is_shared g h) g.size l k
    merging-picked = picked-rest g.size r.walked.first_most (rest-unshared a b r.walked over) r.picked

    -- and counted
    pub merging-counted : k ≡ shared h g
    merging-counted =
        r.counted ∙ sym (sum-rest (λ e. if (is_shared h g e) 1) j h.size r.walked.second_most (λ d p q. ap (λ b. if b 1) (rest-unshared b a (turned r.walked) (λ m n. over n m) d p q)))

-- one edge more of a run
pub run-next : {g h : Graph} {d e n : ℕ} → Run g h d e n → d + n < g.size → e + n < h.size → is_one g h (d + n) (e + n) ≡ true → Run g h d e (n + 1)
run-next {n = n} r l m o =
    record {
      first_most = omega arith;
      second_most = omega arith;
      one = λ i h. elim (ℕ_discrete i n) [ yes q ↦ rw q o | no q ↦ r.one i (omega arith) ];
    }

-- a run of edges that are one link each is passed, where it stands next in the list
pub merging-run : {g h : Graph} → Rising g → Rising h → {l l' : List ℕ} {i j k : ℕ} → Merging g h l i j k → (n : ℕ) → Run g h i j n → PutRun l l' k i n
    → Merging g h l' (i + n) (j + n) (k + n)
merging-run {g} {h} a b {l} {l'} {i} {j} {k} r n t p = steps n (omega arith)
  where
    steps : (q : ℕ) → q ≤ n → Merging g h l' (i + q) (j + q) (k + q)
    steps zero e = rw (add-zero i, add-zero j, add-zero k) (merging-same l' p.front r)
    steps (suc q) e =
        let next : i + suc q ≡ i + q + 1 = omega arith in
        let other : j + suc q ≡ j + q + 1 = omega arith in
        let place : k + suc q ≡ k + q + 1 = omega arith in
        rw (next, other, place) (merging-one a b (steps q (omega arith)) (omega (arith, t.first_most)) (omega (arith, t.second_most)) (p.put q (omega arith)) (t.one q (omega arith)))

-- a step is merged, where its edge is put into the list and its marks are those of the edges in hand
pub merged-step : {g h : Graph} → Rising g → Rising h → {l l' : List ℕ} {w : Walk} (first second : ℕ) → Merged g h l w → w.first < g.size → w.second < h.size → PutRun l l' w.both w.first 1
    → first ≡ mark_of g w.first → second ≡ mark_of h w.second → eqb first second ≡ is_one g h w.first w.second → Merged g h l' (stepped w first second)
merged-step {g} {h} a b {l} {l'} {w} first second r m n p q t o =
    let put : get_or l' w.both 0 ≡ w.first = rw (add-zero w.both, add-zero w.first) at (p.put 0 (omega arith)) in
    rw (o, q, t) (merging-step a b (merging-same l' p.front r) m n put)

-- the mark that is in hand after a step: that of the next edge where the one in hand is passed
pub mark-after : (g : Graph) (d after : ℕ) (passed : Bool) {mark : ℕ} → mark ≡ mark_of g d → after ≡ mark_of g (d + 1) → cond passed after mark ≡ mark_of g (d + if passed 1)
mark-after g d after true p q = q
mark-after g d after false p q = rw (add-zero d) p
