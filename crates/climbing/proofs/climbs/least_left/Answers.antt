use Rattle.std.proofs.Common.{◌≡◌, ℕ, ◌+◌, ◌-◌, ◌*◌, ◌<◌, ◌≤◌, Bool, true, cond, ◌&&◌, leb, ltb, min, List, Result, Ok, Err, take, drop, length, get_or, ap, sym, ◌∙◌, le_trans, arith, le-leb}
use native.Mathlib.Decide.{dec_lt}
use Rattle.std.proofs.lemmas.Bool.Decides.{nat_tests}
use borrow.Author.Tests.{lt-leb}
use Rattle.std.specs.Result.{OkIff, result_unwrap_or}
use Rattle.std.specs.declared.num.TryFromIntError.{TryFromIntError}
use Rattle.std.proofs.lemmas.List.{get_or-take, get_or-drop, length-take, length-take-le, length-drop}
use Rattle.graph.proofs.Tests.{and_both}
use Rattle.peeling.specs.declared.Scope.{Scope}
use Rattle.peeling.specs.Peeling.{need_of, degree_of}
use Rattle.climbing.specs.declared.Rise.{Rise}
use Rattle.climbing.specs.Climbs.{first_rising, end_rising, rising, rests}
use Rattle.climbing.proofs.Asks.{rising-range, rising-before, rising-between, rising-past}
use Rattle.climbing.proofs.Leasts.{Lowest, lowest-skips, lowest-next, lowest-shift, lowest-ends}
use Rattle.climbing.proofs.climbs.least_left.Goals as goal
use Rattle.climbing.proofs.climbs.least_left.Goals.{then-degree-enough, else-degree-enough}

-- the least of those from the first place that rises up to the end is the least of all that are left and rise
rests-lowest : (c : Scope) (rise : Rise) (w : List ℕ) (k : ℕ) {at first end least : ℕ} → at ≡ 2 * c.extent.order + 1 + 2 * c.extent.size
    → first ≡ first_rising c.extent.order rise → end ≡ end_rising c.extent.order rise → ((p : ℕ) → rising c.extent.order rise p ≡ true → need_of c p ≡ k)
    → Lowest (λ p. leb first p && leb k (get_or w (at + p) 0)) (λ p. get_or w (at + p) 0) end least
    → Lowest (rests c rise w) (degree_of c.extent.order c.extent.size w) (2 * c.extent.order) least
rests-lowest c rise w k {first = first} {end} a f e needed o =
    lowest-skips (omega (arith, e, (rising-range c.extent.order rise).1)) same (λ p l h. rw (rising-past c.extent.order rise p (omega (arith, e, l)) h)) (rw a at o)
  where
    same : (p : ℕ) → p < end → (leb first p && leb k (degree_of c.extent.order c.extent.size w p)) ≡ rests c rise w p
    same p l = grind (arith, nat_tests, rising-between c.extent.order rise p, rising-before c.extent.order rise p, needed p)

-- a place that is left and rises is one of these, and has at least k edges
rests-inside : (c : Scope) (rise : Rise) (w : List ℕ) (k : ℕ) {at first end : ℕ} → at ≡ 2 * c.extent.order + 1 + 2 * c.extent.size
    → first ≡ first_rising c.extent.order rise → end ≡ end_rising c.extent.order rise → ((p : ℕ) → rising c.extent.order rise p ≡ true → need_of c p ≡ k)
    → (p : ℕ) → p < 2 * c.extent.order → rests c rise w p ≡ true → (first ≤ p) × (p < end) × (k ≤ get_or w (at + p) 0)
rests-inside c rise w k a f e needed p l h = (
  grind (arith, nat_tests, rising-before c.extent.order rise p),
  grind (arith, nat_tests, rising-past c.extent.order rise p),
  rw a (grind (arith, nat_tests, needed p)),
)

-- the lesser of `least` and a degree that counts only where it is at least k
counts : (k d least counted : ℕ) → least < 65536 → (d < k → counted ≡ 65535) × (k ≤ d → counted ≡ d) → min least counted ≡ cond (leb k d && ltb d least) d least
counts k d least counted top h = grind (arith, nat_tests)

-- k in 16 bits, or the greatest number of these where it is greater
narrow : (r : Result ℕ TryFromIntError) (k u : ℕ) → OkIff r (k < 65536) k → u ≡ result_unwrap_or r 65535 → (u ≤ k) × (k < 65536 → u ≡ k)
narrow (Ok x) k u h e = (omega (arith, h.1), λ l. e ∙ h.1)
narrow (Err x) k u h e = elim (dec_lt k 65536) [ yes l ↦ absurd (h l) | no l ↦ (omega arith, λ l. absurd (h l)) ]

-- the entries that are looked at, and how many they are
entry : (w : List ℕ) (a n i : ℕ) → i < length (take n (drop a w)) → get_or (take n (drop a w)) i 0 ≡ get_or w (a + i) 0
entry w a n i h = get_or-take n (drop a w) i 0 (omega (arith, length-take n (drop a w))) ∙ get_or-drop a w i 0

size : (w : List ℕ) (a n : ℕ) → a + n ≤ length w → length (take n (drop a w)) ≡ n
size w a n h = length-take-le n (drop a w) (omega (arith, length-drop a w))

-- the least among them is the least among the places from the first that rises up to the end
placed : (w : List ℕ) (k at first end n least : ℕ) → first + n ≡ end → at + end ≤ length w
    → Lowest (λ p. leb k (get_or (take n (drop (at + first) w)) p 0)) (λ p. get_or (take n (drop (at + first) w)) p 0) n least
    → Lowest (λ p. leb first p && leb k (get_or w (at + p) 0)) (λ p. get_or w (at + p) 0) end least
placed w k at first end n least e long o =
    let all : Lowest Q (λ p. get_or w (at + p) 0) (first + n) least =
    lowest-shift first (λ i h. rw (le-leb first (first + i) (omega arith), value i h)) value (λ p h. rw (lt-leb first p h)) o in
    rw e at all
  where
    Q : ℕ → Bool
    Q p = leb first p && leb k (get_or w (at + p) 0)

    value : (i : ℕ) → i < n → get_or w (at + (first + i)) 0 ≡ get_or (take n (drop (at + first) w)) i 0
    value i h = ap (λ j. get_or w j 0) (omega arith) ∙ sym (entry w (at + first) n i (omega (arith, size w (at + first) n (omega arith))))

pub loop-degree-preserved : goal.loop-degree-preserved
loop-degree-preserved c =
    let o = c.loop-degree.invariant in
    let at = c.degrees_at-at.result + c.first.result in
    let degree = get_or (take (c.degrees_at-at.result + c.end.result - at) (drop at c.args.work.now)) c.loop-degree.degree-index 0 in
    let counted = c.before.before.if-degree-enough.counted in
    record {
      lowest =
          lowest-next o.lowest
          (rw (entry c.args.work.now _ _ c.loop-degree.degree-index c.loop-degree-test.true) (omega (arith, c.type_inv.work (at + c.loop-degree.degree-index))))
          (cc (counts c.unwrap_or-enough.result degree c.loop-degree.least counted o.fits (elim c.if-degree-enough.branch [
            | then-degree-enough w ↦ omega (arith, w.if-degree-enough.true, w.counted-is)
            | else-degree-enough w ↦ omega (arith, w.if-degree-enough.false, w.counted-is)
          ])));
      fits = omega (arith, o.fits);
    }

pub returns-clause-least : goal.returns-clause-least
returns-clause-least c =
    let a = c.args in
    let l = c.loop-degree in
    let s = c.requires.some in
    let at = c.degrees_at-at.ensures in
    let first = c.first.ensures in
    let end = c.end.ensures in
    let range = rising-range a.scope.extent.order a.rise in
    let long : c.degrees_at-at.result + c.end.result ≤ length a.work.now = omega (arith, range.0, range.1) in
    let n = c.degrees_at-at.result + c.end.result - (c.degrees_at-at.result + c.first.result) in
    let all : l.degree-index ≡ n = omega (arith, size a.work.now (c.degrees_at-at.result + c.first.result) n (omega (arith, range.0))) in
    let o = placed a.work.now c.unwrap_or-enough.result c.degrees_at-at.result c.first.result c.end.result n l.least (omega (arith, range.0)) long (rw all at l.invariant.lowest) in
    let enough = narrow c.try_from.result a.k _ c.try_from.ensures c.unwrap_or-enough.ensures in
    let (i, j, h) = rests-inside a.scope a.rise a.work.now a.k at first end c.requires.needed s.number s.below s.passes in
    let small = o.small s.number j (and_both (le-leb _ _ i) (le-leb _ _ (le_trans enough.0 h))) in
    let same : c.unwrap_or-enough.result ≡ a.k = enough.1 (omega arith) in
    rw c.from.ensures (lowest-ends (rests-lowest a.scope a.rise a.work.now a.k at first end c.requires.needed (rw same at o)) s)
