-- A peel while what places need is raised, one place after the other: a place whose degree is not enough any more is pushed.
use Rattle.std.proofs.Common.{◌≡◌, Bool, ℕ, zero, suc, ◌+◌, ◌-◌, ◌*◌, ◌<◌, ◌≤◌, true, false, ◌&&◌, ltb, leb, ◌⊎◌, List, sym, refl, ◌∙◌, le_refl, add-zero, arith}
use Rattle.std.proofs.lemmas.Bool.Decides.{nat_tests}
use Rattle.std.specs.Int.{from_bool}
use mathlib.Core.Bool.{and-false}
use native.Mathlib.Decide.{dec_le}
use borrow.Author.Tests.{le-ltb, lt-leb}
use Rattle.graph.specs.Cover.{need}
use Rattle.peeling.specs.declared.Peel.{Peel}
use Rattle.peeling.specs.declared.Scope.{Scope}
use Rattle.peeling.specs.Peeling.{need_of, degree_of, queue_of, Peeling, Kept, Pushable, raised, side_left, pushed_by, pushed, with_queued}
use Rattle.peeling.specs.Recounts.{SideAt, OnSide}
use Rattle.peeling.proofs.Tables.{with-queued-degree}
use Rattle.peeling.proofs.Kept.{kept_same, degree-kept}
use Rattle.peeling.proofs.Totals.{total_kept}
use Rattle.peeling.proofs.Grown.{pushed-none, grown-one}
use Rattle.peeling.proofs.Pushes.{Step, step-put, queued-room, queued-stays, queued-grows, full-keeps, full-queue, full-undropped}
use Rattle.raising.specs.declared.Step.{Step as Raised}
use Rattle.raising.specs.Steps.{next_of, outgrown, Quiet, Raising, RaisedBy}

-- places that need the same are short alike
peel-needs : {n m : ℕ} {need need' : ℕ → ℕ} {w : List ℕ} {s : Peel} → ((p : ℕ) → p < 2 * n → need p ≡ need' p) → Peeling n m need w s → Peeling n m need' w s
peel-needs {w = w} e k =
    record {
      queued = queued-stays record { queued = k.queued; kept = kept_same w; more = λ p b. rw (e p b) (le_refl _); same = λ j b. refl } (λ p b. rw (e p b));
      degrees = k.degrees;
      total = k.total;
    }

-- a place that is put past the queue's tail is no part of the queue
peel-put : {n m : ℕ} {need : ℕ → ℕ} {w : List ℕ} {s : Peel} (q : ℕ) → Peeling n m need w s → Peeling n m need (with_queued n m w s.tail q) s
peel-put {n} {m} {need} {w} {s} q k =
    record {
      queued = queued-stays put (λ p b. rw (with-queued-degree n m w s.tail q p b));
      degrees = λ p b. with-queued-degree n m w s.tail q p b ∙ k.degrees p b ∙ degree-kept k.queued.rows put.kept s.head p before b;
      total = total_kept k.total put.kept before refl refl;
    }
  where
    put : Step n m need need w (with_queued n m w s.tail q) s
    put = step-put (record { queued = k.queued; kept = kept_same w; more = λ p b. le_refl _; same = λ j b. refl }) q

    before : (i : ℕ) → i < s.head → queue_of n m w i ≡ queue_of n m (with_queued n m w s.tail q) i
    before i b = put.same i (omega (arith, k.queued.waiting))

-- greater numbers are needed of greater x and y
pub need-more : (n : ℕ) {x y x' y' : ℕ} → x ≤ x' → y ≤ y' → (p : ℕ) → need n x y p ≤ need n x' y' p
need-more n a b p = grind (arith, nat_tests)

-- a side, which starts at 0 or at n, ends within the 2n places
pub side-ends : {n first : ℕ} → (first ≡ 0) ⊎ (first ≡ n) → first + n ≤ 2 * n
side-ends s = grind arith

-- all its places are before n or from n on
pub side-alike : {n first p : ℕ} → (first ≡ 0) ⊎ (first ≡ n) → first ≤ p → p < first + n → ltb first n ≡ ltb p n
side-alike s l h = grind (arith, nat_tests)

-- so they need the same
pub need-side : (n x y : ℕ) {first p : ℕ} → (first ≡ 0) ⊎ (first ≡ n) → first ≤ p → p < first + n → need n x y p ≡ need n x y first
need-side n x y s l h = rw (side-alike s l h)

-- at first a peel goes by the old numbers
pub raise-begins : {n m : ℕ} (old new : ℕ → ℕ) {w : List ℕ} {s : Peel} → Peeling n m old w s → Peeling n m (raised old new 0) w s
raise-begins old new = peel-needs (λ p l. grind (arith, nat_tests))

-- and past all places by the new ones
pub raise-ends : {n m : ℕ} (old new : ℕ → ℕ) {w : List ℕ} {s : Peel} (i : ℕ) → 2 * n ≤ i → Peeling n m (raised old new i) w s → Peeling n m new w s
raise-ends old new i l = peel-needs (λ p b. grind (arith, nat_tests))

-- places that need what they needed are passed over
pub raise-skips : {n m : ℕ} (old new : ℕ → ℕ) {w : List ℕ} {s : Peel} {i j : ℕ} → i ≤ j → ((p : ℕ) → i ≤ p → p < j → old p ≡ new p)
    → Peeling n m (raised old new i) w s → Peeling n m (raised old new j) w s
raise-skips old new {i = i} {j} l e = peel-needs (λ p b. same p)
  where
    same : (p : ℕ) → raised old new i p ≡ raised old new j p
    same p = grind (arith, nat_tests, e p)

module _ {n m : ℕ} (old new : ℕ → ℕ) {w : List ℕ} {s : Peel} (i : ℕ) (l : i < 2 * n) (more : old i ≤ new i) (k : Peeling n m (raised old new i) w s) where
  -- no place needs less than before
  grown : (p : ℕ) → p < 2 * n → raised old new i p ≤ raised old new (i + 1) p
  grown p b = grind (arith, nat_tests)

  -- a step that changes this one need, and nothing in the table
  step : Step n m (raised old new i) (raised old new (i + 1)) w w s
  step = record { queued = k.queued; kept = kept_same w; more = grown; same = λ j b. refl }

  -- place i is short as it was, or has enough as it had, where its degree is not both enough for the old number and too small for the new one
  pub raise-left : (leb (old i) (degree_of n m w i) && ltb (degree_of n m w i) (new i)) ≡ false → Peeling n m (raised old new (i + 1)) w s
  raise-left e = record { queued = queued-stays step (λ p b. grind (arith, nat_tests)); degrees = k.degrees; total = k.total }

  -- place i becomes short, and is pushed
  module _ (enough : old i ≤ degree_of n m w i) (less : degree_of n m w i < new i) where
    -- it was not short before
    was-enough : leb (raised old new i i) (degree_of n m w i) ≡ true
    was-enough = grind (arith, nat_tests)

    -- so there is room for it
    pub raise-room : Pushable n s i
    raise-room = queued-room k.queued i l was-enough

    -- the store keeps the rows
    raise-keeps : Kept n m w (with_queued n m w s.tail i)
    raise-keeps = full-keeps step i l was-enough

    -- and pushes the place
    raise-pushes : Peeling n m (raised old new (i + 1)) (with_queued n m w s.tail i) (pushed n s i)
    raise-pushes =
        record {
          queued =
              queued-grows step i l was-enough
              (grind (arith, nat_tests))
              (rw (k.degrees i l) (le_refl _))
              (λ p b q. grind (arith, nat_tests));
          degrees = λ p b. with-queued-degree n m w s.tail i p b ∙ k.degrees p b ∙ full-undropped step i l was-enough p b;
          total = total_kept k.total raise-keeps (λ j b. full-queue step i l was-enough j (omega (arith, k.queued.waiting))) refl refl;
        }

-- so are d places in a row
pub raise-quiet : {n m : ℕ} (old new : ℕ → ℕ) {w : List ℕ} {s : Peel} (i d j : ℕ) → j ≡ i + d → j ≤ 2 * n → ((p : ℕ) → old p ≤ new p)
    → ((p : ℕ) → i ≤ p → p < j → (leb (old p) (degree_of n m w p) && ltb (degree_of n m w p) (new p)) ≡ false)
    → Peeling n m (raised old new i) w s → Peeling n m (raised old new j) w s
raise-quiet old new {w} {s} i zero j e b more quiet k = rw (last) k
  where
    last : j ≡ i
    last = omega (arith, e)
raise-quiet old new {w} {s} i (suc d) j e b more quiet k =
    rw next (raise-left old new (i + d) (omega (arith, e, b)) (more (i + d))
    (raise-quiet old new i d (i + d) refl (omega (arith, e, b)) more (λ p l h. quiet p l (omega (arith, e, h))) k)
    (quiet (i + d) (omega arith) (omega (arith, e))))
  where
    next : j ≡ i + d + 1
    next = omega (arith, e)

-- a degree that is past what was needed, where it is, by no less than what is needed rises, is not enough before and too small after
pub past-both : (more nearest : ℕ) {old new degree : ℕ} → old < new → more ≡ new - old → more ≤ nearest → (old ≤ degree → nearest ≤ degree - old)
    → (leb old degree && ltb degree new) ≡ false
past-both more nearest {old} {new} {degree} r e l near = elim (dec_le old degree) [
  | yes h ↦ rw (le-ltb degree new (omega (arith, r, e, l, near h))) (and-false _)
  | no h ↦ rw (lt-leb old degree (omega (arith, h))) refl
]

-- a step raises the needs of one scope to those of another
module _ (t : Raised) where
  abbrev c : Scope
  c = t.scope

  abbrev d : Scope
  d = next_of t

  -- where none of some places of a side falls short, none is pushed
  pub raise-block : {first i j : ℕ} {w : List ℕ} {s : Peel} → SideAt c.extent.order first → first ≤ i → i ≤ j → j ≤ first + c.extent.order → Quiet t first i j w
      → Raising t i w s → Raising t j w s
  raise-block {first} {i} {j} {w} side l m h quiet =
      raise-quiet _ _ i (j - i) j (omega (arith, m)) (omega (arith, h, side-ends side)) (need-more c.extent.order t.more.0 t.more.1)
      (λ p a b. none p (omega (arith, l, a)) (omega (arith, h, b)) (quiet p a b))
    where
      none : (p : ℕ) → first ≤ p → p < first + c.extent.order → outgrown t first (degree_of c.extent.order c.extent.size w p) ≡ false
          → (leb (need_of c p) (degree_of c.extent.order c.extent.size w p) && ltb (degree_of c.extent.order c.extent.size w p) (need_of d p)) ≡ false
      none p a b = rw (need-side c.extent.order c.x c.y side a b, need-side c.extent.order d.x d.y side a b) (λ q. q)

  -- so many places of a side are in the queue before the first of some is looked at
  pub raised-begins : (first : ℕ) {i : ℕ} {w : List ℕ} {s : Peel} → Raising t i w s → RaisedBy t first i w s 0
  raised-begins first {s = s} k = record { peeling = rw (pushed-none c.extent.order first s) k; few = omega arith }

  -- A place of the side that begins at first, which needs what the first one needs. Its degree is g.
  module _ {first i g count : ℕ} {w : List ℕ} {s : Peel} (side : SideAt c.extent.order first) (o : OnSide c.extent.order first i)
      (k : RaisedBy t first i w s count) (q : g ≡ degree_of c.extent.order c.extent.size w i) where
    -- it is one of the 2n
    inside : i < 2 * c.extent.order
    inside = omega (arith, side-ends side)

    -- it does not need less than before
    more : need_of c i ≤ need_of d i
    more = need-more c.extent.order t.more.0 t.more.1 i

    -- the test is whether its degree is enough for the old need, and not for the new one
    test : (leb (need_of c first) g && ltb g (need_of d first))
        ≡ (leb (need_of c i) (degree_of c.extent.order c.extent.size w i) && ltb (degree_of c.extent.order c.extent.size w i) (need_of d i))
    test = rw (q, need-side c.extent.order c.x c.y side o.0 o.1, need-side c.extent.order d.x d.y side o.0 o.1)

    -- where it does not hold the place is no part of the queue, though it was put past the tail
    passes : (leb (need_of c first) g && ltb g (need_of d first)) ≡ false → RaisedBy t first (i + 1) (with_queued c.extent.order c.extent.size w (s.tail + count) i) s count
    passes h = record { peeling = peel-put i (raise-left _ _ i inside more k.peeling (sym test ∙ h)); few = k.few }

    module _ (h : (leb (need_of c first) g && ltb g (need_of d first)) ≡ true) where
      -- where it holds the degree was enough
      enough : need_of c i ≤ degree_of c.extent.order c.extent.size w i
      enough = grind (arith, nat_tests, test)

      -- and is so no more
      less : degree_of c.extent.order c.extent.size w i < need_of d i
      less = grind (arith, nat_tests, test)

      -- so it is one more of the side
      one : (pushed c.extent.order (pushed_by c.extent.order s first count) i ≡ pushed_by c.extent.order s first (count + 1))
          × (count + 1 ≤ side_left c.extent.order s first)
      one = grown-one c.extent.order first count i s k.few (sym (side-alike side o.0 o.1)) (raise-room _ _ i inside more k.peeling enough less)

      -- and the place is pushed
      grows : RaisedBy t first (i + 1) (with_queued c.extent.order c.extent.size w (s.tail + count) i) s (count + 1)
      grows =
          record {
            peeling = rw one.0 at (raise-pushes _ _ i inside more k.peeling enough less);
            few = one.1;
          }

    -- so one more is pushed where the test holds
    pub raised-next : (b : Bool) → b ≡ (leb (need_of c first) g && ltb g (need_of d first))
        → RaisedBy t first (i + 1) (with_queued c.extent.order c.extent.size w (s.tail + count) i) s (count + from_bool b)
    raised-next true e = grows (sym e)
    raised-next false e = rw (add-zero count) (passes (sym e))
