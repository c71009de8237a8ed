-- The degrees while a place is dropped. When the head goes past it they are as they were; then each place of its row loses its edge, so that a
-- degree and the weights passed are together what the degree was; and when the whole row is passed, each degree is the weight of the edges to places
-- not dropped.
use Prim.Native.Nat.{ℕ, ◌+◌, ◌-◌, ◌*◌, ◌<◌, ◌≤◌}
use mathlib.Core.Bool.{true, not}
use mathlib.Core.List.{List}
use mathlib.Core.Logic.{◌≢◌, inl, inr}
use mathlib.Core.Path.{◌≡◌, refl, sym, ap}
use native.Mathlib.Numerals.{add-one}
use native.Mathlib.Omega.{arith}
use Rattle.std.proofs.lemmas.Bool.Decides.{nat_tests}
use lib.Dec.{eqb, ltb}
use Rattle.graph.specs.Range.{sum, if}
use Rattle.graph.proofs.Monotone.{sum-part}
use Rattle.graph.proofs.Tests.{if-same}
use Rattle.graph.proofs.Degrees.{without}
use Rattle.graph.proofs.Linkage.{degree-without, degree-same}
use Rattle.peeling.specs.declared.Peel.{Peel}
use Rattle.peeling.specs.Peeling.{start_of, row_length, row_place, row_weight, degree_of, queue_of, entries, between, live, standing, Peeling, Dropping, Kept, undropped, past, with_degree}
use Rattle.peeling.specs.Recounts.{SideAt, OnSide}
use Rattle.peeling.proofs.Live.{live-suc}
use Rattle.peeling.proofs.Tables.{with-degree-same, with-degree-other, with-degree-queue}
use Rattle.peeling.proofs.Kept.{kept_set, between-kept, entries-kept, degree-kept}
use Rattle.peeling.proofs.Totals.{total-enough, total-drops}
use Rattle.peeling.proofs.Apart.{between-apart}

-- one entry more of a row
pub entries-suc : (n : ℕ) (w : List ℕ) (p k q : ℕ) → entries n w p (k + 1) q
    ≡ entries n w p k q + if (eqb (row_place n w (start_of w p + k)) q) (row_weight n w (start_of w p + k))
unfolding entries sum
entries-suc n w p k q = rw (add-one k)

-- a part of a row weighs no more than the row
pub entries-part : (n : ℕ) (w : List ℕ) (p k q : ℕ) → k ≤ row_length w p → entries n w p k q ≤ between n w p q
unfolding entries between
entries-part n w p k q l = sum-part (λ i. if (eqb (row_place n w (start_of w p + i)) q) (row_weight n w (start_of w p + i))) k (row_length w p) l

module _ {n m : ℕ} {need : ℕ → ℕ} {w : List ℕ} {s : Peel} (k : Peeling n m need w s) (l : s.head < s.tail) where
  -- at the head is a place
  pub first-inside : queue_of n m w s.head < 2 * n
  first-inside = k.queued.queue.inside s.head l

  -- that is not dropped
  first-stands : standing n m w s (queue_of n m w s.head) ≡ true
  first-stands = k.queued.queue.distinct s.head l

  -- and has the edges to places not dropped that its degree says
  first-degree : degree_of n m w (queue_of n m w s.head) ≡ undropped n m w s (queue_of n m w s.head)
  first-degree = k.degrees _ first-inside

  -- so the total is enough for it
  pub first-enough : degree_of n m w (queue_of n m w s.head) ≤ s.edges
  first-enough = total-enough k.total first-inside first-stands first-degree

-- the drop of the place at the head begins with the degrees as they were, when the head goes past it and the total falls by its degree
pub drop-begins : {n m : ℕ} {need : ℕ → ℕ} {w : List ℕ} {s : Peel} → Peeling n m need w s → s.head < s.tail → {q : ℕ} → q ≡ queue_of n m w s.head
    → Dropping n m need w (past n m w s) q 0
unfolding entries sum
drop-begins {n} {m} {need} {w} {s} k l {q} e =
    record {
      queued =
          record {
            rows = k.queued.rows;
            single = k.queued.single;
            waiting = omega arith;
            queue = k.queued.queue;
            sizes = record { sources = k.queued.sizes.sources; targets = k.queued.sizes.targets };
          };
      is-place = inside;
      degrees = λ p b. omega (
        arith,
        k.degrees p b,
        degree-without (between n w) (live (queue_of n m w) s.head) p q inside (rw e (k.queued.queue.distinct s.head l)),
        degree-same (between n w) {N = 2 * n} (λ r a. is-without r) p,
        k.queued.rows.symmetric p q b inside,
      );
      total = total-drops k.total (first-inside k l) (first-stands k l) (first-degree k l);
    }
  where
    -- it is a place
    inside : q < 2 * n
    inside = rw e (k.queued.queue.inside s.head l)

    -- and is no longer live
    is-without : (p : ℕ) → live (queue_of n m w) (s.head + 1) p ≡ without (live (queue_of n m w) s.head) q p
    is-without p = rw (add-one s.head, e) (live-suc (queue_of n m w) s.head p)

module _ {n m : ℕ} {need : ℕ → ℕ} {w : List ℕ} {s : Peel} {place k : ℕ} (d : Dropping n m need w s place k) (l : k < row_length w place) where
  -- the place in the next entry of the row
  abbrev pub other : ℕ
  other = row_place n w (start_of w place + k)

  -- and the weight
  abbrev pub loss : ℕ
  loss = row_weight n w (start_of w place + k)

  -- it is a place
  pub drop-inside : other < 2 * n
  drop-inside = d.queued.rows.inside place k d.is-place l

  -- the edge to which is not passed before
  unpassed : entries n w place k other + loss ≤ between n w place other
  unpassed = omega (arith, entries-part n w place (k + 1) other (omega arith), entries-suc n w place k other, if-same other other loss refl)

  -- so it is of the other side, if the edge weighs anything
  pub drop-across : 1 ≤ loss → ltb other n ≡ not (ltb place n)
  drop-across h = grind (arith, nat_tests, h, unpassed, drop-inside, apart (inl refl), apart (inr refl))
    where
      apart : {first : ℕ} → SideAt n first → OnSide n first place → OnSide n first other → between n w place other ≡ 0
      apart s = between-apart d.total.held.tabled s place other

  -- and has that edge to lose
  pub drop-some : loss ≤ degree_of n m w other
  drop-some = omega (arith, d.degrees other drop-inside, unpassed)

  -- the table with the edge lost
  abbrev pub less : List ℕ
  less = with_degree n m w other (degree_of n m w other - loss)

  -- keeps the rows
  pub less-keeps : Kept n m w less
  less-keeps = kept_set n m w (2 * n + 1 + 2 * m + other) (degree_of n m w other - loss) (omega arith) (omega (arith, drop-inside))

  -- and the queue
  pub less-queue : (i : ℕ) → queue_of n m w i ≡ queue_of n m less i
  less-queue i = sym (with-degree-queue n m w other (degree_of n m w other - loss) i drop-inside)

  -- in it the place's degree is less by the weight
  pub less-same : degree_of n m less other + loss ≡ degree_of n m w other
  less-same = omega (arith, with-degree-same n m w other (degree_of n m w other - loss) (omega (arith, drop-inside, d.queued.rows.long)), drop-some)

  -- and every other as it was
  pub less_other : (p : ℕ) → p ≢ other → degree_of n m less p ≡ degree_of n m w p
  less_other p e = with-degree-other n m w other (degree_of n m w other - loss) p e

  -- so an edge is lost where the entry is
  less-degree : (p : ℕ) → degree_of n m less p + if (eqb other p) loss ≡ degree_of n m w p
  less-degree p = grind (arith, nat_tests, less-same, less_other p)

  -- what is left is not less than the place's edges to places not dropped
  pub less-least : undropped n m w s other ≤ degree_of n m less other
  less-least = omega (arith, d.degrees other drop-inside, less-same, unpassed)

  -- in a table with these degrees, and with the queue before the head as it was, one entry more is passed
  pub passed : {w' : List ℕ} → Kept n m w w' → ((i : ℕ) → i < s.head → queue_of n m w i ≡ queue_of n m w' i)
      → ((p : ℕ) → p < 2 * n → degree_of n m w' p ≡ degree_of n m less p)
      → (p : ℕ) → p < 2 * n → degree_of n m w' p + entries n w' place (k + 1) p ≡ undropped n m w' s p + between n w' place p
  passed kept before same p b =
      omega (
        arith,
        d.degrees p b,
        same p b,
        less-degree p,
        entries-suc n w place k p,
        entries-kept d.queued.rows kept place (k + 1) p d.is-place (omega arith),
        between-kept d.queued.rows kept place p d.is-place,
        degree-kept d.queued.rows kept s.head p before b,
      )

-- when the whole row is passed, the place is dropped
pub drop-ends : {n m : ℕ} {need : ℕ → ℕ} {w : List ℕ} {s : Peel} {place k : ℕ} → Dropping n m need w s place k → k ≡ row_length w place
    → Peeling n m need w s
unfolding between
drop-ends {n} {m} {need} {w} {s} {place} {k} d e =
    record { queued = d.queued; degrees = λ p l. omega (arith, d.degrees p l, ap (λ c. entries n w place c p) e); total = d.total }
