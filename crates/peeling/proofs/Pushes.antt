-- The rows and the queue after a step that keeps the rows, in which the needs of places may grow and their degrees may change: where no place
-- becomes short the queue stays as it is, and where one does, that place is pushed.
use Prim.Native.Nat.{ℕ, ◌+◌, ◌*◌, ◌<◌, ◌≤◌}
use mathlib.Core.Bool.{true}
use mathlib.Core.List.{List}
use mathlib.Core.Logic.{◌≢◌}
use mathlib.Core.Path.{◌≡◌, sym, ◌∙◌}
use native.Mathlib.Nat.{ne_of_lt}
use native.Mathlib.Numerals.{add-one}
use native.Mathlib.Omega.{arith}
use lib.Dec.{leb}
use Rattle.graph.proofs.Degrees.{without}
use Rattle.peeling.specs.declared.Peel.{Peel}
use Rattle.peeling.specs.Peeling.{degree_of, queue_of, live, Queued, Kept, Pushable, undropped, pushed, with_queued}
use Rattle.peeling.proofs.Live.{live-suc, live-ext}
use Rattle.peeling.proofs.Queues.{queue-most, queue-room, queue-stays, queue-grows}
use Rattle.peeling.proofs.Sides.{sizes-same, sizes-some, sizes-without}
use Rattle.peeling.proofs.Tables.{with-queued-same, with-queued-other, with-queued-degree}
use Rattle.peeling.proofs.Kept.{kept_next, kept_set, single-kept, between-kept, rows-kept, degree-kept}

-- a place that is not short can be pushed
pub queued-room : {n m : ℕ} {need : ℕ → ℕ} {w : List ℕ} {s : Peel} → Queued n m need w s → (q : ℕ) → q < 2 * n
    → leb (need q) (degree_of n m w q) ≡ true → Pushable n s q
queued-room k q l h = record { tail = queue-room k.queue q l h; side = sizes-some k.sizes q l (k.queue.short q l ∙ h) }

-- any place put past the tail keeps the rows: there is always an entry for it
pub put_keeps : {n m : ℕ} {need : ℕ → ℕ} {w : List ℕ} {s : Peel} → Queued n m need w s → (w' : List ℕ) (q : ℕ) → Kept n m w' (with_queued n m w' s.tail q)
put_keeps {n} {m} {s = s} k w' q = kept_set n m w' (4 * n + 1 + 2 * m + s.tail) q (omega arith) (omega (arith, queue-most k.queue))

-- the step: the rows and the queue are kept, and no place needs less
pub record Step (n m : ℕ) (need need' : ℕ → ℕ) (w w' : List ℕ) (s : Peel) : Type 0 where
  pub queued : Queued n m need w s
  pub kept : Kept n m w w'
  pub more : (p : ℕ) → p < 2 * n → need p ≤ need' p
  pub same : (i : ℕ) → i < s.tail → queue_of n m w i ≡ queue_of n m w' i

-- a place is put past the tail, too
pub step-put : {n m : ℕ} {need need' : ℕ → ℕ} {w w' : List ℕ} {s : Peel} → Step n m need need' w w' s → (q : ℕ) → Step n m need need' w (with_queued n m w' s.tail q) s
step-put {n} {m} {w' = w'} {s} k q =
    record {
      queued = k.queued;
      kept = kept_next k.kept (put_keeps k.queued w' q);
      more = k.more;
      same = λ i b. k.same i b ∙ sym (with-queued-other n m w' s.tail q i (ne_of_lt b));
    }

module _ {n m : ℕ} {need need' : ℕ → ℕ} {w w' : List ℕ} {s : Peel} (k : Step n m need need' w w' s) where
  -- no place has become short
  pub queued-stays : ((p : ℕ) → p < 2 * n → leb (need p) (degree_of n m w p) ≡ leb (need' p) (degree_of n m w' p)) → Queued n m need' w' s
  queued-stays e =
      record {
        rows = rows-kept k.queued.rows k.kept;
        single = λ h. single-kept k.queued.rows k.kept (k.queued.single h);
        waiting = k.queued.waiting;
        queue = queue-stays (λ p q a b. sym (between-kept k.queued.rows k.kept p q a)) k.more k.same k.queued.queue e;
        sizes = sizes-same (live-ext s.tail k.same) k.queued.sizes;
      }

  -- place q, which was not short, is put at the tail
  module _ (q : ℕ) (l : q < 2 * n) (enough : leb (need q) (degree_of n m w q) ≡ true) where
    -- the table with it
    abbrev full : List ℕ
    full = with_queued n m w' s.tail q

    -- keeps the rows
    pub full-keeps : Kept n m w full
    full-keeps = (step-put k q).kept

    -- its degrees
    pub full-degree : (p : ℕ) → p < 2 * n → degree_of n m full p ≡ degree_of n m w' p
    full-degree p b = with-queued-degree n m w' s.tail q p b

    -- and the queue before the place
    pub full-queue : (i : ℕ) → i < s.tail → queue_of n m w i ≡ queue_of n m full i
    full-queue = (step-put k q).same

    -- so the edges to places not dropped are as they were
    pub full-undropped : (p : ℕ) → p < 2 * n → undropped n m w s p ≡ undropped n m full s p
    full-undropped p b = degree-kept k.queued.rows full-keeps s.head p (λ i c. full-queue i (omega (arith, k.queued.waiting))) b

    -- where the place has become short, and its degree has not less than these edges, it is pushed
    pub queued-grows : degree_of n m w' q < need' q → undropped n m w s q ≤ degree_of n m w' q
        → ((p : ℕ) → p < 2 * n → p ≢ q → leb (need p) (degree_of n m w p) ≡ leb (need' p) (degree_of n m w' p))
        → Queued n m need' full (pushed n s q)
    queued-grows less least e =
        record {
          rows = rows-kept k.queued.rows full-keeps;
          single = λ h. single-kept k.queued.rows full-keeps (k.queued.single h);
          waiting = omega (arith, k.queued.waiting);
          queue =
              queue-grows (λ p r a b. sym (between-kept k.queued.rows full-keeps p r a)) k.more full-queue k.queued.queue q s.head l k.queued.waiting top
              enough
              (rw (full-degree q l) less)
              (rw (full-degree q l, ← full-undropped q l) least)
              (λ p b x. rw (full-degree p b) (e p b x));
          sizes = sizes-same rest (sizes-without k.queued.sizes q l (k.queued.queue.short q l ∙ enough));
        }
      where
        -- where the place stands now
        top : queue_of n m full s.tail ≡ q
        top = with-queued-same n m w' s.tail q (omega (arith, (queued-room k.queued q l enough).tail, k.queued.rows.long, k.kept.same_length))

        -- what is left is what was left without it
        rest : (p : ℕ) → without (live (queue_of n m w) s.tail) q p ≡ live (queue_of n m full) (s.tail + 1) p
        rest p = sym (rw (add-one s.tail) (live-suc (queue_of n m full) s.tail p ∙ rw (top, ← live-ext s.tail full-queue p)))
