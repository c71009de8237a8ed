-- The queue while a place is dropped: a place of its row that loses an edge is pushed where its degree falls from enough to short by that, and else
-- not. It is put past the tail in any case, where it is no part of the queue. Its edges to places not dropped are no more than the degree that is left
-- to it, so it is short among those too.
use Prim.Native.Nat.{ℕ, ◌+◌, ◌-◌, ◌*◌, ◌<◌}
use mathlib.Core.Bool.{Bool, true, false}
use mathlib.Core.List.{List}
use mathlib.Core.Path.{◌≡◌, refl}
use native.Mathlib.Nat.{le_refl}
use native.Mathlib.Omega.{arith}
use Rattle.std.proofs.lemmas.Bool.Decides.{nat_tests}
use lib.Dec.{leb}
use Rattle.graph.proofs.Tests.{and_left}
use Rattle.peeling.specs.declared.Peel.{Peel}
use Rattle.peeling.specs.Peeling.{row_length, degree_of, queue_of, Queued, Dropping, Kept, Pushable, pushed, with_queued, falls}
use Rattle.peeling.proofs.Pushes.{Step, step-put, queued-room, queued-stays, queued-grows}
use Rattle.peeling.proofs.Tables.{with-queued-degree}
use Rattle.peeling.proofs.Totals.{total_kept}
use Rattle.peeling.proofs.Losses.{other, loss, drop-inside, less, less-keeps, less-queue, less-same, less_other, less-least, passed}

module _ {n m : ℕ} {need : ℕ → ℕ} {w : List ℕ} {s : Peel} {place k : ℕ} (d : Dropping n m need w s place k) (l : k < row_length w place) where
  -- the place that loses an edge
  abbrev loser : ℕ
  loser = other d l

  -- whether its degree falls from enough to short
  abbrev is_falling : Bool
  is_falling = falls (need loser) (degree_of n m w loser) (degree_of n m w loser - loss d l)

  -- the drop has come one entry further with a queue that goes by the degrees
  further : {w' : List ℕ} {s' : Peel} → Kept n m w w' → ((i : ℕ) → i < s.head → queue_of n m w i ≡ queue_of n m w' i)
      → ((p : ℕ) → p < 2 * n → degree_of n m w' p ≡ degree_of n m (less d l) p) → s'.head ≡ s.head → s'.edges ≡ s.edges
      → Queued n m need w' s' → Dropping n m need w' s' place (k + 1)
  further kept before same h e q =
      record {
        queued = q;
        is-place = d.is-place;
        degrees = rw h (passed d l kept before same);
        total = total_kept d.total kept before h e;
      }

  -- a step that changes this one degree, and no need
  step : Step n m need need w (less d l) s
  step = record { queued = d.queued; kept = less-keeps d l; more = λ p b. le_refl _; same = λ i b. less-queue d l i }

  -- the table with the place put past the tail
  abbrev put : List ℕ
  put = with_queued n m (less d l) s.tail loser

  -- which keeps the rows
  pub drop_keeps : Kept n m w put
  drop_keeps = (step-put step loser).kept

  -- and the queue before the head
  put-queue : (i : ℕ) → i < s.head → queue_of n m w i ≡ queue_of n m put i
  put-queue i b = (step-put step loser).same i (omega (arith, d.queued.waiting))

  -- and has the degrees
  put-degree : (p : ℕ) → p < 2 * n → degree_of n m put p ≡ degree_of n m (less d l) p
  put-degree = with-queued-degree n m (less d l) s.tail loser

  -- where it does not fall, the place is no part of the queue
  pub drop-stays : is_falling ≡ false → Dropping n m need put s place (k + 1)
  drop-stays h = further drop_keeps put-queue put-degree refl refl (queued-stays (step-put step loser) enough)
    where
      -- no place has become short
      enough : (p : ℕ) → p < 2 * n → leb (need p) (degree_of n m w p) ≡ leb (need p) (degree_of n m put p)
      enough p b = grind (arith, nat_tests, h, put-degree p b, less-same d l, less_other d l p)

  -- where it does
  module _ (e : is_falling ≡ true) where
    -- the place is not short yet
    just_enough : leb (need loser) (degree_of n m w loser) ≡ true
    just_enough = and_left _ _ e

    -- so it can be pushed
    pub drop-room : Pushable n s loser
    drop-room = queued-room d.queued loser (drop-inside d l) just_enough

    -- and the drop has come one entry further
    pub drop-pushes : Dropping n m need put (pushed n s loser) place (k + 1)
    drop-pushes =
        further drop_keeps put-queue put-degree
        refl
        refl
        (queued-grows step loser (drop-inside d l) just_enough
        (grind (arith, nat_tests, e, less-same d l))
        (less-least d l)
        (λ p b x. rw (less_other d l p x)))
