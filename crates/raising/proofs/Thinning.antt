-- A peel that asks something of one side only has queued places of that side only. When they are all dropped, the degrees of their own side are
-- as they were, and those of the other are the edges to what is left of it: so they are counted by that.
use Rattle.std.proofs.Common.{◌≡◌, ℕ, suc, ◌+◌, ◌-◌, ◌*◌, ◌<◌, ◌≤◌, true, false, leb, List, sym, refl, ◌∙◌, ⊎_elim, le_refl, arith, eq-eqb, le-leb}
use mathlib.Core.Bool.{false≢true}
use Rattle.graph.specs.Range.{if}
use Rattle.graph.proofs.Sums.{sum-ext}
use Rattle.peeling.specs.declared.Peel.{Peel}
use Rattle.peeling.specs.declared.Scope.{Scope}
use Rattle.peeling.specs.Peeling.{need_of, degree_of, queue_of, between, live, undropped, Queued, PeelBy, past}
use Rattle.peeling.specs.Recounts.{OnSide, OneSided, Passed, Recounted}
use Rattle.peeling.proofs.Live.{live-suc, live-before}
use Rattle.peeling.proofs.Kept.{degree-kept}
use Rattle.peeling.proofs.Totals.{total_kept, total-enough, total-drops}
use Rattle.peeling.proofs.Apart.{side-other, side-place, side-either, degree-across, degree-own}
use Rattle.peeling.proofs.Pushes.{Step, queued-stays}
use Rattle.raising.proofs.Raises.{need-side}

module _ {c : Scope} {first : ℕ} {w : List ℕ} {s : Peel} (o : OneSided c first) (k : PeelBy c w s) where
  -- every place of the other side stands, however far the queue is passed
  other-stands : (h : ℕ) → h ≤ s.tail → (q : ℕ) → OnSide c.extent.order (c.extent.order - first) q → live (queue_of c.extent.order c.extent.size w) h q ≡ true
  other-stands h l q u =
      live-before _ s.tail l q
      (k.queued.queue.short q (side-place (side-other o.side) u) ∙ rw (o.free q u) (le-leb 0 (degree_of c.extent.order c.extent.size w q) (omega arith)))

  -- so every place in the queue is of this side
  queue-own : (i : ℕ) → i < s.tail → OnSide c.extent.order first (queue_of c.extent.order c.extent.size w i)
  queue-own i l =
      ⊎_elim (λ u. u) (λ u. absurd (false≢true (sym gone ∙ other-stands (suc i) (omega arith) _ u))) (side-either o.side _ (k.queued.queue.inside i l))
    where
      gone : live (queue_of c.extent.order c.extent.size w) (suc i) (queue_of c.extent.order c.extent.size w i) ≡ false
      gone = live-suc (queue_of c.extent.order c.extent.size w) i _ ∙ rw (eq-eqb (queue_of c.extent.order c.extent.size w i) (queue_of c.extent.order c.extent.size w i) refl)

  -- a place of this side keeps its degree while the queue is passed
  own-degree : {s' : Peel} → Passed c.extent.order c.extent.size w s s' → (p : ℕ) → OnSide c.extent.order first p
      → degree_of c.extent.order c.extent.size w p ≡ undropped c.extent.order c.extent.size w s' p
  own-degree {s'} d p u =
      k.degrees p (side-place o.side u)
      ∙ degree-own k.total.held.tabled o.side
      (λ q v. other-stands s.head k.queued.waiting q v ∙ sym (other-stands s'.head (omega (arith, d.within, d.tail)) q v)) p u

  module _ {s' : Peel} (d : Passed c.extent.order c.extent.size w s s') (l : s'.head < s'.tail) where
    -- the next one is a place
    pub waiting-place : queue_of c.extent.order c.extent.size w s'.head < 2 * c.extent.order
    waiting-place = k.queued.queue.inside s'.head (omega (arith, d.tail))

    -- that stands
    stands : live (queue_of c.extent.order c.extent.size w) s'.head (queue_of c.extent.order c.extent.size w s'.head) ≡ true
    stands = k.queued.queue.distinct s'.head (omega (arith, d.tail))

    -- and has its degree still
    exact : degree_of c.extent.order c.extent.size w (queue_of c.extent.order c.extent.size w s'.head) ≡ undropped c.extent.order c.extent.size w s' (queue_of c.extent.order c.extent.size w s'.head)
    exact = own-degree d _ (queue-own s'.head (omega (arith, d.tail)))

    -- so the total is enough for it
    pub waiting-enough : degree_of c.extent.order c.extent.size w (queue_of c.extent.order c.extent.size w s'.head) ≤ s'.edges
    waiting-enough = total-enough d.total waiting-place stands exact

    -- and it is passed
    pub pass-one : Passed c.extent.order c.extent.size w s (past c.extent.order c.extent.size w s')
    pass-one =
        record {
          begun = omega (arith, d.begun);
          within = omega arith;
          tail = d.tail;
          sources = d.sources;
          targets = d.targets;
          excess = d.excess;
          total = total-drops d.total waiting-place stands exact;
        }

  -- when all are passed and the other side is counted by what is left, each degree is the number of edges to places not dropped
  module _ {s' : Peel} {w' : List ℕ} {least : ℕ} (d : Passed c.extent.order c.extent.size w s s') (e : s'.head ≡ s'.tail) (f : least ≡ need_of c first)
      (r : Recounted c.extent.order c.extent.size first least c.extent.order w w') where
    -- the queue is as it was
    queued : Queued c.extent.order c.extent.size (need_of c) w s'
    queued =
        record {
          rows = k.queued.rows;
          single = λ h. k.queued.single (sym d.excess ∙ h);
          waiting = d.within;
          queue = rw d.tail k.queued.queue;
          sizes = record { sources = d.sources ∙ rw d.tail k.queued.sizes.sources; targets = d.targets ∙ rw d.tail k.queued.sizes.targets };
        }

    -- no need has changed
    step : Step c.extent.order c.extent.size (need_of c) (need_of c) w w' s'
    step = record { queued = queued; kept = r.recounting.kept; more = λ p b. le_refl _; same = λ i b. sym (r.recounting.queue i) }

    -- nor whether a place has enough
    enough : (p : ℕ) → p < 2 * c.extent.order → leb (need_of c p) (degree_of c.extent.order c.extent.size w p) ≡ leb (need_of c p) (degree_of c.extent.order c.extent.size w' p)
    enough p b =
        ⊎_elim (λ u. rw (r.same p u))
        (λ u. rw (o.free p u) (le-leb 0 (degree_of c.extent.order c.extent.size w p) (omega arith) ∙ sym (le-leb 0 (degree_of c.extent.order c.extent.size w' p) (omega arith))))
        (side-either o.side p b)

    -- the other side has its edges to what is left
    other-degree : (p : ℕ) → OnSide c.extent.order (c.extent.order - first) p → degree_of c.extent.order c.extent.size w' p ≡ undropped c.extent.order c.extent.size w s' p
    other-degree p u =
        r.counted p u
        ∙ sum-ext c.extent.order each
        ∙ sym (degree-across k.total.held.tabled o.side (live (queue_of c.extent.order c.extent.size w) s'.head) p u)
      where
        -- what is left of this side is what has enough
        is-left : (q : ℕ) → OnSide c.extent.order first q → live (queue_of c.extent.order c.extent.size w) s'.head q ≡ leb least (degree_of c.extent.order c.extent.size w q)
        is-left q v = rw (e, d.tail, f, ← need-side c.extent.order c.x c.y o.side v.0 v.1) (k.queued.queue.short q (side-place o.side v))

        -- and an edge stands in both rows
        each : (j : ℕ) → j < c.extent.order
            → if (leb least (degree_of c.extent.order c.extent.size w (first + j))) (between c.extent.order w (first + j) p)
            ≡ if (live (queue_of c.extent.order c.extent.size w) s'.head (first + j)) (between c.extent.order w p (first + j))
        each j l =
            let v : OnSide c.extent.order first (first + j) = (omega arith, omega arith) in
            rw (is-left (first + j) v, k.queued.rows.symmetric (first + j) p (side-place o.side v) (side-place (side-other o.side) u))

    -- so the peel goes on from there
    pub thin-ends : PeelBy c w' s'
    thin-ends =
        record {
          queued = queued-stays step enough;
          degrees = λ p b. ⊎_elim (λ u. r.same p u ∙ own-degree d p u) (other-degree p) (side-either o.side p b) ∙ kept-degree p b;
          total = total_kept d.total r.recounting.kept (λ i b. sym (r.recounting.queue i)) refl refl;
        }
      where
        kept-degree : (p : ℕ) → p < 2 * c.extent.order → undropped c.extent.order c.extent.size w s' p ≡ undropped c.extent.order c.extent.size w' s' p
        kept-degree p b = degree-kept k.queued.rows r.recounting.kept s'.head p (λ i b. sym (r.recounting.queue i)) b
