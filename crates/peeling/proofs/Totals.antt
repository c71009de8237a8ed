-- The running total is E of the places not dropped. A place that is dropped takes its degree out of it, which is the number of its edges to
-- places not dropped; stores that keep the rows, and the queue before the head, keep it.
use Prim.Native.Nat.{ℕ, ◌+◌, ◌*◌, ◌<◌, ◌≤◌}
use mathlib.Core.Bool.{true}
use mathlib.Core.List.{List}
use mathlib.Core.Path.{◌≡◌, sym, ◌∙◌}
use native.Mathlib.Numerals.{add-one}
use native.Mathlib.Omega.{arith}
use Rattle.graph.specs.Graph.{Graph, Group, edges}
use Rattle.graph.specs.Linkage.{degree}
use Rattle.graph.specs.Places.{targets}
use Rattle.graph.specs.Cover.{joined}
use Rattle.graph.proofs.Degrees.{without, edges-same}
use Rattle.graph.proofs.Links.{degree-links}
use Rattle.graph.proofs.Cover.{edges-drop}
use Rattle.peeling.specs.declared.Peel.{Peel}
use Rattle.peeling.specs.Peeling.{degree_of, queue_of, between, live, standing, undropped, Rows, Tabled, Held, Weighed, Total, Kept, past}
use Rattle.peeling.proofs.Live.{live-suc, live-ext}
use Rattle.peeling.proofs.Kept.{kept_back, tabled-kept, whole-kept}

-- the table of a graph holds rows
pub tabled-rows : {g : Graph} {n m : ℕ} {w : List ℕ} → Tabled g n m w → Rows n m w
tabled-rows t = rw t.order at t.indexed.rows

-- and so does one that holds some graph
pub held_rows : {n m : ℕ} {w : List ℕ} → Held n m w → Rows n m w
held_rows h = tabled-rows h.tabled

-- which it holds still where the rows are kept
pub held_kept : {n m : ℕ} {w w' : List ℕ} → Held n m w → Kept n m w w' → Held n m w'
held_kept h k = record { graph = h.graph; tabled = tabled-kept h.tabled k }

-- with the degrees of all its places
pub weighed_kept : {n m : ℕ} {w w' t : List ℕ} → Weighed n m w t → Kept n m w w' → Weighed n m w' t
weighed_kept o k =
    record { held = held_kept o.held k; long = o.long; degrees = λ p l. o.degrees p l ∙ sym (whole-kept (held_rows o.held) k p l) }

-- a place has the edges to R that its row has
pub place-degree : {g : Graph} {n m : ℕ} {w : List ℕ} → Tabled g n m w → (R : Group) (p : ℕ) → p < 2 * n
    → degree (between n w) (2 * n) R p ≡ degree (joined g) (2 * g.order) R p
place-degree {g} {w = w} t R p l =
    rw (← t.order) (degree-links (between g.order w) (joined g) R p (λ q b. t.indexed.linked p q (omega (arith, t.order)) b))

-- the same places have the same edges between them
edges-alike : {g : Graph} → {n m : ℕ} {w : List ℕ} → Tabled g n m w → {Q R : Group} → ((p : ℕ) → Q p ≡ R p) → edges g Q (targets g Q) ≡ edges g R (targets g R)
edges-alike {g} t e = edges-same t.closed (λ u l. e u) (λ v l. e (g.order + v))

-- the total stays where rows, head and the queue before the head do
pub total_kept : {n m : ℕ} {w w' : List ℕ} {s s' : Peel} → Total n m w s → Kept n m w w' → ((i : ℕ) → i < s.head → queue_of n m w i ≡ queue_of n m w' i)
    → s'.head ≡ s.head → s'.edges ≡ s.edges → Total n m w' s'
total_kept {s = s} k c q h e =
    record {
      held = held_kept k.held c;
      small = rw e k.small;
      counted = λ g t. e ∙ k.counted g (tabled-kept t (kept_back c)) ∙ rw h (edges-alike t (live-ext s.head q));
    }

-- the place at the head stands, and its degree is the number of its edges to places that stand
module _ {n m : ℕ} {w : List ℕ} {s : Peel} (k : Total n m w s) (inside : queue_of n m w s.head < 2 * n)
    (stands : standing n m w s (queue_of n m w s.head) ≡ true)
    (exact : degree_of n m w (queue_of n m w s.head) ≡ undropped n m w s (queue_of n m w s.head)) where
  -- that place
  abbrev first : ℕ
  first = queue_of n m w s.head

  -- what stands without it is what stands when it is dropped
  dropped : (p : ℕ) → without (standing n m w s) first p ≡ live (queue_of n m w) (s.head + 1) p
  dropped p = sym (rw (add-one s.head) (live-suc (queue_of n m w) s.head p))

  -- E without it is E less its degree
  falls : (g : Graph) → Tabled g n m w
      → s.edges ≡ edges g (live (queue_of n m w) (s.head + 1)) (targets g (live (queue_of n m w) (s.head + 1))) + degree_of n m w first
  falls g t =
      omega (
        arith,
        k.counted g t,
        edges-drop t.closed (standing n m w s) first (omega (arith, t.order)) stands,
        edges-alike t dropped,
        exact,
        place-degree t (standing n m w s) first inside,
      )

  -- so the total can fall by it
  pub total-enough : degree_of n m w first ≤ s.edges
  total-enough = omega (arith, falls k.held.graph k.held.tabled)

  -- and is E of those not dropped again
  pub total-drops : Total n m w (past n m w s)
  total-drops = record { held = k.held; small = omega (arith, k.small); counted = λ g t. omega (arith, falls g t) }
