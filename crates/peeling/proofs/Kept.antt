-- What stores to the degrees and to the queue keep: starts, rows, and so the edges between places.
use Prim.Native.Nat.{ℕ, ◌+◌, ◌*◌, ◌<◌, ◌≤◌}
use mathlib.Core.Bool.{Bool}
use mathlib.Core.List.{List}
use mathlib.Core.Path.{◌≡◌, refl, sym, ◌∙◌}
use native.Mathlib.Omega.{arith}
use lib.ListN.{set, length-set}
use lib.Seq.{get_or-set_other, drop-set-lt}
use Rattle.graph.specs.Graph.{Graph, everyone}
use Rattle.graph.specs.Linkage.{degree}
use Rattle.graph.proofs.Sums.{sum-ext}
use Rattle.graph.proofs.Linkage.{degree-same}
use Rattle.graph.proofs.Links.{degree-links}
use Rattle.peeling.specs.declared.Peel.{Peel}
use Rattle.peeling.specs.declared.Scope.{Scope}
use Rattle.peeling.specs.Peeling.{start_of, row_length, row_entry, queue_of, entries, between, whole_degree, live, Rows, Indexed, Tabled, SingleRows, Kept, Ended}
use Rattle.peeling.proofs.Live.{live-ext}
use Rattle.peeling.proofs.Tables.{row_inside}

-- a table keeps what it has
pub kept_same : {n m : ℕ} (w : List ℕ) → Kept n m w w
kept_same w = record { same_length = refl; index = λ i l. refl; past = refl }

-- what is kept twice is kept
pub kept_next : {n m : ℕ} {w w' w'' : List ℕ} → Kept n m w w' → Kept n m w' w'' → Kept n m w w''
kept_next a b =
    record {
      same_length = b.same_length ∙ a.same_length;
      index = λ i l. b.index i l ∙ a.index i l;
      past = b.past ∙ a.past;
    }

-- and the other way round too
pub kept_back : {n m : ℕ} {w w' : List ℕ} → Kept n m w w' → Kept n m w' w
kept_back k = record { same_length = sym k.same_length; index = λ i l. sym (k.index i l); past = sym k.past }

-- a store past the rows, to an entry that a work table needs, keeps them
pub kept_set : (n m : ℕ) (w : List ℕ) (i v : ℕ) → 2 * n + 1 + 2 * m ≤ i → i < 2 * m + 6 * n + 2 → Kept n m w (set w i v)
kept_set n m w i v l h =
    record {
      same_length = length-set w i v;
      index = λ j k. get_or-set_other w i j v 0 (λ e. omega arith);
      past = drop-set-lt (2 * m + 6 * n + 2) w i v h;
    }

module _ {n m : ℕ} {w w' : List ℕ} (r : Rows n m w) (k : Kept n m w w') where
  -- the starts are the same
  pub start-kept : (p : ℕ) → p ≤ 2 * n → start_of w' p ≡ start_of w p
  start-kept p l = k.index p (omega arith)

  -- so the entries of a row are, each by itself
  row-kept : (p i : ℕ) → p < 2 * n → i < row_length w' p → (i < row_length w p) × (row_entry n w' (start_of w' p + i) ≡ row_entry n w (start_of w p + i))
  row-kept p i l b =
      let c : i < row_length w p = rw (start-kept p (omega arith), start-kept (p + 1) (omega arith)) at b in
      (c, rw (start-kept p (omega arith)) (k.index (2 * n + 1 + (start_of w p + i)) (omega (arith, row_inside r p i l c))))

  -- and weigh 1 where they did
  pub single-kept : SingleRows n w → SingleRows n w'
  single-kept h p i l b = let (c, e) = row-kept p i l b in rw e (h p i l c)

  -- and together
  pub entries-kept : (p c q : ℕ) → p < 2 * n → c ≤ row_length w p → entries n w' p c q ≡ entries n w p c q
  unfolding entries
  entries-kept p c q l h =
      sum-ext c (λ i b.
      rw (start-kept p (omega arith), k.index (2 * n + 1 + (start_of w p + i)) (omega (arith, row_inside r p i l (omega arith)))))

  -- and the edges
  pub between-kept : (p q : ℕ) → p < 2 * n → between n w' p q ≡ between n w p q
  unfolding between
  between-kept p q l = rw (start-kept p (omega arith), start-kept (p + 1) (omega arith)) (entries-kept p _ q l (omega arith))

  -- and the degrees in the whole graph
  pub whole-kept : (p : ℕ) → p < 2 * n → whole_degree n w' p ≡ whole_degree n w p
  whole-kept p l = degree-links (between n w') (between n w) everyone p (λ q b. between-kept p q l)

  -- a table that keeps rows holds rows
  pub rows-kept : Rows n m w'
  rows-kept =
      record {
        long = omega (arith, r.long, k.same_length);
        ascending = λ p l. rw (start-kept p (omega arith), start-kept (p + 1) (omega arith)) (r.ascending p l);
        last = rw (start-kept (2 * n) (omega arith)) r.last;
        inside = λ p i l b. let (c, e) = row-kept p i l b in rw e (r.inside p i l c);
        heavy = λ p i l b. let (c, e) = row-kept p i l b in rw e (r.heavy p i l c);
        light = λ p l. rw (whole-kept p l) (r.light p l);
        symmetric = λ p q a b. between-kept p q a ∙ r.symmetric p q a b ∙ sym (between-kept q p b);
      }

  -- where the queues agree, the degrees among what is left are the same
  pub degree-kept : (h p : ℕ) → ((i : ℕ) → i < h → queue_of n m w i ≡ queue_of n m w' i) → p < 2 * n
      → degree (between n w) (2 * n) (live (queue_of n m w) h) p ≡ degree (between n w') (2 * n) (live (queue_of n m w') h) p
  degree-kept h p e l =
      degree-links (between n w) (between n w') (live (queue_of n m w) h) p (λ q b. sym (between-kept p q l))
      ∙ degree-same (between n w') (λ q b. live-ext h e q) p

-- the rows of a graph are so still
indexed-kept : {g : Graph} {m : ℕ} {w w' : List ℕ} → Indexed g m w → Kept g.order m w w' → Indexed g m w'
indexed-kept i k = record { rows = rows-kept i.rows k; linked = λ p q a b. between-kept i.rows k p q a ∙ i.linked p q a b }

-- and so for its number of vertices
pub tabled-kept : {g : Graph} {n m : ℕ} {w w' : List ℕ} → Tabled g n m w → Kept n m w w' → Tabled g n m w'
tabled-kept t k = record { closed = t.closed; indexed = indexed-kept t.indexed (rw t.order k); order = t.order }

-- a peel has come to its end from every table whose rows its table keeps
pub ended-from : {drain : Bool} {c : Scope} {v w w' : List ℕ} {s : Peel} → Ended drain c w w' s → Kept c.extent.order c.extent.size v w' → Ended drain c v w' s
ended-from e k = record { peeling = e.peeling; drained = e.drained; done = e.done; kept = k }
