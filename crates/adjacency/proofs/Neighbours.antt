-- In the tables of an index each vertex has a row, and it is the neighbours of the vertex, ascending: the places of its neighbours run
-- from its start to the next start. A lent table may be longer than the index: what stands past it, p and q, is not looked at.
use Prim.Native.Nat.{ℕ, ◌+◌, ◌-◌, ◌<◌, ◌≤◌}
use mathlib.Core.List.{List, ◌++◌, append_cancel_left}
use mathlib.Core.Path.{◌≡◌, sym, ap, ◌∙◌}
use native.Mathlib.Numerals.{add-one}
use native.Mathlib.Omega.{arith}
use borrow.Author.Tests.{ltb-true, lt-ltb}
use lib.Dec.{ltb}
use lib.ListN.{length, get_or, take, length-append, get_or-append}
use lib.Seq.{take-add, take-append-le}
use Rattle.graph.specs.Graph.{Graph, reverse}
use Rattle.graph.specs.Shapes.{Closed, Simple}
use Rattle.graph.specs.Order.{edge_at, below, starts, rows}
use Rattle.graph.proofs.Tests.{if-mono}
use Rattle.graph.proofs.Sums.{sum_mono, sum-tests}
use Rattle.graph.proofs.Ranges.{length-table}
use Rattle.graph.proofs.Starts.{length-starts, get_or-starts}
use Rattle.graph.proofs.Degrees.{closed-reverse}
use Rattle.network.specs.declared.Side.{Side}
use Rattle.network.specs.declared.Side.TheVariants.{Source, Target}
use Rattle.std.specs.Prelude.{None}
use Rattle.network.specs.File.{graph_of}
use Rattle.network.specs.Refusals.{row_refusal}
use Rattle.network.specs.Sides.{seen}
use Rattle.adjacency.specs.Calls.{RowCall, by_side}
use Rattle.adjacency.specs.Neighbours.{neighbours}
use Rattle.adjacency.specs.Rows.{Row}
use Rattle.adjacency.proofs.Refusals.{row-accepted}
use Rattle.network.specs.Accepted.{Accepted}
use Rattle.network.proofs.Accepted.{accepted-distinct}
use Rattle.adjacency.proofs.Places.{place, place-first, place-last, rows-to}

-- starts ascend
below-mono : (g : Graph) (u : ℕ) → below g.source g.size u ≤ below g.source g.size (u + 1)
below-mono g u =
    sum_mono g.size (λ e m.
    if-mono {a = ltb (g.source e) u} 1 (λ h. lt-ltb (g.source e) (u + 1) (omega (arith, ltb-true (g.source e) u h))))

-- and count edges
below-le : (g : Graph) (a : ℕ) → below g.source g.size a ≤ g.size
below-le g a = sum-tests (λ e. ltb (g.source e) a) g.size

-- the rows table has one for each edge
length-rows : (g : Graph) → length (rows g) ≡ g.size
length-rows g = length-table (λ i. g.target (edge_at g i)) g.size

-- entry a of the starts
start_of : (g : Graph) (p : List ℕ) (a : ℕ) → a ≤ g.order → get_or (starts g ++ p) a 0 ≡ below g.source g.size a
start_of g p a h =
    get_or-append (starts g) p 0 a (omega (arith, length-starts g)) ∙ get_or-starts g a h

module _ (g : Graph) (p q : List ℕ) (u : ℕ) (l : u < g.order) where
  -- each vertex has a row
  index-row : Row (starts g ++ p) (rows g ++ q) u
  index-row =
      record {
        next = omega (arith, length-append (starts g) p, length-starts g);
        ascending = omega (arith, start_of g p u (omega arith), start_of g p (u + 1) (omega arith), below-mono g u);
        inside = omega (arith, start_of g p (u + 1) (omega arith), below-le g (u + 1), length-append (rows g) q, length-rows g);
      }

  -- it is not refused
  pub index-accepted : row_refusal (starts g ++ p) (rows g ++ q) u ≡ None
  index-accepted = row-accepted (starts g ++ p) (rows g ++ q) u index-row

  -- and it is the neighbours of the vertex
  pub index-neighbours : Closed g → Simple g → {r : List ℕ} → RowCall (starts g ++ p) (rows g ++ q) u r → r ≡ neighbours g u
  unfolding neighbours
  index-neighbours closed simple c =
      c.accepted index-accepted
      ∙ append_cancel_left (take from (rows g ++ q)) _ _ (
      sym (take-add from (to - from) (rows g ++ q))
      ∙ ap (λ n. take n (rows g ++ q)) joined
      ∙ prefix (u + 1) (omega arith)
      ∙ ap (λ n. take n (rows g)) last-place
      ∙ sym (rows-to g u simple g.order)
      ∙ ap (λ n. take n (rows g) ++ neighbours g u) (sym first-place)
      ∙ ap (λ s. s ++ neighbours g u) (sym (prefix u (omega arith)))
      )
    where
      from : ℕ
      from = get_or (starts g ++ p) u 0

      to : ℕ
      to = get_or (starts g ++ p) (u + 1) 0

      joined : from + (to - from) ≡ to
      joined = omega (arith, index-row)

      first-place : from ≡ place g u 0
      first-place = start_of g p u (omega arith) ∙ sym (place-first g u)

      last-place : to ≡ place g u g.order
      last-place = rw (start_of g p (u + 1) (omega arith), add-one u, place-last g u closed)

      prefix : (a : ℕ) → a ≤ g.order → take (get_or (starts g ++ p) a 0) (rows g ++ q) ≡ take (get_or (starts g ++ p) a 0) (rows g)
      prefix a h = take-append-le (get_or (starts g ++ p) a 0) (rows g) q (omega (arith, start_of g p a h, below-le g a, length-rows g))

-- in the tables that the index call fills for an accepted file, the row of a vertex is its neighbours, ascending, from either side
pub file-neighbours : {f : List ℕ} → Accepted f → (side : Side) (os or is ir : List ℕ) (u : ℕ) → u < (graph_of f).order → {r : List ℕ} → let g = graph_of f in
    RowCall (by_side side (starts g ++ os) (starts (reverse g) ++ is)) (by_side side (rows g ++ or) (rows (reverse g) ++ ir)) u r → r ≡ neighbours (seen side g) u
file-neighbours {f} a Source os or is ir u l c = index-neighbours (graph_of f) os or u l a.sound.closed (accepted-distinct a).simple c
file-neighbours {f} a Target os or is ir u l c =
    index-neighbours (reverse (graph_of f)) is ir u l (closed-reverse a.sound.closed) (λ d e m n s t. (accepted-distinct a).simple d e m n t s) c
