-- The answer of the core call: the groups by the degrees of a peel in which no place waits are the core, the peel's sizes are theirs, and its
-- total is E of them, since every place that is queued is dropped. Where a side is empty and both need an edge, the core is empty.
use Prim.Native.Nat.{ℕ, ◌+◌, ◌*◌, ◌<◌, ◌≤◌}
use mathlib.Core.Bool.{Bool, true, false, not, ◌&&◌, false≢true}
use mathlib.Core.List.{List, ◌++◌}
use mathlib.Core.Logic.{⊎_elim}
use mathlib.Core.Path.{◌≡◌, refl, sym, ◌∙◌}
use native.Mathlib.Nat.{add_assoc, eq-zero-or-pos}
use native.Mathlib.Omega.{arith}
use lib.Dec.{leb}
use lib.ListN.{drop}
use Rattle.graph.specs.Graph.{Graph, Group, card, edges}
use Rattle.graph.specs.Core.{Dense, Core}
use Rattle.graph.specs.Shapes.{Closed, Same}
use Rattle.graph.specs.Places.{targets}
use Rattle.graph.specs.Cover.{need}
use Rattle.graph.proofs.Sums.{sum-ext, sum-zero}
use Rattle.graph.proofs.Degrees.{card-same, some-card, edges-same, edges-other}
use Rattle.graph.proofs.Exists.{core-same, dense-both, nonempty}
use Rattle.network.specs.declared.Totals.{Totals}
use Rattle.network.specs.Groups.{group_of, bytes_of}
use Rattle.network.proofs.Groups.{totals-same}
use Rattle.peeling.specs.declared.Peel.{Peel}
use Rattle.peeling.specs.declared.Scope.{Scope}
use Rattle.peeling.specs.Peeling.{degree_of, left, standing, Indexed, Tabled, Peeling, Ended, emptied}
use Rattle.grouping.specs.Groups.{nobody, at_least, CoreIn}
use Rattle.peeling.proofs.Kept.{tabled-kept}
use Rattle.peeling.proofs.Finished.{sides-none, left-source, left-target, left_both, finished-core}
use Rattle.grouping.proofs.Bytes.{written-group, written_in}

-- what a peel by a scope is for a graph of the scope's numbers of vertices and edges
ended-peeling : {d : Bool} {g : Graph} {c : Scope} {w w' : List ℕ} {p : Peel} → Tabled g c.extent.order c.extent.size w → Ended d c w w' p
    → Peeling g.order c.extent.size (need g.order c.x c.y) w' p
ended-peeling t e = rw t.order e.peeling

-- the peel's table holds the graph still
ended-indexed : {d : Bool} {g : Graph} {c : Scope} {w w' : List ℕ} {p : Peel} → Tabled g c.extent.order c.extent.size w → Ended d c w w' p → Indexed g c.extent.size w'
ended-indexed t e = (tabled-kept t e.kept).indexed

module _ {d : Bool} {c : Scope} {w w' : List ℕ} {p : Peel} (e : Ended d c w w' p) (z : p.head ≡ p.tail) {g : Graph} (t : Tabled g c.extent.order c.extent.size w) {A B : Group}
    (a : (u : ℕ) → u < g.order → A u ≡ leb c.x (degree_of g.order c.extent.size w' u))
    (b : (v : ℕ) → v < g.order → B v ≡ leb c.y (degree_of g.order c.extent.size w' (g.order + v))) where
  -- the sources left are the first group
  sources-same : Same g (left g.order c.extent.size w' p) A
  sources-same u l = left-source c.x c.y t.closed (ended-indexed t e) (ended-peeling t e) u l ∙ sym (a u l)

  -- the targets left the second
  targets-same : Same g (targets g (left g.order c.extent.size w' p)) B
  targets-same v l = left-target c.x c.y t.closed (ended-indexed t e) (ended-peeling t e) v l ∙ sym (b v l)

  -- they are the core
  ended-core : Core g c.x c.y A B
  ended-core =
      core-same t.closed sources-same targets-same (finished-core c.x c.y t.closed (ended-indexed t e) (ended-peeling t e) z)

  -- the peel has their sizes
  ended-sources : p.sources ≡ card g A
  ended-sources =
      (ended-peeling t e).queued.sizes.sources ∙ sum-ext g.order (λ u l. rw (sources-same u l))

  -- on both sides
  ended-targets : p.targets ≡ card g B
  ended-targets =
      (ended-peeling t e).queued.sizes.targets ∙ sum-ext g.order (λ v l. rw (targets-same v l))

  -- and its total is E of them
  ended-edges : p.edges ≡ edges g A B
  ended-edges =
      e.peeling.total.counted g (tabled-kept t e.kept)
      ∙ edges-same t.closed (λ u l. all-dropped u ∙ sources-same u l) (λ v l. all-dropped (g.order + v) ∙ targets-same v l)
    where
      -- what is not dropped is what is left
      all-dropped : (q : ℕ) → standing c.extent.order c.extent.size w' p q ≡ left g.order c.extent.size w' p q
      all-dropped q = rw (t.order, z)

module _ {d : Bool} {c : Scope} {w w' s' t' : List ℕ} {p : Peel} {r : Totals} (s t : List ℕ) {at : ℕ} (e : Ended d c w w' p) (z : p.head ≡ p.tail)
    (start : at ≡ 2 * c.extent.order + 1 + 2 * c.extent.size)
    (first : s' ≡ bytes_of c.extent.order (at_least w' at c.x) ++ drop c.extent.order s)
    (second : t' ≡ bytes_of c.extent.order (at_least w' (at + c.extent.order) c.y) ++ drop c.extent.order t)
    (sources : r.sources ≡ p.sources) (targets : r.targets ≡ p.targets) (total : r.edges ≡ p.edges) where
  -- the bytes of the first group are by the degrees of the sources
  bytes-source : {g : Graph} → Tabled g c.extent.order c.extent.size w → (u : ℕ) → u < g.order
      → group_of s' u ≡ leb c.x (degree_of g.order c.extent.size w' u)
  bytes-source k u l = rw (k.order, ← start) (written-group c.extent.order (at_least w' at c.x) s first u (omega (arith, k.order)))

  -- those of the second by the degrees of the targets
  bytes-target : {g : Graph} → Tabled g c.extent.order c.extent.size w → (v : ℕ) → v < g.order
      → group_of t' v ≡ leb c.y (degree_of g.order c.extent.size w' (g.order + v))
  bytes-target k v l = rw (k.order, ← start, ← add_assoc at c.extent.order v) (written-group c.extent.order (at_least w' (at + c.extent.order) c.y) t second v (omega (arith, k.order)))

  -- so the call's answer is right
  pub core-in : CoreIn c w w' s s' t t' r
  core-in =
      record {
        core = λ g k. ended-core e z k (bytes-source k) (bytes-target k);
        counted =
            λ g k.
            totals-same
            (total ∙ ended-edges e z k (bytes-source k) (bytes-target k))
            (sources ∙ ended-sources e z k (bytes-source k) (bytes-target k))
            (targets ∙ ended-targets e z k (bytes-source k) (bytes-target k));
        sources = written_in c.extent.order (at_least w' at c.x) s first;
        targets = written_in c.extent.order (at_least w' (at + c.extent.order) c.y) t second;
        kept = e.kept;
      }

-- a peel that is not cut has no place that waits
pub not-cut : {d : Bool} {c : Scope} {w w' : List ℕ} {p : Peel} → Ended d c w w' p → (not d && emptied p) ≡ false → p.head ≡ p.tail
not-cut {d = true} e h = e.drained refl
not-cut {d = false} e h = e.done h

-- one that is cut, where both sides need an edge
module _ {d : Bool} {c : Scope} {w w' : List ℕ} {p : Peel} (e : Ended d c w w' p) (z : emptied p ≡ true) (x : 1 ≤ c.x) (y : 1 ≤ c.y) where
  -- leaves no pair that is dense and has anybody
  no-dense : {g : Graph} → Tabled g c.extent.order c.extent.size w → {S T : Group} → Dense g c.x c.y S T → ¬ (1 ≤ card g S)
  no-dense t k h =
      sides-none p z (left_both c.x c.y t.closed (ended-indexed t e) (ended-peeling t e) (nonempty t.closed k h ((dense-both t.closed x y k).0 h)))

  -- so nobody is the core
  cut-core : {g : Graph} → Tabled g c.extent.order c.extent.size w → Core g c.x c.y nobody nobody
  cut-core {g} t =
      record {
        sources = λ u l h. refl;
        targets = λ v l h. refl;
        dense = record { out = λ u l h. absurd (false≢true h); inn = λ v l h. absurd (false≢true h) };
        largest =
            λ S T i j k.
            (λ u l h. absurd (no-dense t k (some-card g S u l h)), λ v l h. absurd (no-dense t k ((dense-both t.closed x y k).1 (some-card g T v l h))));
      }

  -- and the call's answer is right where both groups are cleared
  pub cut_in : {s' t' : List ℕ} {r : Totals} (s t : List ℕ) → s' ≡ bytes_of c.extent.order nobody ++ drop c.extent.order s
      → t' ≡ bytes_of c.extent.order nobody ++ drop c.extent.order t → r ≡ record { edges = 0; sources = 0; targets = 0 } → CoreIn c w w' s s' t t' r
  cut_in {s'} {t'} s t first second r =
      record {
        core = λ g k. core-same k.closed (cleared s first k) (cleared t second k) (cut-core k);
        counted =
            λ g k.
            let out = card-same g (cleared s first k) in
            let inn = card-same g (cleared t second k) in
            r ∙ totals-same (sym (no_edges k.closed (group_of s') (group_of t') (sym inn ∙ sum-zero g.order))) (sym (sum-zero g.order) ∙ out) (sym (sum-zero g.order) ∙ inn);
        sources = written_in c.extent.order nobody s first;
        targets = written_in c.extent.order nobody t second;
        kept = e.kept;
      }
    where
      -- nobody is in a group that is cleared
      cleared : (s : List ℕ) {s' : List ℕ} → s' ≡ bytes_of c.extent.order nobody ++ drop c.extent.order s → {g : Graph} → Tabled g c.extent.order c.extent.size w
          → Same g nobody (group_of s')
      cleared s h k u l = sym (written-group c.extent.order nobody s h u (omega (arith, k.order)))

      -- and no edge goes to it
      no_edges : {g : Graph} → Closed g → (S T : Group) → card g T ≡ 0 → edges g S T ≡ 0
      no_edges {g} k S T n = ⊎_elim (λ z. z) (λ h. absurd (omega (arith, edges-other k S T h))) (eq-zero-or-pos (edges g S T))
