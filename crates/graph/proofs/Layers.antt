-- One layer: what it takes to be one, its links, and its x * y beside that of a later one.
use Prim.Native.Nat.{ℕ, ◌*◌, ◌<◌, ◌≤◌}
use mathlib.Core.Bool.{Bool, true, ◌&&◌}
use mathlib.Core.Logic.{◌↔◌}
use mathlib.Core.Path.{◌≡◌, refl, sym, ap, ◌∙◌}
use native.Mathlib.Nat.{le_trans, one-le-mul}
use native.Mathlib.Omega.{arith}
use borrow.Author.Tests.{le-leb, leb-true, eqb-true}
use lib.Dec.{eqb, leb}
use Rattle.std.proofs.lemmas.Bool.Decides.{nat_tests}
use Rattle.graph.specs.Range.{if}
use Rattle.graph.specs.Graph.{Graph, Group, everyone, edges}
use Rattle.graph.specs.Shapes.{Closed}
use Rattle.graph.specs.Core.{FindingInside}
use Rattle.graph.specs.Layers.{keep, is_in, still_in, joins, edges_in, LayerInside}
use Rattle.graph.proofs.Tests.{and_left, and_both, if-mono, if_some}
use Rattle.graph.proofs.Sums.{sum-ext, sum-some}
use Rattle.graph.proofs.Exists.{dense-edges}
use Rattle.graph.proofs.Density.{finding-bounds}
use Rattle.graph.proofs.Found.{finding-unique, finding-nonempty}
use Rattle.graph.proofs.Masks.{weighing, closed-weighing, nonempty-heavier, finding-weights}

-- two layers that are equal where one of them is before l are both in or both not
pub in-same : (l a b : ℕ) → (1 ≤ a → a < l → b ≡ a) → (1 ≤ b → b < l → a ≡ b) → is_in l a ≡ is_in l b
in-same l a b f h = grind (arith, nat_tests)

-- what is in at the start of a layer is in at the start of each before it
in-before : (l m a : ℕ) → l ≤ m → is_in m a ≡ true → is_in l a ≡ true
in-before l m a h i = grind (arith, nat_tests)

-- a link from S to T has weight
pub joins-weight : (g : Graph) (S T : Group) (e : ℕ) → joins g S T e ≡ true → 1 ≤ g.weight e
joins-weight g S T e h = leb-true 1 _ (and_left _ (S (g.source e) && T (g.target e)) h)

-- an edge with weight is a link among everyone, and no other is
pub joins-everyone : (g : Graph) (e : ℕ) → (joins g everyone everyone e ≡ true) ↔ (1 ≤ g.weight e)
joins-everyone g e = (joins-weight g everyone everyone e, λ p. and_both (le-leb 1 _ p) refl)

-- the links from S to T among the edges that pass a test
pub joins-keep : (g : Graph) (p : ℕ → Bool) (S T : Group) (e : ℕ) → joins (keep g p) S T e ≡ (p e && joins g S T e)
joins-keep g p S T e = grind (arith, nat_tests)

-- E(S,T) of the links still in is E of the layer that has them
taken-edges : (g : Graph) (L : ℕ → ℕ) (l : ℕ) (S T : Group) → ((e : ℕ) → e < g.size → eqb (L e) l ≡ joins (still_in g L l) S T e)
    → edges (still_in g L l) S T ≡ edges_in g L l
taken-edges g L l S T taken = grind (arith, nat_tests, sum-ext)

module _ {g : Graph} (k : Closed g) {A B : Group} {L : ℕ → ℕ} {l : ℕ} where
  -- a layer is made of the finding of the links still in at its start, told by their weights, and of its links
  pub layer-make : {x y : ℕ} {S T : Group} (w : ℕ → ℕ) → FindingInside (weighing g w) A B x y S T
      → ((e : ℕ) → e < g.size → w e ≡ (still_in g L l).weight e) → ((e : ℕ) → e < g.size → eqb (L e) l ≡ joins (weighing g w) S T e) → LayerInside g A B L l
  layer-make {x} {y} {S} {T} w f same taken =
      let found = finding-weights g w (still_in g L l).weight same k f in
      let links : (e : ℕ) → e < g.size → eqb (L e) l ≡ joins (still_in g L l) S T e = λ e h. taken e h ∙ ap (λ t. leb 1 t && (S (g.source e) && T (g.target e))) (same e h) in
      record {
        x = x;
        y = y;
        S = S;
        T = T;
        finding = found;
        taken = links;
        counted = taken-edges g L l S T links;
        bounds = finding-bounds (closed-weighing k _) found;
      }

  -- it has a link
  pub layer-some : LayerInside g A B L l → (e : ℕ) × (e < g.size) × (L e ≡ l) × (1 ≤ g.weight e)
  layer-some r =
      let some : 1 ≤ edges (still_in g L l) r.S r.T = le_trans (one-le-mul r.finding.x-positive r.finding.some) (dense-edges (closed-weighing k _) r.finding.core.dense) in
      let (e, h, p) = sum-some _ g.size (rw r.counted at some) in
      let (t, q) = if_some (eqb (L e) l) (g.weight e) p in
      (e, h, eqb-true _ _ t, q)

module _ {g : Graph} (k : Closed g) {A B : Group} {L L' : ℕ → ℕ} {l : ℕ} where
  -- a layer by L is one by L' where each edge is in it, and is still in at its start, by the one just where by the other
  pub layer-same : ((e : ℕ) → e < g.size → (is_in l (L e) ≡ is_in l (L' e)) × (eqb (L e) l ≡ eqb (L' e) l)) → LayerInside g A B L l → LayerInside g A B L' l
  layer-same same r =
      layer-make k (still_in g L l).weight r.finding (λ e h. ap (λ t. if t (g.weight e)) (same e h).0) (λ e h. sym (same e h).1 ∙ r.taken e h)

  -- and where the same links are still in, both have the same edges
  pub layer-unique : ((e : ℕ) → e < g.size → is_in l (L e) ≡ is_in l (L' e)) → LayerInside g A B L l → LayerInside g A B L' l → (e : ℕ) → e < g.size → eqb (L e) l ≡ eqb (L' e) l
  layer-unique same r s e h =
      let w : (e : ℕ) → e < g.size → (still_in g L l).weight e ≡ (still_in g L' l).weight e = λ e h. ap (λ t. if t (g.weight e)) (same e h) in
      let (p, q, i, j) = finding-unique (finding-weights g (still_in g L l).weight (still_in g L' l).weight w k r.finding) s.finding in
      r.taken e h ∙ rw (same e h, i _ (k.source-below e h), j _ (k.target_below e h)) (sym (s.taken e h))

-- x * y never rises from a layer to a later one
pub layer-product : {g : Graph} → Closed g → {A B : Group} {L : ℕ → ℕ} {l m : ℕ} → l ≤ m → (r : LayerInside g A B L l) (s : LayerInside g A B L m) → s.x * s.y ≤ r.x * r.y
layer-product {g} k {L = L} {l} {m} i r s =
    (r.finding.before s.x s.y s.finding.x-positive s.finding.y-positive
    (nonempty-heavier g (still_in g L m).weight (still_in g L l).weight (λ e h. if-mono (g.weight e) (in-before l m (L e) i)) k (finding-nonempty s.finding))).product
