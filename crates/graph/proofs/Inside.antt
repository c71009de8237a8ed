-- The layers inside A and B are the layers of the graph in which only the edges from A to B count; so every graph has them, and only once.
use Prim.Native.Nat.{ℕ, suc, ◌<◌}
use mathlib.Core.Bool.{Bool, true, false}
use mathlib.Core.Logic.{◌↔◌}
use mathlib.Core.Path.{◌≡◌, refl, sym, ◌∙◌}
use native.Mathlib.Omega.{arith}
use borrow.Author.Tests.{eqb-true}
use lib.Dec.{eqb, leb}
use Rattle.std.proofs.lemmas.Bool.Decides.{nat_tests}
use Rattle.graph.specs.Range.{sum, if}
use Rattle.graph.specs.Graph.{Graph, Group, everyone, edges}
use Rattle.graph.specs.Shapes.{Closed}
use Rattle.graph.specs.Core.{Inside}
use Rattle.graph.specs.Layers.{is_in, still_in, joins, edges_in, LayerInside, Layer, LayeringInside, Layering}
use Rattle.graph.specs.Within.{between, within}
use Rattle.graph.proofs.Tests.{and_right, if-swap}
use Rattle.graph.proofs.Sums.{sum-ext}
use Rattle.graph.proofs.Masks.{closed-weighing, finding-weights}
use Rattle.graph.proofs.Within.{closed-within, finding-within}
use Rattle.graph.proofs.Layers.{layer-make, layer-product}
use Rattle.graph.proofs.Layered.{layering-exists}
use Rattle.graph.proofs.Layering.{layering-unique, layering-edges}

-- a link from A to B is a link of that graph, among everyone
joins-within : (g : Graph) (A B : Group) (e : ℕ) → joins (within g A B) everyone everyone e ≡ joins g A B e
joins-within g A B e = grind (arith, nat_tests)

-- an edge that is a link from A to B goes from A to B
joins-ends : (g : Graph) (A B : Group) (e : ℕ) → joins g A B e ≡ true → between g A B e ≡ true
joins-ends g A B e = and_right (leb 1 (g.weight e)) _

module _ {g : Graph} (k : Closed g) (A B : Group) where
  -- so does one from S to T where these are inside A and B: of the links still in, those from S to T are the same
  joins-inside : {S T : Group} → Inside g S A → Inside g T B → (L : ℕ → ℕ) (l e : ℕ) → e < g.size
      → joins (still_in (within g A B) L l) S T e ≡ joins (still_in g L l) S T e
  joins-inside {S} {T} i j L l e h = grind (arith, nat_tests)

  -- of the links from A to B those still in weigh the same, whichever test comes first
  still-within : (L : ℕ → ℕ) (l e : ℕ) → e < g.size → (still_in (within g A B) L l).weight e ≡ (within (still_in g L l) A B).weight e
  still-within L l e h = if-swap (is_in l (L e)) (between g A B e) (g.weight e)

  module _ {L : ℕ → ℕ} where
    -- a layer of that graph is a layer inside A and B, and no other is
    pub layer-within : {l : ℕ} → Layer (within g A B) L l ↔ LayerInside g A B L l
    layer-within {l} = (there, back)
      where
        there : Layer (within g A B) L l → LayerInside g A B L l
        there r =
            let f = (finding-within (closed-weighing k _) A B).0 (finding-weights g _ (within (still_in g L l) A B).weight (still-within L l) k r.finding) in
            layer-make k (still_in g L l).weight f (λ e h. refl) (λ e h. r.taken e h ∙ joins-inside f.core.sources f.core.targets L l e h)

        back : LayerInside g A B L l → Layer (within g A B) L l
        back r =
            let f = finding-weights g _ (still_in (within g A B) L l).weight (λ e h. sym (still-within L l e h)) k ((finding-within (closed-weighing k _) A B).1 r.finding) in
            layer-make (closed-within k A B) (still_in (within g A B) L l).weight f (λ e h. refl) (λ e h.
            r.taken e h ∙ sym (joins-inside r.finding.core.sources r.finding.core.targets L l e h))

    -- so its layering is the layering inside A and B
    pub layering-within : {K : ℕ} → Layering (within g A B) L K ↔ LayeringInside g A B L K
    layering-within {K} = (
      λ a. record {
        every = λ e h. rw (← joins-within g A B e) (a.every e h);
        most = a.most;
        layer = λ l p q. layer-within.0 (a.layer l p q);
        falls = λ l r s. layer-product k (omega arith) r s;
      },
      λ a. record {
        every = λ e h. rw (joins-within g A B e) (a.every e h);
        most = a.most;
        layer = λ l p q. layer-within.1 (a.layer l p q);
        falls = λ l r s. layer-product (closed-within k A B) (omega arith) r s;
      },
    )

    -- 02: E of the layers add up to E(A,B)
    pub layering-inside-edges : {K : ℕ} → LayeringInside g A B L K → sum (λ i. edges_in g L (suc i)) K ≡ edges g A B
    layering-inside-edges {K} a = sum-ext K (λ i l. sum-ext g.size (λ e h. each i e h (eqb (L e) (suc i)) refl)) ∙ layering-edges (closed-within k A B) (layering-within.1 a)
      where
        each : (i e : ℕ) → e < g.size → (t : Bool) → eqb (L e) (suc i) ≡ t → if t (g.weight e) ≡ if t ((within g A B).weight e)
        each i e h false q = refl
        each i e h true q = rw (joins-ends g A B e ((a.every e h).0 (omega (arith, eqb-true (L e) (suc i) q))))

  -- every graph has a layering inside A and B
  pub layering-inside-exists : (L : ℕ → ℕ) × (K : ℕ) × LayeringInside g A B L K
  layering-inside-exists = let (L, K, a) = layering-exists (closed-within k A B) in (L, K, layering-within.0 a)

  -- and only one
  pub layering-inside-unique : {L L' : ℕ → ℕ} {K K' : ℕ} → LayeringInside g A B L K → LayeringInside g A B L' K' → (K ≡ K') × ((e : ℕ) → e < g.size → L e ≡ L' e)
  layering-inside-unique a b = layering-unique (closed-within k A B) (layering-within.1 a) (layering-within.1 b)
