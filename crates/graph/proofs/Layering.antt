-- The layering of a graph: there is only one, and E of its layers is the whole weight.
use Prim.Native.Nat.{ℕ, zero, suc, ◌<◌, ◌≤◌}
use mathlib.Core.Logic.{⊎_elim}
use mathlib.Core.Path.{◌≡◌, refl, sym, ap, ◌∙◌}
use native.Mathlib.Nat.{le_refl, le_antisymm, eq-zero-or-pos, eq-or-lt_of_le}
use native.Mathlib.Omega.{arith}
use borrow.Author.Tests.{eq-eqb, eqb-true}
use lib.Dec.{eqb}
use Rattle.std.proofs.lemmas.Bool.Decides.{nat_tests}
use Rattle.graph.specs.Range.{sum}
use Rattle.graph.specs.Graph.{Graph}
use Rattle.graph.specs.Shapes.{Closed, total}
use Rattle.graph.specs.Layers.{is_in, edges_in, Layer, Layering}
use Rattle.graph.specs.Layered.{unlayered}
use Rattle.graph.proofs.Tests.{if_some}
use Rattle.graph.proofs.Sums.{sum-none}
use Rattle.graph.proofs.Layers.{in-same, joins-everyone, layer-some, layer-same, layer-unique, layer-product}
use Rattle.graph.proofs.Layered.{layered-edges}

-- each of the first n layers has the same edges by L as by L'
abbrev Agree : Graph → (ℕ → ℕ) → (ℕ → ℕ) → ℕ → Type 0
Agree g L L' n = (e : ℕ) → e < g.size → (l : ℕ) → 1 ≤ l → l ≤ n → eqb (L e) l ≡ eqb (L' e) l

-- then the same links are still in at the start of the next
agree-in : (g : Graph) (L L' : ℕ → ℕ) (n : ℕ) → Agree g L L' n → (e : ℕ) → e < g.size → is_in (suc n) (L e) ≡ is_in (suc n) (L' e)
agree-in g L L' n p e h =
    in-same (suc n) (L e) (L' e) (λ i j. eqb-true _ _ (sym (p e h (L e) i (omega arith)) ∙ eq-eqb (L e) (L e) refl)) (λ i j.
    eqb-true _ _ (p e h (L' e) i (omega arith) ∙ eq-eqb (L' e) (L' e) refl))

-- so two layerings agree as far as both go
agree : {g : Graph} → Closed g → {L L' : ℕ → ℕ} (n : ℕ) → ((l : ℕ) → 1 ≤ l → l ≤ n → Layer g L l) → ((l : ℕ) → 1 ≤ l → l ≤ n → Layer g L' l) → Agree g L L' n
agree c zero r s e h l i j = absurd (omega arith)
agree {g} c {L} {L'} (suc n) r s e h l i j =
    let p = agree c n (λ l i j. r l i (omega arith)) (λ l i j. s l i (omega arith)) in
    ⊎_elim (λ t. rw t (layer-unique c (agree-in g L L' n p) (r (suc n) (omega arith) (le_refl _)) (s (suc n) (omega arith) (le_refl _)) e h))
    (λ t. p e h l i (omega arith)) (eq-or-lt_of_le j)

module _ {g : Graph} (c : Closed g) {L L' : ℕ → ℕ} {K K' : ℕ} (a : Layering g L K) (b : Layering g L' K') where
  -- where one layering has no more layers than another, both have each link in the same layer
  same-layer : K ≤ K' → (e : ℕ) → e < g.size → 1 ≤ g.weight e → L' e ≡ L e
  same-layer i e h p =
      let q = (a.every e h).1 ((joins-everyone g e).1 p) in
      let t = agree c K a.layer (λ l j m. b.layer l j (omega arith)) e h (L e) q (a.most e h) in
      eqb-true _ _ (sym t ∙ eq-eqb (L e) (L e) refl)

  -- so the other has no more either
  no_more : K < K' → ⊥
  no_more i =
      let (e, h, q, p) = layer-some c (b.layer (suc K) (omega arith) i) in
      omega (arith, same-layer (omega arith) e h p, a.most e h)

-- there is only one layering
pub layering-unique : {g : Graph} → Closed g → {L L' : ℕ → ℕ} {K K' : ℕ} → Layering g L K → Layering g L' K' → (K ≡ K') × ((e : ℕ) → e < g.size → L e ≡ L' e)
layering-unique {g} c {L} {L'} {K} {K'} a b = grind (arith, nat_tests, le_antisymm, no_more, same-layer, joins-everyone, eq-zero-or-pos)

module _ {g : Graph} (c : Closed g) {L : ℕ → ℕ} {K : ℕ} (a : Layering g L K) where
  -- no link is left
  layering-none : total (unlayered g L) ≡ 0
  layering-none = grind (arith, nat_tests, sum-none, eq-zero-or-pos, if_some, joins-everyone)

  -- so E of the layers is the whole weight
  pub layering-edges : sum (λ i. edges_in g L (suc i)) K ≡ total g
  layering-edges = omega (arith, layered-edges c (record { most = a.most; layer = a.layer }), layering-none)

-- a layering by L is one by L' where each edge has the same layer
pub layering-same : {g : Graph} → Closed g → {L L' : ℕ → ℕ} {K : ℕ} → ((e : ℕ) → e < g.size → L e ≡ L' e) → Layering g L K → Layering g L' K
layering-same {g} c {L} {L'} h a =
    record {
      every = λ e l. rw (← h e l) (a.every e l);
      most = λ e l. rw (← h e l) (a.most e l);
      layer = λ l p q. layer-same c (λ e m. (ap (is_in l) (h e m), ap (λ b. eqb b l) (h e m))) (a.layer l p q);
      falls = λ l r s. layer-product c (omega arith) r s;
    }
