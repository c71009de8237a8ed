-- The first k layers: a loop begins with none and makes one more at each turn, until no link is without a layer; so every graph has a layering.
use Prim.Native.Nat.{ℕ, zero, suc, ◌+◌, ◌<◌, ◌≤◌}
use mathlib.Core.Bool.{Bool, true, false, ◌&&◌}
use mathlib.Core.Logic.{⊎_elim}
use mathlib.Core.Path.{◌≡◌, refl, sym, ap, ◌∙◌}
use native.Mathlib.Nat.{le_refl, le_trans, eq-zero-or-pos, eq-or-lt_of_le}
use native.Mathlib.Omega.{arith}
use borrow.Author.Tests.{eq-eqb, ne_eqb, eqb-true}
use lib.Dec.{eqb}
use Rattle.std.proofs.lemmas.Bool.Decides.{nat_tests}
use Rattle.graph.specs.Range.{sum, if}
use Rattle.graph.specs.Graph.{Graph, Group, everyone}
use Rattle.graph.specs.Shapes.{Closed, total}
use Rattle.graph.specs.Core.{Finding}
use Rattle.graph.specs.Layers.{is_in, still_in, joins, edges_in, Layer, Layering}
use Rattle.graph.specs.Layered.{unlayered, Layered, next}
use Rattle.graph.proofs.Tests.{and_left, if-le}
use Rattle.graph.proofs.Sums.{sum_first, sum-ext, sum_mono, sum_ones, sum-swap, sum-pick, term-le-sum}
use Rattle.graph.proofs.Found.{finding-exists}
use Rattle.graph.proofs.Masks.{closed-weighing}
use Rattle.graph.proofs.Layers.{in-same, joins-weight, joins-everyone, joins-keep, layer-make, layer-some, layer-same, layer-product}

-- whatever is counted of edges: counted layer by layer, with what is in none, it is the whole
by-layer : (L w : ℕ → ℕ) (n k : ℕ) → ((e : ℕ) → e < n → L e ≤ k)
    → sum (λ e. if (eqb (L e) 0) (w e)) n + sum (λ i. sum (λ e. if (eqb (L e) (suc i)) (w e)) n) k ≡ sum w n
by-layer L w n k h =
    sym (sum_first (λ l. sum (λ e. if (eqb (L e) l) (w e)) n) k)
    ∙ sum-swap (λ l e. if (eqb (L e) l) (w e)) n (suc k)
    ∙ sum-ext n (λ e l. sum-pick (λ i. w e) (suc k) (L e) (omega (arith, h e l)))

module _ {g : Graph} (c : Closed g) {L : ℕ → ℕ} {k : ℕ} (a : Layered g L k) where
  -- an edge that is in a layer is a link
  layered-link : (e : ℕ) → e < g.size → 1 ≤ L e → 1 ≤ g.weight e
  layered-link e l p =
      let r = a.layer (L e) p (a.most e l) in
      le_trans (joins-weight (still_in g L (L e)) r.S r.T e (sym (r.taken e l) ∙ eq-eqb (L e) (L e) refl)) (if-le (is_in (L e) (L e)) (g.weight e))

  -- E of the layers, and the links in none, are the whole weight
  pub layered-edges : total (unlayered g L) + sum (λ i. edges_in g L (suc i)) k ≡ total g
  layered-edges = by-layer L g.weight g.size k a.most

  -- each layer takes a link, so of what counts each link there is one for each layer
  layered-count : (w : ℕ → ℕ) → ((e : ℕ) → e < g.size → 1 ≤ g.weight e → 1 ≤ w e)
      → k + sum (λ e. if (eqb (L e) 0) (w e)) g.size ≤ sum w g.size
  layered-count w h = omega (arith, by-layer L w g.size k a.most, sum_ones k, sum_mono {f = λ i. 1} {h = λ i. sum (λ e. if (eqb (L e) (suc i)) (w e)) g.size} k one)
    where
      one : (i : ℕ) → i < k → 1 ≤ sum (λ e. if (eqb (L e) (suc i)) (w e)) g.size
      one i l =
          let (e, m, p, q) = layer-some c (a.layer (suc i) (omega arith) l) in
          let t : if (eqb (L e) (suc i)) (w e) ≡ w e = rw (eq-eqb (L e) (suc i) p) in
          omega (arith, term-le-sum (λ e. if (eqb (L e) (suc i)) (w e)) g.size e m, h e m q)

  -- there are at most as many layers as the weight taken,
  pub layered-total : k + total (unlayered g L) ≤ total g
  layered-total = layered-count g.weight (λ e l p. p)

  -- and as edges
  pub layered-size : k ≤ g.size
  layered-size = omega (arith, layered-count (λ e. 1) (λ e l p. le_refl 1), sum_ones g.size)

  -- at the start of the next layer the links in no layer yet are still in
  layered-in : (e : ℕ) → e < g.size → (unlayered g L).weight e ≡ (still_in g L (suc k)).weight e
  layered-in e l = grind (arith, nat_tests)

  -- once no link is without a layer all are made
  pub layered-ends : total (unlayered g L) ≡ 0 → Layering g L k
  layered-ends z =
      record {
        every = λ e l. (λ p. (joins-everyone g e).1 (layered-link e l p), λ p. ⊎_elim (λ q. absurd (none e l ((joins-everyone g e).0 p) q)) (λ q. q) (eq-zero-or-pos (L e)));
        most = a.most;
        layer = a.layer;
        falls = λ l r s. layer-product c (omega arith) r s;
      }
    where
      none : (e : ℕ) → e < g.size → 1 ≤ g.weight e → L e ≡ 0 → ⊥
      none e l p q =
          let t : (unlayered g L).weight e ≡ g.weight e = rw (eq-eqb (L e) 0 q) in
          omega (arith, term-le-sum (unlayered g L).weight g.size e l)

-- at first no edge is in a layer
pub layered-begins : (g : Graph) (L : ℕ → ℕ) → ((e : ℕ) → e < g.size → L e ≡ 0) → Layered g L 0
layered-begins g L h = record { most = λ e l. omega (arith, h e l); layer = λ l p q. absurd (omega arith) }

-- one more layer: the links between the groups of the finding of those in no layer yet
pub layered-next : {g : Graph} → Closed g → {L N : ℕ → ℕ} {k x y : ℕ} {S T : Group} → Layered g L k → Finding (unlayered g L) x y S T
    → ((e : ℕ) → e < g.size → N e ≡ next g L (suc k) S T e) → Layered g N (suc k)
layered-next {g} c {L} {N} {k} {x} {y} {S} {T} a f m = record { most = most; layer = λ l p q. ⊎_elim (λ i. rw i new) (λ i. old l p (omega arith)) (eq-or-lt_of_le q) }
  where
    put : ℕ → Bool
    put e = eqb (L e) 0 && joins g S T e

    -- an edge is put into the new layer from none, or stays where it is
    step : {P : Type 0} (e : ℕ) → e < g.size → (put e ≡ true → N e ≡ suc k → L e ≡ 0 → P) → (put e ≡ false → N e ≡ L e → P) → P
    step {P} e l f h = go (put e) refl
      where
        go : (b : Bool) → put e ≡ b → P
        go true t = f t (m e l ∙ rw t) (eqb-true _ _ (and_left (eqb (L e) 0) (joins g S T e) t))
        go false t = h t (m e l ∙ rw t)

    most : (e : ℕ) → e < g.size → N e ≤ suc k
    most e l = step e l (λ t p q. omega arith) (λ t p. omega (arith, a.most e l))

    still : (l e : ℕ) → e < g.size → l ≤ suc k → is_in l (L e) ≡ is_in l (N e)
    still l e h i =
        in-same l (L e) (N e) (λ p q. step e h (λ t u z. absurd (omega arith)) (λ t u. u)) (λ p q. step e h (λ t u z. absurd (omega arith)) (λ t u. sym u))

    new : Layer g N (suc k)
    new =
        layer-make c (unlayered g L).weight f (λ e h. layered-in c a e h ∙ ap (λ t. if t (g.weight e)) (still (suc k) e h (le_refl _))) (λ e h.
        step e h (λ t u z. eq-eqb (N e) (suc k) u ∙ sym t) (λ t u. ne_eqb (N e) (suc k) (omega (arith, a.most e h)) ∙ sym t)
        ∙ sym (joins-keep g (λ d. eqb (L d) 0) S T e))

    old : (l : ℕ) → 1 ≤ l → l ≤ k → Layer g N l
    old l p q =
        layer-same c (λ e h. (
          still l e h (omega arith),
          step e h (λ t u z. ne_eqb (L e) l (omega arith) ∙ sym (ne_eqb (N e) l (omega arith))) (λ t u. ap (λ i. eqb i l) (sym u)),
        )) (a.layer l p q)

-- every graph has a layering
pub layering-exists : {g : Graph} → Closed g → (L : ℕ → ℕ) × (K : ℕ) × Layering g L K
layering-exists {g} c = go (total g) (layered-begins g (λ e. 0) (λ e l. refl)) (omega arith)
  where
    go : (n : ℕ) {L : ℕ → ℕ} {k : ℕ} → Layered g L k → total g ≤ k + n → (L : ℕ → ℕ) × (K : ℕ) × Layering g L K
    go zero {L} {k} a h = (L, k, layered-ends c a (omega (arith, layered-total c a)))
    go (suc n) {L} {k} a h =
        ⊎_elim (λ z. (L, k, layered-ends c a z)) (λ p.
        let (x, y, S, T, f) = finding-exists (closed-weighing c _) everyone everyone p in
        go n (layered-next c a f (λ e l. refl)) (omega arith)) (eq-zero-or-pos (total (unlayered g L)))
