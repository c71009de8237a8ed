-- Vertices two by two. What is counted between two groups is counted between their vertices; where none stands twice, that is no more than one edge
-- weighs, and where each weighs 1 it is 1 where one goes from the one to the other, and else 0. So a graph that has the links of another between two groups counts no less there.
use Prim.Native.Nat.{ℕ, ◌<◌, ◌≤◌}
use mathlib.Core.Bool.{true, ◌&&◌}
use mathlib.Core.Path.{◌≡◌, refl, ◌∙◌}
use native.Mathlib.Decide.{dec_le}
use native.Mathlib.Omega.{arith}
use borrow.Author.Tests.{eq-eqb, eqb-true}
use lib.Dec.{eqb}
use Rattle.std.proofs.lemmas.Bool.Decides.{nat_tests}
use Rattle.graph.specs.Range.{sum, if}
use Rattle.graph.specs.Graph.{Graph, Linked, Group, everyone, edges}
use Rattle.graph.specs.Shapes.{Closed, Simple, Single}
use Rattle.graph.specs.Adding.{Plain}
use Rattle.graph.proofs.Tests.{and_left, and_right, if_some, if-heavier}
use Rattle.graph.proofs.Sums.{sum-ext, sum_mono, sum_ones, sum-pick, sum-some, term-le-sum}
use Rattle.graph.proofs.Degrees.{only, edges-out, edges-in}
use Rattle.graph.proofs.Masks.{weighing, closed-weighing}

-- what is counted between two groups is counted between their vertices
edges-pairs : {g : Graph} → Closed g → (S T : Group)
    → edges g S T ≡ sum (λ a. if (S a) (sum (λ b. if (T b) (edges g (only a) (only b))) g.order)) g.order
edges-pairs {g} k S T = edges-out k S T ∙ sum-ext g.order (λ a l. rw (edges-in k (only a) T))

-- so a graph that counts no less between these, two by two, counts no less
pairs-le : {g h : Graph} → Closed g → Closed h → h.order ≡ g.order → (S T : Group)
    → ((a b : ℕ) → S a ≡ true → T b ≡ true → edges g (only a) (only b) ≤ edges h (only a) (only b)) → edges g S T ≤ edges h S T
pairs-le {g} {h} k k' n S T p =
    rw (edges-pairs k S T, edges-pairs k' S T, n)
    (sum_mono g.order (λ a i. if-heavier (S a) (λ s. sum_mono g.order (λ b j. if-heavier (T b) (p a b s)))))

-- where something is counted between two vertices, an edge goes from the one to the other
pair-linked : (g : Graph) (a b : ℕ) → 1 ≤ edges g (only a) (only b) → Linked g a b
pair-linked g a b p =
    let (e, l, q) = sum-some _ g.size p in
    let t = (if_some (only a (g.source e) && only b (g.target e)) (g.weight e) q).0 in
    (e, l, eqb-true _ a (and_left _ _ t), eqb-true _ b (and_right _ _ t))

-- and where one does, something is
linked-pair : (g : Graph) → Single g → (a b : ℕ) → Linked g a b → 1 ≤ edges g (only a) (only b)
linked-pair g w a b (e, l, s, t) = omega (arith, term-le-sum (λ e. if (only a (g.source e) && only b (g.target e)) (g.weight e)) g.size e l, here, w e l)
  where
    here : if (only a (g.source e) && only b (g.target e)) (g.weight e) ≡ g.weight e
    here = rw (eq-eqb _ a s, eq-eqb _ b t) refl

-- and no more than one edge weighs
pub pair-most : (g : Graph) (c : ℕ) → Simple g → ((e : ℕ) → e < g.size → g.weight e ≤ c) → (a b : ℕ) → edges g (only a) (only b) ≤ c
pair-most g c s w a b =
    elim (dec_le 1 (edges g (only a) (only b))) [
      | yes p ↦ let (e, l, i, j) = pair-linked g a b p in omega (arith, sum_mono g.size (same e l i j), sum-pick (λ d. c) g.size e l)
      | no p ↦ omega arith
    ]
  where
    same : (e : ℕ) → e < g.size → g.source e ≡ a → g.target e ≡ b → (d : ℕ) → d < g.size
        → if (only a (g.source d) && only b (g.target d)) (g.weight d) ≤ if (eqb e d) c
    same e l i j d m = grind (arith, nat_tests)

-- so a graph that has the links of another between two groups counts no less there
pub linked-le : {g h : Graph} → Plain g → Single g → Plain h → Single h → h.order ≡ g.order → (S T : Group)
    → ((a b : ℕ) → S a ≡ true → T b ≡ true → Linked g a b → Linked h a b) → edges g S T ≤ edges h S T
linked-le {g} {h} p w q w' n S T has = pairs-le p.closed q.closed n S T each
  where
    each : (a b : ℕ) → S a ≡ true → T b ≡ true → edges g (only a) (only b) ≤ edges h (only a) (only b)
    each a b s t =
        elim (dec_le 1 (edges g (only a) (only b))) [
          | yes i ↦ omega (arith, pair-most g 1 p.simple (λ e l. omega (arith, w e l)) a b, linked-pair h w' a b (has a b s t (pair-linked g a b i)))
          | no i ↦ omega arith
        ]

-- and one that has all its links has no fewer edges, whatever these weigh: they are as many as are counted between everyone where each weighs 1
pub linked-size : {g h : Graph} → Plain g → Plain h → h.order ≡ g.order → ((a b : ℕ) → Linked g a b → Linked h a b) → g.size ≤ h.size
linked-size {g} {h} p q n has =
    omega (arith, linked-le (plain-one p) (λ e l. refl) (plain-one q) (λ e l. refl) n everyone everyone (λ a b s t. has a b), sum_ones g.size, sum_ones h.size)
  where
    plain-one : {g : Graph} → Plain g → Plain (weighing g (λ e. 1))
    plain-one r = record { closed = closed-weighing r.closed (λ e. 1); simple = r.simple }
