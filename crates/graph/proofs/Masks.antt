-- One graph with two weights: heavier edges make no core smaller, and only the weights of its edges count.
use Prim.Native.Nat.{ℕ, ◌<◌, ◌≤◌}
use mathlib.Core.Bool.{◌&&◌}
use mathlib.Core.Path.{◌≡◌, sym}
use native.Mathlib.Nat.{le_trans, le_of_eq}
use Rattle.graph.specs.Graph.{Graph, Group, edges}
use Rattle.graph.specs.Shapes.{Closed}
use Rattle.graph.specs.Core.{Dense, CoreInside, NonemptyInside, FindingInside}
use Rattle.graph.proofs.Tests.{if-heavier}
use Rattle.graph.proofs.Sums.{sum_mono}
use Rattle.graph.proofs.Degrees.{only}
use Rattle.graph.proofs.Exists.{nonempty-in}

-- the graph with other weights
abbrev pub weighing : Graph → (ℕ → ℕ) → Graph
weighing g w = record { order = g.order; size = g.size; source = g.source; target = g.target; weight = w }

-- each edge joins two vertices whatever it weighs
pub closed-weighing : {g : Graph} → Closed g → (w : ℕ → ℕ) → Closed (weighing g w)
closed-weighing k w = record { source-below = k.source-below; target_below = k.target_below }

-- where x and y have the same core, and no other core of the one is not empty unless it is so in the other, the finding is the same
pub finding-same : (g : Graph) (w w' : ℕ → ℕ) {A B A' B' : Group} {x y : ℕ} {S T : Group}
    → (1 ≤ x → 1 ≤ y → CoreInside (weighing g w) A B x y S T → CoreInside (weighing g w') A' B' x y S T)
    → ((x' y' : ℕ) → 1 ≤ x' → 1 ≤ y' → NonemptyInside (weighing g w') A' B' x' y' → NonemptyInside (weighing g w) A B x' y')
    → FindingInside (weighing g w) A B x y S T → FindingInside (weighing g w') A' B' x y S T
finding-same g w w' core back f =
    record {
      x-positive = f.x-positive;
      y-positive = f.y-positive;
      core = core f.x-positive f.y-positive f.core;
      some = f.some;
      other = f.other;
      before = λ x' y' p q n. f.before x' y' p q (back x' y' p q n);
    }

module _ (g : Graph) (w w' : ℕ → ℕ) (h : (e : ℕ) → e < g.size → w e ≤ w' e) where
  -- heavier edges count more between two groups
  edges-heavier : (S T : Group) → edges (weighing g w) S T ≤ edges (weighing g w') S T
  edges-heavier S T = sum_mono g.size (λ e l. if-heavier (S (g.source e) && T (g.target e)) (λ i. h e l))

  -- so a dense pair stays dense,
  dense-heavier : {x y : ℕ} {S T : Group} → Dense (weighing g w) x y S T → Dense (weighing g w') x y S T
  dense-heavier {S = S} {T = T} d =
      record {
        out = λ u l s. le_trans (d.out u l s) (edges-heavier (only u) T);
        inn = λ v l t. le_trans (d.inn v l t) (edges-heavier S (only v));
      }

  -- and a core that is not empty is not
  pub nonempty-heavier : Closed g → {A B : Group} {x y : ℕ} → NonemptyInside (weighing g w) A B x y → NonemptyInside (weighing g w') A B x y
  nonempty-heavier k n = nonempty-in (closed-weighing k w') n.core.sources n.core.targets (dense-heavier n.core.dense) n.some n.other

module _ (g : Graph) (w w' : ℕ → ℕ) (h : (e : ℕ) → e < g.size → w e ≡ w' e) where
  up : (e : ℕ) → e < g.size → w e ≤ w' e
  up e l = le_of_eq (h e l)

  down : (e : ℕ) → e < g.size → w' e ≤ w e
  down e l = le_of_eq (sym (h e l))

  -- edges of the same weights have the same cores
  core-weights : {A B : Group} {x y : ℕ} {S T : Group} → CoreInside (weighing g w) A B x y S T → CoreInside (weighing g w') A B x y S T
  core-weights c =
      record {
        sources = c.sources;
        targets = c.targets;
        dense = dense-heavier g w w' up c.dense;
        largest = λ R Q i j d. c.largest R Q i j (dense-heavier g w' w down d);
      }

  -- and the same finding
  pub finding-weights : Closed g → {A B : Group} {x y : ℕ} {S T : Group} → FindingInside (weighing g w) A B x y S T → FindingInside (weighing g w') A B x y S T
  finding-weights k = finding-same g w w' (λ p q. core-weights) (λ x' y' p q. nonempty-heavier g w' w down k)
