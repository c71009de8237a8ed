-- What lies inside two groups A and B is told by the graph `within g A B`: its cores, cut down to A and B, are the cores inside them,
-- and its levels and its finding are theirs.
use Prim.Native.Nat.{ℕ, ◌≤◌}
use mathlib.Core.Bool.{Bool, true, false, ◌&&◌}
use mathlib.Core.Logic.{◌↔◌}
use mathlib.Core.Path.{◌≡◌, refl, ◌∙◌}
use native.Mathlib.Nat.{le_trans}
use borrow.Author.Tests.{eqb-true}
use Rattle.graph.specs.Range.{if}
use Rattle.graph.specs.Graph.{Graph, Group, card, edges}
use Rattle.graph.specs.Shapes.{Closed, Same}
use Rattle.graph.specs.Core.{Inside, Dense, CoreInside, Core, NonemptyInside, Nonempty, Greatest, LevelInside, Level, LevelAcrossInside, LevelAcross, EqualLevelInside, EqualLevel, FindingInside, Finding}
use Rattle.graph.specs.Within.{within, cut}
use Rattle.graph.proofs.Tests.{and_left, and_right, and_both, test-ext}
use Rattle.graph.proofs.Sums.{sum-ext}
use Rattle.graph.proofs.Degrees.{only, edges-mono, edges-same, edges_some, edges-other, card-some}
use Rattle.graph.proofs.Exists.{core-same}
use Rattle.graph.proofs.Masks.{closed-weighing, finding-same}

-- E between two groups there is E between what is of them in A and in B
pub edges-within : (g : Graph) (A B S T : Group) → edges (within g A B) S T ≡ edges g (cut S A) (cut T B)
edges-within g A B S T = sum-ext g.size (λ e l. four (S (g.source e)) (T (g.target e)) (A (g.source e)) (B (g.target e)) (g.weight e))
  where
    four : (s t a b : Bool) (w : ℕ) → if (s && t) (if (a && b) w) ≡ if ((s && a) && (t && b)) w
    four true true a b w = refl
    four false t a b w = refl
    four true false true b w = refl
    four true false false b w = refl

-- what is cut down is in the group
cut_left : (g : Graph) (S A : Group) → Inside g (cut S A) S
cut_left g S A u l = and_left (S u) (A u)

-- a group inside A is in what is left of it
inside-cut : (g : Graph) {S A : Group} → Inside g S A → Inside g S (cut S A)
inside-cut g i u l h = and_both h (i u l h)

-- so is a vertex of A
only-cut : (g : Graph) (A : Group) (u : ℕ) → A u ≡ true → Inside g (only u) (cut (only u) A)
only-cut g A u h w l e = and_both e (rw (eqb-true w u e) h)

-- of whom something is left is in A
cut-only : (g : Graph) (A : Group) (u : ℕ) → 1 ≤ card g (cut (only u) A) → A u ≡ true
cut-only g A u p =
    let (w, l, h) = card-some g (cut (only u) A) p in
    rw (eqb-true w u (and_left (only u w) (A w) h)) at (and_right (only u w) (A w) h)

-- a group inside A is cut down to itself
cut-same : (g : Graph) {S A : Group} → Inside g S A → Same g (cut S A) S
cut-same g {S} {A} i u l = test-ext _ _ (and_left (S u) (A u)) (inside-cut g i u l)

-- what holds the same from 1 on has the same greatest
pub greatest-same : {P Q : ℕ → Type 0} {k : ℕ} → ((j : ℕ) → 1 ≤ j → P j ↔ Q j) → Greatest P k → Greatest Q k
greatest-same {P} {Q} {k} e m = record { holds = λ p. (e k p).0 (m.holds p); above = λ j p q. m.above j p ((e j p).1 q) }

-- a closed graph, and the graph in which only its edges from A to B count
module _ {g : Graph} (k : Closed g) (A B : Group) where
  -- its edges are those of the graph
  pub closed-within : Closed (within g A B)
  closed-within = closed-weighing k _

  -- between groups inside A and B E is that of the graph
  pub edges-inside : {S T : Group} → Inside g S A → Inside g T B → edges (within g A B) S T ≡ edges g S T
  edges-inside {S} {T} i j = edges-within g A B S T ∙ edges-same k (cut-same g i) (cut-same g j)

  -- a dense pair inside A and B is dense there,
  pub dense-within : {x y : ℕ} {S T : Group} → Inside g S A → Inside g T B → Dense g x y S T → Dense (within g A B) x y S T
  dense-within {S = S} {T = T} i j d =
      record {
        out = λ u l h. rw (edges-within g A B (only u) T) (le_trans (d.out u l h) (edges-mono k (only-cut g A u (i u l h)) (inside-cut g j)));
        inn = λ v l h. rw (edges-within g A B S (only v)) (le_trans (d.inn v l h) (edges-mono k (inside-cut g i) (only-cut g B v (j v l h))));
      }

  -- and a pair that is dense there is so in the graph once it is cut down
  pub within-dense : {x y : ℕ} {S T : Group} → Dense (within g A B) x y S T → Dense g x y (cut S A) (cut T B)
  within-dense {S = S} {T = T} d =
      record {
        out =
            λ u l h.
            le_trans (rw (edges-within g A B (only u) T) at (d.out u l (cut_left g S A u l h))) (edges-mono k {T = cut T B} (cut_left g (only u) A) (λ v m t. t));
        inn =
            λ v l h.
            le_trans (rw (edges-within g A B S (only v)) at (d.inn v l (cut_left g T B v l h))) (edges-mono k {S = cut S A} (λ u m s. s) (cut_left g (only v) B));
      }

  -- so its core, cut down to A and B, is the core inside A and B
  pub core-within : {x y : ℕ} {S T : Group} → Core (within g A B) x y S T → CoreInside g A B x y (cut S A) (cut T B)
  core-within {S = S} {T = T} c =
      record {
        sources = λ u l. and_right (S u) (A u);
        targets = λ v l. and_right (T v) (B v);
        dense = within-dense c.dense;
        largest =
            λ S' T' i j d.
            let (p, q) = c.largest S' T' (λ u l h. refl) (λ v l h. refl) (dense-within i j d) in
            (λ u l h. and_both (p u l h) (i u l h), λ v l h. and_both (q v l h) (j v l h));
      }

  -- for an x of at least 1 its S is inside A before it is cut down,
  pub within-sources : {x y : ℕ} {S T : Group} → 1 ≤ x → Dense (within g A B) x y S T → Inside g S A
  within-sources {T = T} p d u l h =
      cut-only g A u (edges_some k (cut (only u) A) (cut T B) (le_trans p (rw (edges-within g A B (only u) T) at (d.out u l h))))

  -- and for a y of at least 1 its T is inside B
  pub within-targets : {x y : ℕ} {S T : Group} → 1 ≤ y → Dense (within g A B) x y S T → Inside g T B
  within-targets {S = S} p d v l h =
      cut-only g B v (edges-other k (cut S A) (cut (only v) B) (le_trans p (rw (edges-within g A B S (only v)) at (d.inn v l h))))

  -- so for both of at least 1 its core is the core inside A and B as it is, and no other pair is,
  pub core-inside : {x y : ℕ} {S T : Group} → 1 ≤ x → 1 ≤ y → Core (within g A B) x y S T ↔ CoreInside g A B x y S T
  core-inside {x} {y} {S} {T} p q = (
    λ c. core-same k (cut-same g (within-sources p c.dense)) (cut-same g (within-targets q c.dense)) (core-within c),
    λ c. record { sources = λ u l h. refl; targets = λ v l h. refl; dense = dense-within c.sources c.targets c.dense; largest = λ S' T' i j d. covered c d },
  )
    where
      covered : CoreInside g A B x y S T → {S' T' : Group} → Dense (within g A B) x y S' T' → Inside g S' S × Inside g T' T
      covered c {S'} {T'} d =
          let (i, j) = c.largest (cut S' A) (cut T' B) (λ u l. and_right (S' u) (A u)) (λ v l. and_right (T' v) (B v)) (within-dense d) in
          (λ u l h. i u l (inside-cut g (within-sources p d) u l h), λ v l h. j v l (inside-cut g (within-targets q d) v l h))

  -- and is not empty where that is not
  pub nonempty-within : (x y : ℕ) → 1 ≤ x → 1 ≤ y → Nonempty (within g A B) x y ↔ NonemptyInside g A B x y
  nonempty-within x y p q = (
    λ n. record { S = n.S; T = n.T; core = (core-inside p q).0 n.core; some = n.some; other = n.other },
    λ n. record { S = n.S; T = n.T; core = (core-inside p q).1 n.core; some = n.some; other = n.other },
  )

  -- its level of each x of at least 1 is the level inside A and B,
  pub level-within : {x y : ℕ} → 1 ≤ x → Level (within g A B) x y → LevelInside g A B x y
  level-within {x} p = greatest-same (λ j q. nonempty-within x j p q)

  -- so is its level across of each y of at least 1,
  pub level-across-within : {x y : ℕ} → 1 ≤ y → LevelAcross (within g A B) y x → LevelAcrossInside g A B y x
  level-across-within {y = y} q = greatest-same (λ j p. nonempty-within j y p q)

  -- its equal level,
  pub equal-level-within : {j : ℕ} → EqualLevel (within g A B) j → EqualLevelInside g A B j
  equal-level-within = greatest-same (λ j p. nonempty-within j j p p)

  -- and its finding, and no other
  pub finding-within : {x y : ℕ} {S T : Group} → Finding (within g A B) x y S T ↔ FindingInside g A B x y S T
  finding-within = (
    finding-same g (within g A B).weight g.weight (λ p q. (core-inside p q).0) (λ x' y' p q. (nonempty-within x' y' p q).1),
    finding-same g g.weight (within g A B).weight (λ p q. (core-inside p q).1) (λ x' y' p q. (nonempty-within x' y' p q).0),
  )
