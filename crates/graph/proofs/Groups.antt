-- Of A and B only the vertices of the graph count. So where both hold everyone all is as it is among everyone (02, wish 5).
use Prim.Native.Nat.{ℕ}
use mathlib.Core.Path.{sym}
use native.Mathlib.Omega.{arith}
use Rattle.std.proofs.lemmas.Bool.Decides.{nat_tests}
use Rattle.graph.specs.Graph.{Graph, Group}
use Rattle.graph.specs.Shapes.{Closed, Same}
use Rattle.graph.specs.Core.{CoreInside, NonemptyInside, LevelInside, LevelAcrossInside, EqualLevelInside, FindingInside, BoundsInside}
use Rattle.graph.specs.Quiet.{OutcomeInside, ring, quiet}
use Rattle.graph.specs.Layers.{LayerInside, LayeringInside}
use Rattle.graph.proofs.Degrees.{edges-same}
use Rattle.graph.proofs.Masks.{finding-same}
use Rattle.graph.proofs.Within.{greatest-same}
use Rattle.graph.proofs.Layers.{layer-product}

-- groups with the same vertices turned round
same-sym : (g : Graph) {S R : Group} → Same g S R → Same g R S
same-sym g p u l = sym (p u l)

-- the core inside groups with the vertices of A and B is the core inside A and B
pub core-groups : {g : Graph} {A A' B B' : Group} {x y : ℕ} {S T : Group} → Same g A A' → Same g B B' → CoreInside g A B x y S T → CoreInside g A' B' x y S T
core-groups a b c = grind (arith, nat_tests)

-- empty or not
nonempty-groups : {g : Graph} {A A' B B' : Group} {x y : ℕ} → Same g A A' → Same g B B' → NonemptyInside g A B x y → NonemptyInside g A' B' x y
nonempty-groups a b n = record { S = n.S; T = n.T; core = core-groups a b n.core; some = n.some; other = n.other }

-- A and B, and two groups with their vertices
module _ {g : Graph} {A A' B B' : Group} (a : Same g A A') (b : Same g B B') where
  -- the level of each x is the same,
  pub level-groups : {x y : ℕ} → LevelInside g A B x y → LevelInside g A' B' x y
  level-groups = greatest-same (λ j p. (nonempty-groups a b, nonempty-groups (same-sym g a) (same-sym g b)))

  -- the level across of each y,
  pub level-across-groups : {x y : ℕ} → LevelAcrossInside g A B y x → LevelAcrossInside g A' B' y x
  level-across-groups = greatest-same (λ j p. (nonempty-groups a b, nonempty-groups (same-sym g a) (same-sym g b)))

  -- the equal level,
  pub equal-level-groups : {k : ℕ} → EqualLevelInside g A B k → EqualLevelInside g A' B' k
  equal-level-groups = greatest-same (λ j p. (nonempty-groups a b, nonempty-groups (same-sym g a) (same-sym g b)))

  -- the finding,
  pub finding-groups : {x y : ℕ} {S T : Group} → FindingInside g A B x y S T → FindingInside g A' B' x y S T
  finding-groups = finding-same g g.weight g.weight (λ p q. core-groups a b) (λ x' y' p q. nonempty-groups (same-sym g a) (same-sym g b))

  -- and the bound
  pub bounds-groups : {x y : ℕ} {S T : Group} → BoundsInside g A B x y S T → BoundsInside g A' B' x y S T
  bounds-groups c = grind (arith, nat_tests)

-- in a closed graph, where both tell the same edges to go from A to B,
module _ {g : Graph} (k : Closed g) {A A' B B' : Group} (a : Same g A A') (b : Same g B B') where
  -- what is found is the same,
  pub outcome-groups : {x y : ℕ} {S T : Group} → OutcomeInside g A B x y S T → OutcomeInside g A' B' x y S T
  outcome-groups (ring f) = ring (finding-groups a b f)
  outcome-groups (quiet e n) = quiet (rw (← edges-same k a b) e) n

  -- each layer,
  layer-groups : {L : ℕ → ℕ} {l : ℕ} → LayerInside g A B L l → LayerInside g A' B' L l
  layer-groups r =
      record {
        x = r.x;
        y = r.y;
        S = r.S;
        T = r.T;
        finding = finding-groups a b r.finding;
        taken = r.taken;
        counted = r.counted;
        bounds = bounds-groups a b r.bounds;
      }

  -- and the layering
  pub layering-groups : {L : ℕ → ℕ} {K : ℕ} → LayeringInside g A B L K → LayeringInside g A' B' L K
  layering-groups {L} c =
      record {
        every = λ e h. rw (← a _ (k.source-below e h), ← b _ (k.target_below e h)) (c.every e h);
        most = c.most;
        layer = λ l p q. layer-groups (c.layer l p q);
        falls = λ l r s. layer-product k (omega arith) r s;
      }
