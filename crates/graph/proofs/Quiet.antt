-- Every graph has one outcome inside A and B and only one: x * y is 0 exactly where no link goes from A to B, and the bounds hold there too. The
-- edges from everyone to everyone are the whole weight, `total`, by computing.
use Prim.Native.Nat.{ℕ, ◌*◌, ◌≤◌}
use mathlib.Core.Bool.{false}
use mathlib.Core.Logic.{◌↔◌, ⊎_elim}
use mathlib.Core.Path.{◌≡◌}
use native.Mathlib.Nat.{one-le-mul, eq-zero-or-pos}
use native.Mathlib.Omega.{arith}
use Rattle.std.proofs.lemmas.Bool.Decides.{nat_tests}
use Rattle.graph.specs.Graph.{Graph, Group, card, edges}
use Rattle.graph.specs.Shapes.{Closed, total, Same}
use Rattle.graph.specs.Core.{Inside, Core, EqualLevel, FindingInside, BoundsInside}
use Rattle.graph.specs.Quiet.{Nothing, OutcomeInside, Outcome, ring, quiet}
use Rattle.graph.specs.Within.{within}
use Rattle.graph.proofs.Tests.{test-ext}
use Rattle.graph.proofs.Sums.{sum-zero}
use Rattle.graph.proofs.Degrees.{edges-mono, some-card}
use Rattle.graph.proofs.Exists.{dense-both}
use Rattle.graph.proofs.Within.{finding-within}
use Rattle.graph.proofs.Density.{finding-bounds}
use Rattle.graph.proofs.Weights.{nonempty-x, nonempty-linked, linked-one}
use Rattle.graph.proofs.Found.{finding-exists, finding-nonempty, finding-unique}

-- where there is a finding a link goes from A to B
finding-linked : {g : Graph} → Closed g → {A B : Group} {x y : ℕ} {S T : Group} → FindingInside g A B x y S T → 1 ≤ edges g A B
finding-linked k f = nonempty-linked k f.x-positive f.y-positive (finding-nonempty f)

-- so where a link does the outcome is the finding
pub outcome-finding : {g : Graph} {A B : Group} {x y : ℕ} {S T : Group} → OutcomeInside g A B x y S T → 1 ≤ edges g A B → FindingInside g A B x y S T
outcome-finding h i = grind (arith, nat_tests)

-- the equal level is 0 exactly where there is no link
pub equal-level-zero : {g : Graph} → Closed g → {j : ℕ} → EqualLevel g j → (j ≡ 0) ↔ (total g ≡ 0)
equal-level-zero {g} k {j} l = (
  λ e. ⊎_elim (λ z. z) (λ p. absurd (omega (arith, l.above 1 (omega arith) (linked-one k p)))) (eq-zero-or-pos (total g)),
  λ e.
      ⊎_elim (λ z. z) (λ p. absurd (omega (arith, nonempty-x k (l.holds p)))) (eq-zero-or-pos j),
)

-- there the core of every x and y of at least 1 is empty on both sides
pub quiet-core : {g : Graph} → Closed g → total g ≡ 0 → {x y : ℕ} {S T : Group} → 1 ≤ x → 1 ≤ y → Core g x y S T → Nothing g 0 0 S T
quiet-core {g} k e {S = S} {T} p q c =
    record { x-zero = omega arith; y-zero = omega arith; no_source = empty (card g S) (λ s. s); no_target = empty (card g T) both.1 }
  where
    both : (1 ≤ card g S) ↔ (1 ≤ card g T)
    both = dense-both k p q c.dense

    empty : (j : ℕ) → (1 ≤ j → 1 ≤ card g S) → j ≡ 0
    empty j h =
        ⊎_elim (λ z. z) (λ l.
        let some = h l in
        absurd (omega (arith, nonempty-x k (record { S = S; T = T; core = c; some = some; other = both.0 some })))) (eq-zero-or-pos j)

-- the outcome of the graph in which only the edges from A to B count is the outcome inside A and B
pub outcome-within : {g : Graph} → Closed g → (A B : Group) {x y : ℕ} {S T : Group} → Outcome (within g A B) x y S T → OutcomeInside g A B x y S T
outcome-within h A B i = grind (arith, nat_tests, finding-within)

-- and lies inside them
pub outcome-inside : {g : Graph} {A B : Group} {x y : ℕ} {S T : Group} → OutcomeInside g A B x y S T → Inside g S A × Inside g T B
outcome-inside (ring f) = (f.core.sources, f.core.targets)
outcome-inside {g} {S = S} {T} (quiet e n) = (λ u l h. absurd (omega (arith, n.no_source, some-card g S u l h)), λ v l h. absurd (omega (arith, n.no_target, some-card g T v l h)))

-- every graph has an outcome
pub outcome-exists : {g : Graph} → Closed g → (A B : Group) → (x : ℕ) × (y : ℕ) × (S : Group) × (T : Group) × OutcomeInside g A B x y S T
outcome-exists {g} k A B = ⊎_elim none some (eq-zero-or-pos (edges g A B))
  where
    none : edges g A B ≡ 0 → (x : ℕ) × (y : ℕ) × (S : Group) × (T : Group) × OutcomeInside g A B x y S T
    none e =
        let z = sum-zero g.order in
        (0, 0, λ u. false, λ v. false, quiet e (record { x-zero = omega arith; y-zero = omega arith; no_source = z; no_target = z }))

    some : 1 ≤ edges g A B → (x : ℕ) × (y : ℕ) × (S : Group) × (T : Group) × OutcomeInside g A B x y S T
    some p = let (x, y, S, T, f) = finding-exists k A B p in (x, y, S, T, ring f)

-- two groups without a vertex have the same vertices
empty-same : (g : Graph) (S R : Group) → card g S ≡ 0 → card g R ≡ 0 → Same g S R
empty-same g S R p q u l = test-ext _ _ (λ h. absurd (omega (arith, some-card g S u l h))) (λ h. absurd (omega (arith, some-card g R u l h)))

-- and only one
pub outcome-unique : {g : Graph} → Closed g → {A B : Group} {x y x' y' : ℕ} {S T S' T' : Group} → OutcomeInside g A B x y S T → OutcomeInside g A B x' y' S' T'
    → (x ≡ x') × (y ≡ y') × Same g S S' × Same g T T'
outcome-unique k (ring f) b = finding-unique f (outcome-finding b (finding-linked k f))
outcome-unique k (quiet e n) (ring f) = absurd (omega (arith, finding-linked k f))
outcome-unique {g} k {S = S} {T} {S'} {T'} (quiet e n) (quiet i m) =
    (omega arith, omega arith, empty-same g S S' n.no_source m.no_source, empty-same g T T' n.no_target m.no_target)

-- 02: x * y is 0 exactly where no link goes from A to B
pub outcome-product : {g : Graph} → Closed g → {A B : Group} {x y : ℕ} {S T : Group} → OutcomeInside g A B x y S T → (x * y ≡ 0) ↔ (edges g A B ≡ 0)
outcome-product h i = grind (arith, nat_tests, one-le-mul, finding-linked)

-- condition 3, in every month
pub outcome-bounds : {g : Graph} → Closed g → {A B : Group} {x y : ℕ} {S T : Group} → OutcomeInside g A B x y S T → BoundsInside g A B x y S T
outcome-bounds k (ring f) = finding-bounds k f
outcome-bounds {g} k {A} {B} (quiet e n) =
    record {
      above = λ S' T' i j p q. rw (nothing S' T' i j) (omega arith);
      below = rw n.x-zero (omega arith);
      twice = λ S' T' i j p q. rw (nothing S' T' i j) (omega arith);
    }
  where
    nothing : (S' T' : Group) → Inside g S' A → Inside g T' B → edges g S' T' ≡ 0
    nothing S' T' i j = omega (arith, edges-mono k {S = S'} {S' = A} {T = T'} {T' = B} i j)
