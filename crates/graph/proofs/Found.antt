-- Levels and the finding: there is one of each, and only one.
use Prim.Native.Nat.{ℕ, zero, suc, ◌≤◌}
use mathlib.Core.Logic.{⊎_elim}
use mathlib.Core.Path.{◌≡◌}
use native.Mathlib.Decide.{dec_le}
use native.Mathlib.Nat.{eq-or-lt_of_le}
use native.Mathlib.Omega.{arith}
use Rattle.std.proofs.lemmas.Bool.Decides.{nat_tests}
use Rattle.graph.specs.Graph.{Graph, Group, everyone, card, edges}
use Rattle.graph.specs.Shapes.{Closed, total, Same}
use Rattle.graph.specs.Core.{CoreInside, NonemptyInside, Greatest, LevelInside, LevelAcrossInside, EqualLevelInside, FindingInside, Finding}
use Rattle.graph.specs.Search.{BestTried}
use Rattle.graph.proofs.Exists.{core-exists, core-some, core_unique}
use Rattle.graph.proofs.Within.{closed-within, finding-within}
use Rattle.graph.proofs.Before.{before-refl, before-trans, before-unique, before-total}
use Rattle.graph.proofs.Search.{best-start, best-row, best-column, best-finding, level_before, level-across-before, factors}
use Rattle.graph.proofs.Weights.{nonempty-x, nonempty-y, linked-one}

-- a core is empty or not
pub nonempty? : {g : Graph} → Closed g → (A B : Group) (x y : ℕ) → Dec (NonemptyInside g A B x y)
nonempty? {g} k A B x y = let (S, T, c) = core-exists k A B x y in go S T c (dec_le 1 (card g S)) (dec_le 1 (card g T))
  where
    go : (S T : Group) → CoreInside g A B x y S T → Dec (1 ≤ card g S) → Dec (1 ≤ card g T) → Dec (NonemptyInside g A B x y)
    go S T c (yes p) (yes q) = yes (record { S = S; T = T; core = c; some = p; other = q })
    go S T c (no p) d = no (λ n. p (core-some n c).0)
    go S T c (yes p) (no q) = no (λ n. q (core-some n c).1)

-- what can be told and has a bound has a greatest
greatest-exists : {P : ℕ → Type 0} → ((j : ℕ) → Dec (P j)) → (n : ℕ) → ((j : ℕ) → P j → j ≤ n) → (k : ℕ) × Greatest P k
greatest-exists d zero h = (0, record { holds = λ p. absurd (omega arith); above = λ j p q. h j q })
greatest-exists {P} d (suc n) h = go (d (suc n)) (greatest-exists d n)
  where
    go : Dec (P (suc n)) → (((j : ℕ) → P j → j ≤ n) → (k : ℕ) × Greatest P k) → (k : ℕ) × Greatest P k
    go (yes p) rec = (suc n, record { holds = λ q. p; above = λ j i q. h j q })
    go (no p) rec = rec (λ j q. ⊎_elim (λ e. absurd (p (rw e at q))) (λ l. omega arith) (eq-or-lt_of_le (h j q)))

-- and no other
pub greatest-unique : {P : ℕ → Type 0} {k k' : ℕ} → Greatest P k → Greatest P k' → k ≡ k'
greatest-unique {P} {k} {k'} a b = grind (arith, nat_tests)

-- so inside A and B there is the level of each x,
pub level-exists : {g : Graph} → Closed g → (A B : Group) (x : ℕ) → (y : ℕ) × LevelInside g A B x y
level-exists {g} k A B x = greatest-exists (λ y. nonempty? k A B x y) (total g) (λ y n. nonempty-y k n)

-- the level across of each y,
pub level-across-exists : {g : Graph} → Closed g → (A B : Group) (y : ℕ) → (x : ℕ) × LevelAcrossInside g A B y x
level-across-exists {g} k A B y = greatest-exists (λ x. nonempty? k A B x y) (total g) (λ x n. nonempty-x k n)

-- and the equal level
pub equal-level-exists : {g : Graph} → Closed g → (A B : Group) → (j : ℕ) × EqualLevelInside g A B j
equal-level-exists {g} k A B = greatest-exists (λ j. nonempty? k A B j j) (total g) (λ j n. nonempty-x k n)

-- a search can go on to the next x
row : {g : Graph} → Closed g → {m n x y : ℕ} → BestTried g m n x y → (x : ℕ) × (y : ℕ) × BestTried g (suc m) n x y
row {g} k {m} {n} {x} {y} s =
    let (j, l) = level-exists k everyone everyone (suc m) in
    ⊎_elim (λ b. (x, y, best-row x y s s.reached (before-refl x y) (λ y' p e. before-trans b (level_before (omega arith) l y' p e))))
    (λ b. (suc m, j, best-row (suc m) j s (λ p. l.holds (factors (suc m) j p).1) b (level_before (omega arith) l))) (before-total x y (suc m) j)

-- the same for the next y
column : {g : Graph} → Closed g → {m n x y : ℕ} → BestTried g m n x y → (x : ℕ) × (y : ℕ) × BestTried g m (suc n) x y
column {g} k {m} {n} {x} {y} s =
    let (i, l) = level-across-exists k everyone everyone (suc n) in
    ⊎_elim (λ b. (x, y, best-column x y s s.reached (before-refl x y) (λ x' p e. before-trans b (level-across-before (omega arith) l x' p e))))
    (λ b. (i, suc n, best-column i (suc n) s (λ p. l.holds (factors i (suc n) p).0) b (level-across-before (omega arith) l))) (before-total x y i (suc n))

-- so it can take any number of steps
best-exists : {g : Graph} → Closed g → (j : ℕ) → (x : ℕ) × (y : ℕ) × BestTried g j j x y
best-exists k zero = (0, 0, best-start (λ p. absurd (omega arith)))
best-exists k (suc j) = column k (row k (best-exists k j).2).2

-- a graph with a weight has a finding
finding-whole : {g : Graph} → Closed g → 1 ≤ total g → (x : ℕ) × (y : ℕ) × (S : Group) × (T : Group) × Finding g x y S T
finding-whole {g} k p =
    let (j, l) = equal-level-exists k everyone everyone in
    let (x, y, s) = best-exists k j in
    let (S, T, c) = core-exists k everyone everyone x y in
    (x, y, S, T, best-finding k (l.above 1 (omega arith) (linked-one k p)) l s c)

-- so there is one inside A and B where some link goes from A to B
pub finding-exists : {g : Graph} → Closed g → (A B : Group) → 1 ≤ edges g A B → (x : ℕ) × (y : ℕ) × (S : Group) × (T : Group) × FindingInside g A B x y S T
finding-exists k A B p = let (x, y, S, T, f) = finding-whole (closed-within k A B) p in (x, y, S, T, (finding-within k A B).0 f)

-- the finding is a core that is not empty
pub finding-nonempty : {g : Graph} {A B : Group} {x y : ℕ} {S T : Group} → FindingInside g A B x y S T → NonemptyInside g A B x y
finding-nonempty {S = S} {T} f = record { S = S; T = T; core = f.core; some = f.some; other = f.other }

-- and only one
pub finding-unique : {g : Graph} {A B : Group} {x y x' y' : ℕ} {S T S' T' : Group} → FindingInside g A B x y S T → FindingInside g A B x' y' S' T'
    → (x ≡ x') × (y ≡ y') × Same g S S' × Same g T T'
finding-unique {x = x} {y} {x'} {y'} a b =
    let p = a.before x' y' b.x-positive b.y-positive (finding-nonempty b) in
    let q = b.before x y a.x-positive a.y-positive (finding-nonempty a) in
    let (ex, ey) = before-unique a.x-positive p q in
    let (i, j) = core_unique a.core (rw (← ex, ← ey) at b.core) in
    (ex, ey, i, j)
