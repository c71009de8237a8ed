-- A search that tries the level of each x and the level across of each y up to the equal level comes to the finding.
use Prim.Native.Nat.{ℕ, suc, ◌*◌, ◌<◌, ◌≤◌}
use mathlib.Core.Logic.{◌⊎◌, inl, inr, ⊎_elim}
use native.Mathlib.Decide.{dec_le}
use native.Mathlib.Nat.{le_refl, le_trans, one-le-mul, eq-or-lt_of_le}
use native.Mathlib.Omega.{arith}
use Rattle.std.proofs.lemmas.Bool.Decides.{nat_tests}
use Rattle.graph.specs.Graph.{Graph, Group}
use Rattle.graph.specs.Shapes.{Closed}
use Rattle.graph.specs.Core.{Core, Nonempty, Greatest, Level, LevelAcross, EqualLevel, Before, Finding}
use Rattle.graph.specs.Search.{Tried, BestTried}
use Rattle.graph.proofs.Exists.{nonempty-nested, core-some}
use Rattle.graph.proofs.Before.{before-trans, row_before, column-before}

-- what holds at k, not at the next number, and downwards from wherever it holds, has k for its greatest
pub greatest-stop : {P : ℕ → Type 0} (k : ℕ) → ((i j : ℕ) → i ≤ j → P j → P i) → (1 ≤ k → P k) → ¬ P (suc k) → Greatest P k
greatest-stop {P} k down h stop = record { holds = h; above = λ j p q. elim (dec_le j k) [ yes l ↦ l | no l ↦ absurd (stop (down (suc k) j (omega arith) q)) ] }

-- so a level is found when y is raised by one until the core is empty
pub level-stop : {g : Graph} → Closed g → {x : ℕ} (y : ℕ) → (1 ≤ y → Nonempty g x y) → ¬ Nonempty g x (suc y) → Level g x y
level-stop {g} k {x} y = greatest-stop y (λ i j l n. nonempty-nested k (le_refl x) l n)

-- the level across when x is,
pub level-across-stop : {g : Graph} → Closed g → {y : ℕ} (x : ℕ) → (1 ≤ x → Nonempty g x y) → ¬ Nonempty g (suc x) y → LevelAcross g y x
level-across-stop {g} k {y} x = greatest-stop x (λ i j l n. nonempty-nested k l (le_refl y) n)

-- and the equal level when both are
pub equal-level-stop : {g : Graph} → Closed g → (j : ℕ) → (1 ≤ j → Nonempty g j j) → ¬ Nonempty g (suc j) (suc j) → EqualLevel g j
equal-level-stop k j = greatest-stop j (λ i h l n. nonempty-nested k l l n)

-- nothing non-empty lies above the equal level both ways
pub beside-equal : {g : Graph} → Closed g → {j x y : ℕ} → EqualLevel g j → Nonempty g x y → (x ≤ j) ⊎ (y ≤ j)
beside-equal {g} k {j} {x} {y} l n = go (dec_le x j) (dec_le y j)
  where
    go : Dec (x ≤ j) → Dec (y ≤ j) → (x ≤ j) ⊎ (y ≤ j)
    go (yes p) d = inl p
    go (no p) (yes q) = inr q
    go (no p) (no q) = absurd (omega (arith, l.above (suc j) (omega arith) (nonempty-nested k (omega arith) (omega arith) n)))

-- what is kept at a step of a search comes before what it had and before each non-empty core that the step adds
best-more : {g : Graph} {m n m' n' x y : ℕ} (a b : ℕ) → BestTried g m n x y → (1 ≤ a * b → Nonempty g a b) → Before a b x y
    → ((x' y' : ℕ) → 1 ≤ x' → 1 ≤ y' → Tried m' n' x' y' → Nonempty g x' y' → Tried m n x' y' ⊎ Before a b x' y') → BestTried g m' n' a b
best-more a b s r p new =
    record {
      reached = r;
      before = λ x' y' i j h e. ⊎_elim (λ old. before-trans p (s.before x' y' i j old e)) (λ q. q) (new x' y' i j h e);
    }

-- a search begins with any non-empty core, and nothing tried
pub best-start : {g : Graph} {x y : ℕ} → (1 ≤ x * y → Nonempty g x y) → BestTried g 0 0 x y
best-start r = record { reached = r; before = λ x y p q h n. absurd (⊎_elim (λ i. omega arith) (λ i. omega arith) h) }

-- it goes on to the next x: what it keeps comes before each non-empty core of that x
pub best-row : {g : Graph} {m n x y : ℕ} (a b : ℕ) → BestTried g m n x y → (1 ≤ a * b → Nonempty g a b) → Before a b x y
    → ((y' : ℕ) → 1 ≤ y' → Nonempty g (suc m) y' → Before a b (suc m) y') → BestTried g (suc m) n a b
best-row {g} {m} {n} a b s r p row = grind (arith, nat_tests)

-- or to the next y
pub best-column : {g : Graph} {m n x y : ℕ} (a b : ℕ) → BestTried g m n x y → (1 ≤ a * b → Nonempty g a b) → Before a b x y
    → ((x' : ℕ) → 1 ≤ x' → Nonempty g x' (suc n) → Before a b x' (suc n)) → BestTried g m (suc n) a b
best-column {g} {m} {n} a b s r p column = best-more a b s r p new
  where
    new : (x' y' : ℕ) → 1 ≤ x' → 1 ≤ y' → Tried m (suc n) x' y' → Nonempty g x' y' → Tried m n x' y' ⊎ Before a b x' y'
    new x' y' i j (inl h) e = inl (inl h)
    new x' y' i j (inr h) e = ⊎_elim (λ t. inr (rw t (column x' i (rw t at e)))) (λ t. inl (inr (omega arith))) (eq-or-lt_of_le h)

-- the level of x comes before every other y
pub level_before : {g : Graph} {x y : ℕ} → 1 ≤ x → Level g x y → (y' : ℕ) → 1 ≤ y' → Nonempty g x y' → Before x y x y'
level_before q l y' p n = row_before q (l.above _ p n)

-- and the level across of y before every other x
pub level-across-before : {g : Graph} {x y : ℕ} → 1 ≤ y → LevelAcross g y x → (x' : ℕ) → 1 ≤ x' → Nonempty g x' y → Before x y x' y
level-across-before q l x' p n = column-before q (l.above _ p n)

-- the factors of a product that is not 0
pub factors : (x y : ℕ) → 1 ≤ x * y → (1 ≤ x) × (1 ≤ y)
factors x y h = grind (arith, nat_tests)

-- once each x and each y up to the equal level is tried, the best is the finding
pub best-finding : {g : Graph} → Closed g → {j x y : ℕ} {S T : Group} → 1 ≤ j → EqualLevel g j → BestTried g j j x y → Core g x y S T → Finding g x y S T
best-finding {g} k {j} {x} {y} p l s c =
    let q : 1 ≤ x * y = le_trans (one-le-mul p p) (s.before j j p p (inl (le_refl j)) (l.holds p)).product in
    let (h, i) = core-some (s.reached q) c in
    record {
      x-positive = (factors x y q).0;
      y-positive = (factors x y q).1;
      core = c;
      some = h;
      other = i;
      before = λ x' y' h v n. s.before x' y' h v (beside-equal k l n) n;
    }
