-- The search under way: what is tried so far, and that the best is the best of it.
use Prim.Native.Nat.{ℕ, ◌+◌, ◌<◌, ◌≤◌}
use mathlib.Core.List.{List}
use mathlib.Core.Logic.{◌⊎◌, inl, inr, ⊎_elim}
use mathlib.Core.Path.{◌≡◌, refl}
use native.Mathlib.Omega.{arith}
use Rattle.graph.specs.Graph.{Graph}
use Rattle.graph.specs.Core.{Nonempty, EqualLevel, Before}
use Rattle.graph.proofs.Before.{before-trans}
use Rattle.network.specs.declared.Side.{Side}
use Rattle.network.specs.declared.Side.TheVariants.{Source, Target}
use Rattle.peeling.specs.Peeling.{Tabled, Kept}
use Rattle.peeling.proofs.Kept.{kept_back, kept_next, tabled-kept}
use Rattle.searching.specs.declared.Best.{Best}
use Rattle.searching.specs.Searches.{x_at, y_at, InRange, Tries, Reaches, Searched}

-- [x,y] is tried, where P tells the numbers of the side that are: columns come after all k rows
abbrev pub tried_by : Side → ℕ → (ℕ → Type 0) → ℕ → ℕ → Type 0
tried_by Source k P x y = P x
tried_by Target k P x y = (x ≤ k) ⊎ P y

-- no number of a side is tried
abbrev pub none_tried : ℕ → Type 0
none_tried i = ⊥

-- 1 is tried, and every number from k down to the one after `last`
abbrev pub down_tried : ℕ → ℕ → ℕ → Type 0
down_tried k last i = (i ≡ 1) ⊎ ((last < i) × (i ≤ k))

-- the sides that are left after this one
abbrev pub sides_left : Side → ℕ
sides_left Source = 1
sides_left Target = 0

-- the best comes before each non-empty core that is tried, and is one itself; the table is still that of the graph
pub record Searching (n m k : ℕ) (w w' : List ℕ) (side : Side) (P : ℕ → Type 0) (b : Best) : Type 0 where
  pub in-range : InRange b
  pub kept : Kept n m w w'
  pub reached : (g : Graph) → Tabled g n m w → EqualLevel g k → Nonempty g b.x b.y
  pub before : (g : Graph) → Tabled g n m w → (x y : ℕ) → 1 ≤ x → 1 ≤ y → tried_by side k P x y → Nonempty g x y → Before b.x b.y x y

-- what is tried stays so where more is tried after it
pub tries-then : {n m : ℕ} {side : Side} {first last first' last' : ℕ} {b r q : Best} {w w' w'' : List ℕ} → Tries n m side first last b w w' r
    → Tries n m side first' last' r w' w'' q → Tries n m side first last b w w'' q
tries-then s t =
    record {
      in-range = t.in-range;
      kept = kept_next s.kept t.kept;
      reached = λ g h e. t.reached g (tabled-kept h s.kept) (s.reached g h e);
      before = before-trans t.before s.before;
      all = λ g h i j a l o e. before-trans t.before (s.all g h i j a l o e);
    }

-- a search can begin with what is tried first, from the equal level, which is at least 1
pub equal-reaches : {n m k : ℕ} {w w' : List ℕ} {side : Side} {first last : ℕ} {r : Best} → 1 ≤ k → Tries n m side first last (record { x = k; y = k }) w w' r → Reaches n m k w' r
equal-reaches p t = record { in-range = t.in-range; reached = λ g h e. t.reached g (tabled-kept h (kept_back t.kept)) (e.holds p) }

-- what is tried after more numbers was tried before, or lies in the row or column of one of these
tried-more : (side : Side) (k : ℕ) {first last : ℕ} {P Q : ℕ → Type 0} → ((i : ℕ) → Q i → P i ⊎ ((first ≤ i) × (i ≤ last))) → (x y : ℕ) → 1 ≤ x → 1 ≤ y → tried_by side k Q x y
    → tried_by side k P x y ⊎ ((i j : ℕ) × (first ≤ i) × (i ≤ last) × (1 ≤ j) × (x ≡ x_at side i j) × (y ≡ y_at side i j))
tried-more Source k new x y p q h = ⊎_elim (λ o. inl o) (λ (a, b). inr (x, y, a, b, q, refl, refl)) (new x h)
tried-more Target k new x y p q (inl h) = inl (inl h)
tried-more Target k new x y p q (inr h) = ⊎_elim (λ o. inl (inr o)) (λ (a, b). inr (y, x, a, b, p, refl, refl)) (new y h)

-- more rows or columns are tried, and what is left for the best comes before all that is tried then
pub search-more : {n m k : ℕ} {w w' w'' : List ℕ} {side : Side} {P Q : ℕ → Type 0} {first last : ℕ} {b r : Best} → Searching n m k w w' side P b
    → Tries n m side first last b w' w'' r → ((i : ℕ) → Q i → P i ⊎ ((first ≤ i) × (i ≤ last))) → Searching n m k w w'' side Q r
search-more {n} {m} {k} {w} {side = side} {Q = Q} {r = r} s t new =
    record {
      in-range = t.in-range;
      kept = kept_next s.kept t.kept;
      reached = λ g h e. t.reached g (tabled-kept h s.kept) (s.reached g h e);
      before = before;
    }
  where
    before : (g : Graph) → Tabled g n m w → (x y : ℕ) → 1 ≤ x → 1 ≤ y → tried_by side k Q x y → Nonempty g x y → Before r.x r.y x y
    before g h x y p q i c =
        ⊎_elim (λ old. before-trans t.before (s.before g h x y p q old c))
        (λ (a, j, l, o, u, e, f). rw (e, f) (t.all g (tabled-kept h s.kept) a j l o u (rw (e, f) at c))) (tried-more side k new x y p q i)

-- after all rows, the columns
pub search-turns : {n m k : ℕ} {w w' : List ℕ} {P : ℕ → Type 0} {b : Best} → Searching n m k w w' Source P b → ((i : ℕ) → 1 ≤ i → i ≤ k → P i)
    → Searching n m k w w' Target none_tried b
search-turns s all =
    record {
      in-range = s.in-range;
      kept = s.kept;
      reached = s.reached;
      before = λ g t x y p q h. s.before g t x y p q (⊎_elim (λ l. all x p l) (λ e. absurd e) h);
    }

-- and after all columns all is tried
pub search-ends : {n m k : ℕ} {w w' : List ℕ} {P : ℕ → Type 0} {b : Best} → Searching n m k w w' Target P b → ((i : ℕ) → 1 ≤ i → i ≤ k → P i) → Searched n m k w w' b
search-ends s all =
    record {
      kept = s.kept;
      best = λ g t e. record {
        reached = λ l. s.reached g t e;
        before = λ x y p q h. s.before g t x y p q (⊎_elim (λ l. inl l) (λ l. inr (all y q l)) h);
      };
    }

-- and so it is of a table from which that of the search came
pub searched-after : {n m k : ℕ} {w w' w'' : List ℕ} {r : Best} → Kept n m w w' → Searched n m k w' w'' r → Searched n m k w w'' r
searched-after a s = record { kept = kept_next a s.kept; best = λ g t. s.best g (tabled-kept t a) }

-- 1 is the first number that is tried,
pub down-first : (k i : ℕ) → down_tried k k i → none_tried i ⊎ ((1 ≤ i) × (i ≤ 1))
down-first k i h = grind arith

-- then more and more of them below the last one,
pub down-next : {k last left : ℕ} → left < last → (i : ℕ) → down_tried k left i → down_tried k last i ⊎ ((left + 1 ≤ i) × (i ≤ last))
down-next l i h = grind arith

-- and down to 1 these are all
pub down-all : {k last : ℕ} → last ≤ 1 → (i : ℕ) → 1 ≤ i → i ≤ k → down_tried k last i
down-all e i p q = grind arith
