-- The drops of the harmonic finder as its proofs and its program take them: what is unbeaten by laws, and keys that tell states.
use Rattle.std.specs.Prelude.{ℕ, ◌+◌, ◌*◌, ◌<◌, Bool, true, false, ◌≡◌, ltb}
use Rattle.graph.specs.Graph.{Graph, Group}
use Rattle.graph.specs.Linkage.{degree}
use Rattle.graph.specs.Cover.{joined}
use Rattle.graph.specs.Harmonic.{dropped, state_after}

-- p is unbeaten, and beats every number before it
pub record Unbeaten (beats : ℕ → ℕ → Bool) (R : Group) (n p : ℕ) : Type 0 where
  pub below : p < n
  pub member : R p ≡ true
  pub best : (q : ℕ) → q < n → R q ≡ true → beats q p ≡ false
  pub earliest : (q : ℕ) → q < p → R q ≡ true → beats p q ≡ true

-- the smaller key beats
abbrev pub smaller : (ℕ → ℕ) → ℕ → ℕ → Bool
smaller key q p = ltb (key q) (key p)

-- p is the first place of R with the smallest key
abbrev pub Least : (ℕ → ℕ) → Group → ℕ → ℕ → Type 0
Least key = Unbeaten (smaller key)

-- the greater quotient a / b beats
abbrev pub higher : (ℕ → ℕ) → (ℕ → ℕ) → ℕ → ℕ → Bool
higher a b j i = ltb (a i * b j) (a j * b i)

-- the edges of a place to places of R, by the double cover
abbrev pub degree_in : Graph → Group → ℕ → ℕ
degree_in g R = degree (joined g) (2 * g.order) R

-- the place that the drop after i drops takes
abbrev pub drop_at : Graph → ℕ → ℕ
drop_at g i = dropped g (state_after g i)

-- the mark of the first place that is dropped, which is more than every degree; the next ones have the next marks
abbrev pub first_mark : ℕ
first_mark = 32768

-- keys of the places after i drops: the degree of a place that is left, and its mark of one that was dropped
pub record Keys (g : Graph) (i : ℕ) (key : ℕ → ℕ) : Type 0 where
  pub left : (p : ℕ) → p < 2 * g.order → state_after g i p ≡ true → key p ≡ degree_in g (state_after g i) p
  pub gone : (j : ℕ) → j < i → key (drop_at g j) ≡ first_mark + j

-- every degree is below the marks
abbrev pub Light : Graph → Type 0
Light g = (R : Group) (p : ℕ) → p < 2 * g.order → degree_in g R p < first_mark
