-- When two findings are equal, and what the comparison of them promises (02, wish 10: equal means the same people).
use Rattle.std.specs.Prelude.{ℕ, ◌<◌, Bool, true, cond, ◌||◌, List, [], ◌↔◌, ◌≡◌, Option, None, Some, Result, Ok, ltb}
use Rattle.network.specs.declared.Refusal.{Refusal}
use Rattle.network.specs.declared.Refusal.TheVariants.{Members, Table}
use Rattle.network.specs.File.{most_members, graph_of}
use Rattle.network.specs.Groups.{group_of}
use Rattle.network.specs.Refusals.{short_groups, in_groups}
use Rattle.network.specs.Calls.{Call}
use Rattle.searching.specs.declared.Ring.{Ring}
use Rattle.finding.specs.Findings.{FindingCall}

-- 02: a finding, as the comparison takes it: x, y, n, and the tables of S and T
pub record Found : Type 0 where
  pub x : ℕ
  pub y : ℕ
  pub n : ℕ
  pub s : List ℕ
  pub t : List ℕ

-- 02: two groups agree: of the first n members the same are in both
abbrev pub Agree : ℕ → List ℕ → List ℕ → Type 0
Agree n s s' = (u : ℕ) → u < n → group_of s u ≡ group_of s' u

-- 02: the same people: n is the same, and both groups agree over it
pub record SamePeople (n₁ : ℕ) (s₁ t₁ : List ℕ) (n₂ : ℕ) (s₂ t₂ : List ℕ) : Type 0 where
  pub n : n₁ ≡ n₂
  pub sources : Agree n₁ s₁ s₂
  pub targets : Agree n₁ t₁ t₂

-- 02: two findings are equal when x and y are the same, and the people
pub record Equal (p q : Found) : Type 0 where
  pub x : p.x ≡ q.x
  pub y : p.y ≡ q.y
  pub people : SamePeople p.n p.s p.t q.n q.s q.t

-- 02: n and the groups of two findings: 4 where either n is above 2,048, then 9 where a table is short, then 11 for a byte of a group, each over its
-- own n
unfoldable pub equal_refusal : ℕ → List ℕ → List ℕ → ℕ → List ℕ → List ℕ → Option Refusal
equal_refusal n₁ s₁ t₁ n₂ s₂ t₂ =
    cond (ltb most_members n₁ || ltb most_members n₂) (Some Members)
    (cond (short_groups n₁ s₁ t₁ || short_groups n₂ s₂ t₂) (Some Table)
    (in_groups n₁ s₁ t₁ (in_groups n₂ s₂ t₂ None)))

-- the comparison: where it is not refused it answers true exactly when the two are equal; it has no table to change
abbrev pub EqualCall : Found → Found → Result Bool Refusal → Type 0
EqualCall p q = Call (equal_refusal p.n p.s p.t q.n q.s q.t) [] [] (λ equal. (equal ≡ true) ↔ Equal p q)

-- equality is reflexive, symmetric and transitive, and the answer is the same with the two findings exchanged, refusals too
pub record Equivalence : Type 0 where
  pub reflexive : (p : Found) → Equal p p
  pub symmetric : (p q : Found) → Equal p q → Equal q p
  pub transitive : (p q r : Found) → Equal p q → Equal q r → Equal p r
  pub exchanged : (p q : Found) (answer : Result Bool Refusal) → EqualCall p q answer → EqualCall q p answer

-- the finding call has answered with this finding, for a file and inside A and B, whatever its tables held
pub record FoundBy (f a b : List ℕ) (p : Found) : Type 0 where
  pub s : List ℕ
  pub t : List ℕ
  pub w : List ℕ
  pub w' : List ℕ
  pub ring : Ring
  pub call : FindingCall f a b s p.s t p.t w w' (Ok ring)
  pub x : p.x ≡ ring.x
  pub y : p.y ≡ ring.y
  pub n : p.n ≡ (graph_of f).order

-- 02: two findings of one file, A and B are equal, and the comparison of them says so
abbrev pub FoundAlike : Type 0
FoundAlike = (f a b : List ℕ) (p q : Found) → FoundBy f a b p → FoundBy f a b q → Equal p q × ((answer : Result Bool Refusal) → EqualCall p q answer → answer ≡ Ok true)
