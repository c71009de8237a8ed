-- What the calls on cores and levels inside A and B promise.
use Rattle.std.specs.Prelude.{ℕ, List, [], ◌∷◌, ◌≡◌, Option, Result, Ok, length, drop}
use Rattle.graph.specs.Core.{Inside, CoreInside, LevelInside, LevelAcrossInside, EqualLevelInside}
use Rattle.graph.specs.Rises.{Rises}
use Rattle.graph.specs.Shapes.{Single}
use Rattle.network.specs.declared.Refusal.{Refusal}
use Rattle.network.specs.declared.Totals.{Totals}
use Rattle.network.specs.File.{graph_of}
use Rattle.network.specs.Groups.{group_of, Among, GroupIn, totals}
use Rattle.network.specs.Refusals.{work_length, core_refusal, level_refusal, equal_level_refusal}
use Rattle.network.specs.Calls.{Call}
use Rattle.network.specs.Vouches.{Vouched}

-- what lies past the entries that a work table needs is unchanged
abbrev pub WorkKept : List ℕ → List ℕ → List ℕ → Type 0
WorkKept f w w' =
    let k = work_length (graph_of f).order (graph_of f).size in
    (length w' ≡ length w) × (drop k w' ≡ drop k w)

-- two groups stand in the first n bytes of their tables, and E, |S| and |T| are theirs
pub record GroupsTold (f s s' t t' w w' : List ℕ) (c : Totals) : Type 0 where
  pub counted : c ≡ totals (graph_of f) (group_of s') (group_of t')
  pub sources : GroupIn (graph_of f).order s s'
  pub targets : GroupIn (graph_of f).order t t'
  pub work : WorkKept f w w'

-- the groups are the [x,y]-core inside A and B; 02, wish 5: for x = 0 S is A, and so for y = 0 T is B: all of A is in S, all of B in T
pub record CoreTold (f a b : List ℕ) (x y : ℕ) (s s' t t' w w' : List ℕ) (c : Totals) : Type 0 where
  pub core : Among (graph_of f).order a b (λ A B. CoreInside (graph_of f) A B x y (group_of s') (group_of t'))
  pub all-of-a : x ≡ 0 → Inside (graph_of f) (group_of a) (group_of s')
  pub all-of-b : y ≡ 0 → Inside (graph_of f) (group_of b) (group_of t')
  pub groups : GroupsTold f s s' t t' w w' c

-- the core
abbrev pub CoreCall : (f a b : List ℕ) (x y : ℕ) (s s' t t' w w' : List ℕ) → Result Totals Refusal → Type 0
CoreCall f a b x y s s' t t' w w' =
    Call (core_refusal f a b (length s) (length t) (length w)) (s ∷ t ∷ w ∷ []) (s' ∷ t' ∷ w' ∷ [])
    (CoreTold f a b x y s s' t t' w w')

-- a level of some kind
abbrev pub LevelBy : Option Refusal → List ℕ → (ℕ → Type 0) → List ℕ → List ℕ → Result ℕ Refusal → Type 0
LevelBy refusal f level w w' =
    Call refusal (w ∷ []) (w' ∷ [])
    (λ k. level k × WorkKept f w w')

-- the level of x
abbrev pub LevelCall : List ℕ → List ℕ → List ℕ → ℕ → List ℕ → List ℕ → Result ℕ Refusal → Type 0
LevelCall f a b x w w' = LevelBy (level_refusal f a b x (length w)) f (λ k. Among (graph_of f).order a b (λ A B. LevelInside (graph_of f) A B x k)) w w'

-- the level across, for y
abbrev pub LevelAcrossCall : List ℕ → List ℕ → List ℕ → ℕ → List ℕ → List ℕ → Result ℕ Refusal → Type 0
LevelAcrossCall f a b y w w' = LevelBy (level_refusal f a b y (length w)) f (λ k. Among (graph_of f).order a b (λ A B. LevelAcrossInside (graph_of f) A B y k)) w w'

-- the equal level
abbrev pub EqualLevelCall : List ℕ → List ℕ → List ℕ → List ℕ → List ℕ → Result ℕ Refusal → Type 0
EqualLevelCall f a b w w' = LevelBy (equal_level_refusal f a b (length w)) f (λ k. Among (graph_of f).order a b (λ A B. EqualLevelInside (graph_of f) A B k)) w w'

-- 02, wish 12: of two accepted calls of a kind with the same A and B, on file f and on file f', the second's number is the first's or one more:
pub record NumbersRise (f f' a b : List ℕ) : Type 0 where
  -- the level of each x,
  pub level : (x k k' : ℕ) (w₁ w₁' w₂ w₂' : List ℕ) → LevelCall f a b x w₁ w₁' (Ok k) → LevelCall f' a b x w₂ w₂' (Ok k') → Rises k k'
  -- the level across for each y,
  pub level_across : (y k k' : ℕ) (w₁ w₁' w₂ w₂' : List ℕ) → LevelAcrossCall f a b y w₁ w₁' (Ok k) → LevelAcrossCall f' a b y w₂ w₂' (Ok k') → Rises k k'
  -- and the equal level
  pub equal_level : (k k' : ℕ) (w₁ w₁' w₂ w₂' : List ℕ) → EqualLevelCall f a b w₁ w₁' (Ok k) → EqualLevelCall f' a b w₂ w₂' (Ok k') → Rises k k'

-- so it is where f' holds one link more than f; 02, wish 13: where every link weighs 1
abbrev pub OneVouchTold : Type 0
OneVouchTold = (f f' : List ℕ) (u v : ℕ) → Vouched f f' u v → Single (graph_of f) → Single (graph_of f') → (a b : List ℕ) → NumbersRise f f' a b
