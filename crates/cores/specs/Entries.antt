-- The one way into a call on cores: what it refuses, and what it leaves for the call.
use Rattle.std.specs.Prelude.{ℕ, ◌≤◌, cond, ◌||◌, List, [], ◌∷◌, ◌++◌, ◌≢◌, ◌≡◌, Option, None, Some, Result, eqb, ltb, length, drop}
use Rattle.graph.specs.Range.{sum, if}
use Rattle.graph.specs.Within.{within}
use Rattle.network.specs.declared.Refusal.{Refusal}
use Rattle.network.specs.declared.Refusal.TheVariants.{Table, Zero}
use Rattle.network.specs.declared.Extent.{Extent}
use Rattle.network.specs.File.{graph_of, or_else, file_refusal}
use Rattle.network.specs.Groups.{group_of, bytes_of}
use Rattle.network.specs.Refusals.{short_groups, in_groups, work_length}
use Rattle.network.specs.Accepted.{Accepted}
use Rattle.network.specs.Calls.{Call}
use Rattle.peeling.specs.Peeling.{Tabled, Weighed}
use Rattle.climbing.specs.declared.Rise.{Rise}
use Rattle.climbing.specs.Climbs.{LevelOf}
use Rattle.cores.specs.Calls.{WorkKept}

-- what is asked of a call beside the file and its tables: nothing, or a number that is not 0
abbrev pub ask_refusal : Option ℕ → Option Refusal
ask_refusal None = None
ask_refusal (Some x) = cond (eqb x 0) (Some Zero) None

-- what comes after the file's own numbers, for n members and m links, A and B, and the lengths of two groups and of the work table
unfoldable pub later_refusal : Option ℕ → ℕ → ℕ → List ℕ → List ℕ → ℕ → ℕ → ℕ → Option Refusal
later_refusal ask n m a b s t w =
    cond (short_groups n a b || ltb s n || ltb t n || ltb w (work_length n m)) (Some Table) (in_groups n a b (ask_refusal ask))

-- the refusal at the way in
unfoldable pub entry_refusal : Option ℕ → List ℕ → List ℕ → List ℕ → ℕ → ℕ → ℕ → Option Refusal
entry_refusal ask f a b s t w = or_else (file_refusal f) (later_refusal ask (graph_of f).order (graph_of f).size a b s t w)

-- the tables of A and B, groups of the lengths s and t and the work table are long enough for n members and m links
pub record LongFor (n m : ℕ) (a b : List ℕ) (s t w : ℕ) : Type 0 where
  pub a-long : n ≤ length a
  pub b-long : n ≤ length b
  pub sources : n ≤ s
  pub targets : n ≤ t
  pub work : work_length n m ≤ w

-- The file is accepted, all tables are long enough, and the work table holds the links from A to B of its network of n members, m of them at most;
-- table d has the degrees of all places.
pub record Entered (f a b : List ℕ) (s t : ℕ) (w w' d : List ℕ) (n m : ℕ) : Type 0 where
  pub accepted : Accepted f
  pub order : n ≡ (graph_of f).order
  pub size : m ≤ (graph_of f).size
  pub long : LongFor (graph_of f).order (graph_of f).size a b s t (length w)
  pub tabled : Tabled (within (graph_of f) (group_of a) (group_of b)) n m w'
  pub weighed : Weighed n m w' d
  pub work : WorkKept f w w'

-- the way in: n, and the number of links from A to B
abbrev pub EntryCall : List ℕ → List ℕ → List ℕ → Option ℕ → ℕ → ℕ → List ℕ → List ℕ → List ℕ → Result Extent Refusal → Type 0
EntryCall f a b ask s t w w' d =
    Call (entry_refusal ask f a b s t (length w)) (w ∷ []) (w' ∷ []) (λ e. Entered f a b s t w w' d e.order e.size)

-- the links from A to B have this level, of its kind
abbrev pub LevelWithin : List ℕ → List ℕ → List ℕ → Rise → ℕ → ℕ → Type 0
LevelWithin f a b = LevelOf (within (graph_of f) (group_of a) (group_of b))

-- a group of n members is written to a table, the later bytes of which are as they were, and k is the number of its members
pub record Copied (n : ℕ) (a s s' : List ℕ) (k : ℕ) : Type 0 where
  pub bytes : s' ≡ bytes_of n (group_of a) ++ drop n s
  pub counted : k ≡ sum (λ u. if (group_of a u) 1) n

-- a group of a core inside another: as it was found where its members need a link, and else the other itself
pub record KeptInside (need n : ℕ) (a s s' : List ℕ) (found k : ℕ) : Type 0 where
  pub as-found : need ≢ 0 → (s' ≡ s) × (k ≡ found)
  pub whole : need ≡ 0 → Copied n a s s' k
