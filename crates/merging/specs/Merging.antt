-- What a merge of two networks has found so far.
use Rattle.std.specs.Prelude.{ℕ, suc, ◌+◌, ◌*◌, ◌<◌, ◌≤◌, Bool, true, false, List, ◌≡◌, eqb, leb, length, get_or}
use Rattle.graph.specs.Range.{sum, if}
use Rattle.graph.specs.Graph.{Graph}
use Rattle.graph.specs.Sorting.{key_of}
use Rattle.merging.specs.declared.walks.Walk.{Walk}
use Rattle.merging.specs.Shared.{is_one, is_shared}

-- so many edges of two networks are compared at once
abbrev pub run : ℕ
run = 16

-- an edge as one number, by source, then by target, then by weight: those of one link have the same
abbrev pub mark_of : Graph → ℕ → ℕ
mark_of g e = 16 * key_of g e + g.weight e

-- from edge d of g and edge e of h on, n edges of both are one link each
pub record Run (g h : Graph) (d e n : ℕ) : Type 0 where
  pub first_most : d + n ≤ g.size
  pub second_most : e + n ≤ h.size
  pub one : (i : ℕ) → i < n → is_one g h (d + i) (e + i) ≡ true

-- l' is l with n numbers, from d on, put at entry k
pub record PutRun (l l' : List ℕ) (k d n : ℕ) : Type 0 where
  pub put : (i : ℕ) → i < n → get_or l' (k + i) 0 ≡ d + i
  pub front : (i : ℕ) → i < k → get_or l' i 0 ≡ get_or l i 0
  pub same_length : length l' ≡ length l

-- the first k entries of a list are the numbers below n that pass a test, ascending
pub record Picked (p : ℕ → Bool) (n : ℕ) (l : List ℕ) (k : ℕ) : Type 0 where
  pub counted : k ≡ sum (λ e. if (p e) 1) n
  pub below : (i : ℕ) → i < k → get_or l i 0 < n
  pub passes : (i : ℕ) → i < k → p (get_or l i 0) ≡ true
  pub rises : (i : ℕ) → suc i < k → get_or l i 0 < get_or l (suc i) 0
  pub every : (e : ℕ) → e < n → p e ≡ true → (i : ℕ) × (i < k) × (get_or l i 0 ≡ e)

-- the merge stands at edge i of g and edge j of h: no edge passed of the one is a link of the other that is still to come
pub record Walked (g h : Graph) (i j : ℕ) : Type 0 where
  pub first_most : i ≤ g.size
  pub second_most : j ≤ h.size
  pub first : (d e : ℕ) → d < i → j ≤ e → e < h.size → is_one g h d e ≡ false
  pub second : (d e : ℕ) → i ≤ d → d < g.size → e < j → is_one g h d e ≡ false

-- and the first k entries of the list are the edges of g passed that are links of h too, which are as many as those of h passed that are links of g
pub record Merging (g h : Graph) (l : List ℕ) (i j k : ℕ) : Type 0 where
  pub walked : Walked g h i j
  pub picked : Picked (is_shared g h) i l k
  pub counted : k ≡ sum (λ e. if (is_shared h g e) 1) j
  pub few : k ≤ i

-- so far a walk has come
abbrev pub Merged : Graph → Graph → List ℕ → Walk → Type 0
Merged g h l w = Merging g h l w.first w.second w.both

-- a step of a walk, by the marks of the two edges in hand
abbrev pub stepped : Walk → ℕ → ℕ → Walk
stepped w first second = record { first = w.first + if (leb first second) 1; second = w.second + if (leb second first) 1; both = w.both + if (eqb first second) 1 }
