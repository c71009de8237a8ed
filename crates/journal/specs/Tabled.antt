-- The work table, a list of links, and the tally hold the state of a journal. Set 0 is the links present, set x + 1 those of name x; a set starts at
-- link 8,192 times its number.
use Rattle.std.specs.Prelude.{ℕ, ◌+◌, ◌-◌, ◌*◌, ◌<◌, ◌≤◌, true, cond, [], ◌⊎◌, ◌≡◌, Option, Some, None, Result, Ok, Err, ⊤, leb, ltb, length, get_or, take, drop, replicate}
use Rattle.linkset.specs.Links.{Links}
use Rattle.linkset.specs.Tables.{Pairs, Keeps}
use Rattle.journal.specs.declared.Totals.{Totals}
use Rattle.journal.specs.declared.Tally.{Tally}
use Rattle.journal.specs.declared.EntryRefusal.{EntryRefusal}
use Rattle.journal.specs.declared.EntryRefusal.TheVariants as refusal
use Rattle.journal.specs.declared.Entry.{Entry}
use Rattle.journal.specs.Journal.{live, due, State, number, step}
use Rattle.journal.specs.Places.{Balanced}

-- every link of a set joins two of n members
abbrev pub Within : ℕ → Links → Type 0
Within n S = (u v : ℕ) → S u v ≡ true → (u < n) × (v < n)

-- the first links of a table, as many as are live, are those of a set among n members, and the record holds both totals of the set
pub record Stored (n : ℕ) (S : Links) (l : Pairs) (t : Totals) : Type 0 where
  pub keeps : Keeps S (take t.live l)
  pub within : Within n S
  pub live_is : t.live ≡ live n S
  pub due_is : t.due ≡ due n S

-- a named state and what is known of it: both were never set, or its links are the first of a table, and the record is theirs
abbrev pub Known : ℕ → Pairs → Option Links → Option Totals → Type 0
Known n l None None = ⊤
Known n l (Some S) (Some t) = Stored n S l t
Known n l None (Some t) = ⊥
Known n l (Some S) None = ⊥

-- the links present, and those of every named state, are balanced
pub record Sound (n : ℕ) (s : State) : Type 0 where
  pub present : Balanced n s.present
  pub named : (x : ℕ) (S : Links) → s.named x ≡ Some S → Balanced n S

-- where a set starts
abbrev pub set_start : ℕ → ℕ
set_start i = 8192 * i

-- the links of all five, of two entries of the work table each
abbrev pub work_links : ℕ
work_links = 40960

-- the table and the tally hold the state
pub record Tabled (n : ℕ) (s : State) (l : Pairs) (t : Tally) : Type 0 where
  pub long : work_links ≤ length l
  pub four : length t.named ≡ 4
  pub sound : Sound n s
  pub present : Stored n s.present l t.present
  pub named : (x : ℕ) → x < 4 → Known n (drop (set_start (x + 1)) l) (s.named x) (get_or t.named x None)

-- they hold some state
abbrev pub Holds : ℕ → Pairs → Tally → Type 0
Holds n l t = (s : State) × Tabled n s l t

-- 02: the number of each refusal of an entry
abbrev pub number_of : EntryRefusal → ℕ
number_of refusal.Entry = 18
number_of refusal.Member = 10
number_of refusal.Present = 16
number_of refusal.Absent = 17
number_of refusal.Given = 19
number_of refusal.Place = 20

-- the number of an entry by what following it answers
abbrev pub number_told : Result ⊤ EntryRefusal → ℕ
number_told (Ok v) = 0
number_told (Err r) = number_of r

-- k is the entry's number, and the table and the tally hold the state after it
pub record Turned (n : ℕ) (s : State) (e : Entry) (l : Pairs) (t : Tally) (k : ℕ) : Type 0 where
  pub number_is : k ≡ number n s e
  pub tabled : Tabled n (step n s e) l t

-- an entry, of number k, makes l' and t' of the table l and the tally t, whatever state they hold
abbrev pub Turns : ℕ → Entry → (l : Pairs) (t : Tally) (l' : Pairs) (t' : Tally) → ℕ → Type 0
Turns n e l t l' t' k = (s : State) → Tabled n s l t → Turned n s e l' t' k

-- before the first entry no link is present, four are due to each of n members, and no state is set
abbrev pub begin : ℕ → Tally
begin n = record { present = record { live = 0; due = 4 * n }; named = replicate 4 None }

-- an added link takes a place, and is one of its voucher's four where that has given fewer
abbrev pub added : Totals → ℕ → Totals
added t given = record { live = t.live + 1; due = cond (ltb given 4) (t.due - 1) t.due }

-- a withdrawn link gives its place back, and its voucher lacks one more where it has given at most four
abbrev pub withdrawn : Totals → ℕ → Totals
withdrawn t given = record { live = t.live - 1; due = cond (leb given 4) (t.due + 1) t.due }

-- l' is l with links copied from one place to another
pub record Copied (l l' : Pairs) (from to count : ℕ) : Type 0 where
  pub same_length : length l' ≡ length l
  pub part : (k : ℕ) → k < count → get_or l' (to + k) [] ≡ get_or l (from + k) []
  pub rest : (k : ℕ) → (k < to) ⊎ (to + count ≤ k) → get_or l' k [] ≡ get_or l k []

-- l' is l with m links copied from one set to another
abbrev pub CopiedSet : (l l' : Pairs) (from to m : ℕ) → Type 0
CopiedSet l l' from to m = Copied l l' (set_start from) (set_start to) m
