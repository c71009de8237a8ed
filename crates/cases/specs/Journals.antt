-- What is said of a journal (02, wishes 8 and 9): the numbers of its entries, the links present after them and both totals; and 19 and 20 by a law.
use Rattle.std.specs.Prelude.{ℕ, false, ◌+◌, ◌<◌, ◌≤◌, ◌*◌, ◌/◌, ◌%◌, List, ◌∷◌, ◌++◌, ◌≡◌, None}
use Rattle.graph.specs.Range.{if, table}
use Rattle.network.specs.File.{most_links}
use Rattle.network.specs.Bytes.{u16}
use Rattle.linkset.specs.Links.{Links}
use Rattle.journal.specs.declared.Entry.TheVariants.{Add}
use Rattle.journal.specs.Entries.{journal_mark, members, header_refusal}
use Rattle.journal.specs.Journal.{given, live, due, State, number, after, numbers}
use Rattle.journal.specs.Calls.{count_of}

-- 02: mark, version and n
abbrev pub journal_header : ℕ → List ℕ
journal_header n = journal_mark ++ u16 1 ++ u16 n

-- 02: an entry: kind, then two numbers
abbrev pub entry : ℕ → ℕ → ℕ → List ℕ
entry kind a b = kind ∷ u16 a ++ u16 b

-- a set of links among n members as a list, voucher by voucher: of each pair of members 1 for a link, or 0
abbrev pub pairs : ℕ → Links → List ℕ
pairs n S = table (λ i. if (S (i / n) (i % n)) 1) (n * n)

-- the numbers of the entries followed
abbrev pub numbers_after : List ℕ → ℕ → List ℕ
numbers_after j asked = numbers j (count_of j asked)

-- the links present after them, as such a list
abbrev pub pairs_after : List ℕ → ℕ → List ℕ
pairs_after j asked = pairs (members j) (after j (count_of j asked)).present

-- the header gives no refusal, the entries followed have these numbers, and these links are present after them
pub record SaysJournal (j : List ℕ) (asked : ℕ) (given left : List ℕ) : Type 0 where
  pub header : header_refusal j ≡ None
  pub numbers : numbers_after j asked ≡ given
  pub present : pairs_after j asked ≡ left

-- the header gives no refusal, and so many are live and due after the entries followed
pub record SaysTotals (j : List ℕ) (asked l d : ℕ) : Type 0 where
  pub header : header_refusal j ≡ None
  pub live_is : live (members j) (after j (count_of j asked)).present ≡ l
  pub due_is : due (members j) (after j (count_of j asked)).present ≡ d

-- 02, wish 9: an addition of an absent link between two members, by a voucher that has given 64, gets 19; and by one that has given four or more, and
-- not 64, it gets 20 where live + due is 8,192: no case shows these numbers, as none has so many links or members
pub record PlaceNumbers (n : ℕ) (s : State) (u v : ℕ) : Type 0 where
  pub all_given : given n s.present u ≡ 64 → number n s (Add u v) ≡ 19
  pub no_place : 4 ≤ given n s.present u → given n s.present u < 64 → live n s.present + due n s.present ≡ most_links → number n s (Add u v) ≡ 20

abbrev pub PlaceNumbersHold : Type 0
PlaceNumbersHold = (n : ℕ) (s : State) (u v : ℕ) → u < n → v < n → s.present u v ≡ false → PlaceNumbers n s u v
