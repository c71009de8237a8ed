-- What a journal means (02, wishes 8 and 9): a plain set of links that follows its entries, and the number of each entry.
use Rattle.std.specs.Prelude.{ℕ, zero, suc, ◌+◌, ◌-◌, ◌<◌, cond, ◌&&◌, ◌||◌, List, ◌≢◌, ◌≡◌, Option, Some, None, eqb, leb, is_some, unwrap_or}
use Rattle.graph.specs.Range.{sum, if, table}
use Rattle.network.specs.File.{most_links}
use Rattle.linkset.specs.Links.{Links, empty, with, without}
use Rattle.journal.specs.declared.Entry.{Entry}
use Rattle.journal.specs.declared.Entry.TheVariants.{Add, Withdraw, Save, Restore, Malformed}
use Rattle.journal.specs.Entries.{members, entry_at}

-- 02: the vouches that u has given: the links of a set that leave u, among n members
abbrev pub given : ℕ → Links → ℕ → ℕ
given n S u = sum (λ v. if (S u v) 1) n

-- 02: live, the links of a set
unfoldable pub live : ℕ → Links → ℕ
live n S = sum (given n S) n

-- 02: due, the total of what members lack to four
unfoldable pub due : ℕ → Links → ℕ
due n S = sum (λ u. 4 - given n S u) n

-- the links present, and apart from them the named states: the links of each, or none where it was never set
pub record State : Type 0 where
  pub present : Links
  pub named : ℕ → Option Links

-- 02: the network starts without links, and no state is set
abbrev pub start : State
start = record { present = empty; named = λ x. None }

-- what an entry leaves that is not refused; 02: a named state holds until it is set again
abbrev pub followed : State → Entry → State
followed s (Add u v) = record { present = with s.present u v; named = s.named }
followed s (Withdraw u v) = record { present = without s.present u v; named = s.named }
followed s (Save x) = record { present = s.present; named = λ y. cond (eqb y x) (Some s.present) (s.named y) }
followed s (Restore x) = record { present = unwrap_or (s.named x) s.present; named = s.named }
followed s Malformed = s

-- 02: the number of an addition by a voucher that has given so many: 19 where these are 64; 20 where they are four or more and live + due is 8,192
abbrev pub place_of : ℕ → ℕ → ℕ
place_of given full = cond (eqb given 64) 19 (cond (leb 4 given && eqb full most_links) 20 0)

-- that of an addition by u to a set
abbrev pub place_number : ℕ → Links → ℕ → ℕ
place_number n S u = place_of (given n S u) (live n S + due n S)

-- 02: an entry's number, or 0: it is tested for 18 (malformed, or a return to a state never set), 10 (either member), 16 (an added link is present),
-- 17 (a withdrawn one is absent), and an addition then for a place, 19 and 20
unfoldable pub number : ℕ → State → Entry → ℕ
number n s (Add u v) = cond (leb n u || leb n v) 10 (cond (s.present u v) 16 (place_number n s.present u))
number n s (Withdraw u v) = cond (leb n u || leb n v) 10 (cond (s.present u v) 0 17)
number n s (Save x) = 0
number n s (Restore x) = cond (is_some (s.named x)) 0 18
number n s Malformed = 18

-- 02: a refused entry is skipped
abbrev pub step : ℕ → State → Entry → State
step n s e = cond (eqb (number n s e) 0) (followed s e) s

-- what the first k entries leave
unfoldable pub after : List ℕ → ℕ → State
after j zero = start
after j (suc k) = step (members j) (after j k) (entry_at j k)

-- the number of entry i
abbrev pub number_at : List ℕ → ℕ → ℕ
number_at j i = number (members j) (after j i) (entry_at j i)

-- 02: the numbers of the first k entries
abbrev pub numbers : List ℕ → ℕ → List ℕ
numbers j = table (number_at j)

-- 02: a named state holds until it is set again: returning to it brings back the links that were present when it was set last
abbrev pub NamedHolds : Type 0
NamedHolds = (j : List ℕ) (i k x : ℕ) → i < k → entry_at j i ≡ Save x → ((m : ℕ) → i < m → m < k → entry_at j m ≢ Save x) → entry_at j k ≡ Restore x
    → (after j (suc k)).present ≡ (after j i).present
