-- What the journal call promises (02, wishes 8 and 9).
use Rattle.std.specs.Prelude.{ℕ, true, cond, ◌||◌, List, [], ◌∷◌, ◌++◌, ◌≡◌, Option, None, Some, Result, ltb, length, drop}
use Rattle.network.specs.declared.Refusal.{Refusal}
use Rattle.network.specs.declared.Refusal.TheVariants.{Table}
use Rattle.network.specs.File.{most_links, link_at, or_else}
use Rattle.network.specs.Held.{FileWritten}
use Rattle.network.specs.Calls.{Call}
use Rattle.linkset.specs.Links.{Links}
use Rattle.journal.specs.Entries.{members, entries, header_refusal}
use Rattle.journal.specs.Journal.{live, after, numbers}
use Rattle.journal.specs.Places.{Places}

-- 02: how many entries are followed: as many as asked for; more than there are means all
abbrev pub count_of : List ℕ → ℕ → ℕ
count_of j asked = cond (ltb (entries j) asked) (entries j) asked

-- 02: the length of the output, 32,777 bytes: that of a file of version 1, of four bytes a link, with the most links
abbrev pub out_length : ℕ
out_length = link_at 4 most_links

-- 02: the length of the work table: the links present and four named states, each with the most links, two entries a link
abbrev pub work_entries : ℕ
work_entries = 81920

-- the journal, how many entries are asked for, and the lengths of the output, of the table of numbers and of the work table
unfoldable pub journal_refusal : List ℕ → ℕ → ℕ → ℕ → ℕ → Option Refusal
journal_refusal j asked o r w = or_else (header_refusal j) (cond (ltb o out_length || ltb r (count_of j asked) || ltb w work_entries) (Some Table) None)

-- a set of links, as what a file holds; 02, wish 13: links of journals have kind 0
abbrev pub In : Links → ℕ → ℕ → ℕ → Type 0
In S u v k = (S u v ≡ true) × (k ≡ 0)

-- a file of the set S, of version 1, in the first bytes of the output; m, which is its m, is the number of links in S
pub record SetWritten (n : ℕ) (S : Links) (out out' : List ℕ) (m : ℕ) : Type 0 where
  pub file : FileWritten 1 n (In S) out out' m
  pub live : m ≡ live n S

-- the links present after the entries followed are written, the numbers of these stand in their table, and what lies past both is unchanged; and
-- whatever the entries were, everyone still finds the places that 02 promises
pub record JournalTold (j : List ℕ) (asked : ℕ) (out out' r r' w w' : List ℕ) (m : ℕ) : Type 0 where
  pub present : SetWritten (members j) (after j (count_of j asked)).present out out' m
  pub numbered : r' ≡ numbers j (count_of j asked) ++ drop (count_of j asked) r
  pub places : Places (members j) (after j (count_of j asked))
  pub work : (length w' ≡ length w) × (drop work_entries w' ≡ drop work_entries w)

-- the journal call
abbrev pub JournalCall : (j : List ℕ) (asked : ℕ) (out out' r r' w w' : List ℕ) → Result ℕ Refusal → Type 0
JournalCall j asked out out' r r' w w' =
    Call (journal_refusal j asked (length out) (length r) (length w)) (out ∷ r ∷ w ∷ []) (out' ∷ r' ∷ w' ∷ [])
    (JournalTold j asked out out' r r' w w')
