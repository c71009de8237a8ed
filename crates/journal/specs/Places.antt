-- Four vouches for everyone (02, wish 9): what is promised of every journal.
use Rattle.std.specs.Prelude.{ℕ, suc, ◌+◌, ◌<◌, ◌≤◌, false, List, ◌≢◌, ◌≡◌, None}
use Rattle.network.specs.File.{most_links}
use Rattle.linkset.specs.Links.{Links}
use Rattle.journal.specs.declared.Entry.TheVariants.{Add, Withdraw, Save, Restore}
use Rattle.journal.specs.Entries.{members, header_refusal, entry_at}
use Rattle.journal.specs.Journal.{given, live, due, State, followed, number, after}

-- live + due is at most 8,192, and no member has given more than 64
pub record Balanced (n : ℕ) (S : Links) : Type 0 where
  pub fits : live n S + due n S ≤ most_links
  pub most : (u : ℕ) → u < n → given n S u ≤ 64

-- 02: of a state: a member with fewer than four may add any link that is absent; withdrawn places are used again: where a link was withdrawn its voucher
-- may add one, and where the voucher had more than four everyone may who has not given 64
pub record Places (n : ℕ) (s : State) : Type 0 where
  pub balanced : Balanced n s.present
  pub never_full : (u v : ℕ) → u < n → v < n → s.present u v ≡ false → given n s.present u < 4 → number n s (Add u v) ≡ 0
  pub used_again : (u v w : ℕ) → number n s (Withdraw u v) ≡ 0 → w < n → (followed s (Withdraw u v)).present u w ≡ false
      → number n (followed s (Withdraw u v)) (Add u w) ≡ 0
  pub freed : (u v w x : ℕ) → number n s (Withdraw u v) ≡ 0 → 4 < given n s.present u → w < n → x < n → (followed s (Withdraw u v)).present w x ≡ false
      → given n (followed s (Withdraw u v)).present w < 64 → number n (followed s (Withdraw u v)) (Add w x) ≡ 0

-- 02: so it is after any entries of any journal, whatever they are
abbrev pub FourForEveryone : Type 0
FourForEveryone = (j : List ℕ) → header_refusal j ≡ None → (k : ℕ) → Places (members j) (after j k)

-- 02: returning to a named state restores both totals: they are those of when it was set last
abbrev pub TotalsRestored : Type 0
TotalsRestored = (j : List ℕ) (i k x : ℕ) → i < k → entry_at j i ≡ Save x → ((m : ℕ) → i < m → m < k → entry_at j m ≢ Save x) → entry_at j k ≡ Restore x
    → (live (members j) (after j (suc k)).present ≡ live (members j) (after j i).present) × (due (members j) (after j (suc k)).present ≡ due (members j) (after j i).present)
