-- The bytes of a journal (02, wish 8): its header and its entries.
use Rattle.std.specs.Prelude.{ℕ, ◌+◌, ◌-◌, ◌*◌, ◌/◌, ◌%◌, not, cond, ◌&&◌, List, [], ◌∷◌, Option, None, Some, eqb, leb, ltb, length, get_or}
use Rattle.network.specs.declared.Refusal.{Refusal}
use Rattle.network.specs.declared.Refusal.TheVariants.{Short, Mark, Version, Members, Length}
use Rattle.network.specs.File.{most_members, u16_at, marked}
use Rattle.journal.specs.declared.Entry.{Entry}
use Rattle.journal.specs.declared.Entry.TheVariants.{Add, Withdraw, Save, Restore, Malformed}

-- 02: the mark `VJN`
abbrev pub journal_mark : List ℕ
journal_mark = 0x56 ∷ 0x4a ∷ 0x4e ∷ []

-- 02: n, after mark and version
abbrev pub members : List ℕ → ℕ
members j = u16_at j 5

-- 02: where entry i starts, of five bytes each
abbrev pub entry_start : ℕ → ℕ
entry_start i = 7 + 5 * i

-- how many entries there are
abbrev pub entries : List ℕ → ℕ
entries j = (length j - 7) / 5

-- 02: the number that a journal's header gives: 1 (under 7 bytes), 2, 3, 4, and 6 unless the rest divides by five
unfoldable pub header_refusal : List ℕ → Option Refusal
header_refusal j =
    cond (ltb (length j) 7) (Some Short)
    (cond (not (marked journal_mark j)) (Some Mark)
    (cond (not (eqb (u16_at j 3) 1)) (Some Version)
    (cond (ltb most_members (members j)) (Some Members)
    (cond (not (eqb ((length j - 7) % 5) 0)) (Some Length)
    None))))

-- 02: an entry from its kind and its two numbers: kind 0 adds a link and 1 withdraws one (voucher, vouched); 2 sets a named state and 3 returns to
-- one (name 0 to 3, then 0); any other is malformed
abbrev pub entry_of : ℕ → ℕ → ℕ → Entry
entry_of kind a b =
    cond (eqb kind 0) (Add a b)
    (cond (eqb kind 1) (Withdraw a b)
    (cond (not (leb kind 3 && leb a 3 && eqb b 0)) Malformed
    (cond (eqb kind 2) (Save a) (Restore a))))

-- 02: entry i: an 8-bit kind and two 16-bit numbers
unfoldable pub entry_at : List ℕ → ℕ → Entry
entry_at j i = entry_of (get_or j (entry_start i) 0) (u16_at j (entry_start i + 1)) (u16_at j (entry_start i + 3))
