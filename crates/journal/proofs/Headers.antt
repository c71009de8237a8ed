-- What holds where a journal is not refused.
use Prim.Native.Nat.{ℕ, ◌-◌, ◌%◌, ◌≤◌}
use mathlib.Core.Bool.{true, false, ◌||◌}
use mathlib.Core.List.{List}
use mathlib.Core.Logic.{◌↔◌}
use mathlib.Core.Path.{◌≡◌, refl, ◌∙◌}
use native.Mathlib.Decide.{dec_lt}
use native.Mathlib.Omega.{arith}
use borrow.Author.Tests.{lt-ltb, le-ltb}
use lib.Dec.{ltb}
use lib.ListN.{length, take}
use lib.Seq.{length-take-le}
use Rattle.std.specs.Prelude.{None, Some, Result, IfErr}
use Rattle.network.specs.declared.Refusal.{Refusal}
use Rattle.network.specs.declared.Refusal.TheVariants.{Table}
use Rattle.network.specs.File.{most_members, u16_at, marked}
use Rattle.network.proofs.Accepted.{ltb-fails, eqb-holds, not-fails, or-fails, cond-none, or_else-both}
use Rattle.network.proofs.Answers.{or_else-told, or_else-second}
use Rattle.journal.specs.Entries.{journal_mark, members, entry_start, entries, header_refusal}
use Rattle.journal.specs.Calls.{count_of, out_length, work_entries, journal_refusal}

-- what a journal's header tells where it is in order
pub record Headed (j : List ℕ) : Type 0 where
  pub long : 7 ≤ length j
  pub is_marked : marked journal_mark j ≡ true
  pub version : u16_at j 3 ≡ 1
  pub order_most : members j ≤ most_members
  pub exact : (length j - 7) % 5 ≡ 0

module _ (j : List ℕ) where
  -- there is no refusal exactly where the header is in order
  pub headed : (header_refusal j ≡ None) ↔ Headed j
  unfolding header_refusal
  headed = simp (cond-none, ltb-fails, not-fails, eqb-holds) (
    λ (a, (b, (c, (d, (e, f))))). record { long = a; is_marked = b; version = c; order_most = d; exact = e },
    λ h. (h.long, (h.is_marked, (h.version, (h.order_most, (h.exact, refl))))),
  )

  -- the entries followed are there
  pub count-within : (asked : ℕ) → 7 ≤ length j → entry_start (count_of j asked) ≤ length j
  count-within asked h =
      elim (dec_lt (entries j) asked) [
        | yes l ↦ rw (lt-ltb (entries j) asked l) (omega arith)
        | no l ↦ rw (le-ltb (entries j) asked (omega arith)) (omega arith)
      ]

-- what holds where a journal and its tables are as required
pub record Required (j : List ℕ) (asked o r w : ℕ) : Type 0 where
  pub header : Headed j
  pub out : out_length ≤ o
  pub numbers : count_of j asked ≤ r
  pub work : work_entries ≤ w

module _ (j : List ℕ) (asked o r w : ℕ) where
  -- the refusal of the header comes first,
  pub journal-header : {Value : Type 0} (answer : Result Value Refusal) → IfErr answer (λ q. header_refusal j ≡ Some q) → IfErr answer (λ q. journal_refusal j asked o r w ≡ Some q)
  unfolding journal_refusal
  journal-header = or_else-told _ _

  -- then 9 where a table is short,
  pub journal-short : header_refusal j ≡ None → (ltb o out_length || ltb r (count_of j asked) || ltb w work_entries) ≡ true → journal_refusal j asked o r w ≡ Some Table
  unfolding journal_refusal
  journal-short e h = or_else-second _ e ∙ rw h

  -- else none,
  pub journal-none : header_refusal j ≡ None → (ltb o out_length || ltb r (count_of j asked) || ltb w work_entries) ≡ false → journal_refusal j asked o r w ≡ None
  unfolding journal_refusal
  journal-none e h = or_else-second _ e ∙ rw h

  -- and without a refusal all is as required
  pub ready : journal_refusal j asked o r w ≡ None → Required j asked o r w
  unfolding journal_refusal
  ready h =
      let (p, q) = (or_else-both (header_refusal j) _).0 h in
      let (a, _) = (cond-none (ltb o out_length || ltb r (count_of j asked) || ltb w work_entries) Table None).0 q in
      let (b, c) = (or-fails (ltb o out_length || ltb r (count_of j asked)) (ltb w work_entries)).0 a in
      let (d, e) = (or-fails (ltb o out_length) (ltb r (count_of j asked))).0 b in
      record { header = (headed j).0 p; out = (ltb-fails o out_length).0 d; numbers = (ltb-fails r (count_of j asked)).0 e; work = (ltb-fails w work_entries).0 c }

-- the table of numbers cut to the entries followed
pub cut-followed : (j : List ℕ) (asked o w : ℕ) (r : List ℕ) {k : ℕ} → journal_refusal j asked o (length r) w ≡ None → k ≡ count_of j asked → length (take k r) ≡ k
cut-followed j asked o w r none e = rw e (length-take-le _ r (ready j asked o (length r) w none).numbers)

-- what the call needs where nothing is refused
pub ruleset accepted = (ready, cut-followed, count-within, length-take-le)
