-- A journal followed from its start: before the first entry, and after one more.
use Prim.Native.Nat.{ℕ, zero, suc, ◌+◌, ◌<◌, ◌≤◌}
use mathlib.Core.Bool.{false≢true}
use mathlib.Core.List.{List, ◌++◌}
use mathlib.Core.Path.{◌≡◌, refl, sym}
use native.Mathlib.Numerals.{add-one}
use Rattle.std.proofs.Common.{None}
use lib.ListN.{length, get_or, set, drop, replicate}
use Rattle.graph.specs.Range.{flat}
use Rattle.graph.proofs.Ranges.{table-fill}
use Rattle.network.specs.File.{most_members}
use Rattle.linkset.specs.Tables.{Pairs}
use Rattle.linkset.proofs.Sets.{keeps-none}
use Rattle.journal.specs.declared.Tally.{Tally}
use Rattle.journal.specs.Entries.{members, entry_at}
use Rattle.journal.specs.Journal.{step, after, number_at, numbers}
use Rattle.journal.specs.Tabled.{Known, set_start, work_links, Tabled, begin}
use Rattle.journal.proofs.Changes.{live-empty, due-empty}
use Rattle.journal.proofs.Places.{sound-start}

-- no state is set at first
none-known : (n : ℕ) (l : Pairs) (x : ℕ) → Known n l None (get_or (replicate 4 None) x None)
none-known n l zero = tt
none-known n l (suc zero) = tt
none-known n l (suc (suc zero)) = tt
none-known n l (suc (suc (suc zero))) = tt
none-known n l (suc (suc (suc (suc x)))) = tt

-- before the first entry
pub tabled-begin : (j : List ℕ) (l : Pairs) → members j ≤ most_members → work_links ≤ length l
    → Tabled (members j) (after j 0) l (begin (members j))
unfolding after
tabled-begin j l few h = record {
  long = h;
  four = refl;
  sound = sound-start (members j) few;
  present = record { keeps = keeps-none; within = λ u v t. absurd (false≢true t); live_is = sym (live-empty (members j)); due_is = sym (due-empty (members j)) };
  named = λ x m. none-known (members j) (drop (set_start (x + 1)) l) x;
}

-- after one more
pub tabled-next : (j : List ℕ) (i : ℕ) (l : Pairs) (t : Tally) → Tabled (members j) (step (members j) (after j i) (entry_at j i)) l t → Tabled (members j) (after j (i + 1)) l t
unfolding after
tabled-next j i l t h = rw (add-one i) h

-- the numbers of the entries followed, at the front of their table
pub numbers-none : (j d : List ℕ) → d ≡ numbers j 0 ++ drop 0 d
unfolding flat
numbers-none j d = refl

pub numbers-next : (j d l : List ℕ) (i k : ℕ) → l ≡ numbers j i ++ drop i d → k ≡ number_at j i → i < length d → set l i k ≡ numbers j (i + 1) ++ drop (i + 1) d
numbers-next j d l i k e q h = rw (e, q, add-one i) (table-fill (number_at j) d i h)
