-- A named state holds until it is set again.
use Prim.Native.Nat.{ℕ, zero, suc, ◌<◌}
use mathlib.Core.Bool.{Bool, true, false, cond}
use mathlib.Core.List.{List}
use mathlib.Core.Logic.{◌≢◌}
use mathlib.Core.Path.{◌≡◌, refl, sym, ap}
use native.Mathlib.Omega.{arith}
use borrow.Author.Tests.{eq-eqb, ne_eqb}
use Rattle.std.proofs.Common.{Some}
use lib.Dec.{eqb}
use Rattle.graph.proofs.Sums.{below_suc}
use Rattle.linkset.specs.Links.{Links}
use Rattle.journal.specs.declared.Entry.{Entry}
use Rattle.journal.specs.declared.Entry.TheVariants.{Add, Withdraw, Save, Restore, Malformed}
use Rattle.journal.specs.Entries.{members, entry_at}
use Rattle.journal.specs.Journal.{State, followed, number, step, after, NamedHolds}

-- what holds after an entry that is followed, and before it, holds after the entry
step-either : (P : State → Type 0) (n : ℕ) (s : State) (e : Entry) → P (followed s e) → P s → P (step n s e)
step-either P n s e f h = go (eqb (number n s e) 0)
  where
    go : (b : Bool) → P (cond b (followed s e) s)
    go true = f
    go false = h

-- an entry that does not set the state leaves it
kept : (x : ℕ) (S : Links) (s : State) (e : Entry) → e ≢ Save x → s.named x ≡ Some S → (followed s e).named x ≡ Some S
kept x S s (Add u v) p h = h
kept x S s (Withdraw u v) p h = h
kept x S s (Save y) p h = rw (ne_eqb x y (λ q. p (ap Save (sym q)))) h
kept x S s (Restore y) p h = h
kept x S s Malformed p h = h

-- so it has the links that it was set to
holds : (j : List ℕ) (i x : ℕ) → entry_at j i ≡ Save x → (k : ℕ) → i < k → ((m : ℕ) → i < m → m < k → entry_at j m ≢ Save x) → (after j k).named x ≡ Some (after j i).present
unfolding after number
holds j i x e zero l none = absurd (omega arith)
holds j i x e (suc k) l none =
    below_suc l
    (λ q. rw (← q, e) (rw (eq-eqb x x refl)))
    (λ m. let h = holds j i x e k m (λ o p r. none o p (omega arith)) in
    step-either (λ s. s.named x ≡ Some (after j i).present) (members j) (after j k) (entry_at j k) (kept x _ (after j k) (entry_at j k) (none k m (omega arith)) h) h)

-- and an entry that returns to it finds them
pub named-holds : NamedHolds
unfolding after number
named-holds j i k x l e none f = rw (f, holds j i x e k l none)
