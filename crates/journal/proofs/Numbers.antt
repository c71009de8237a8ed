-- The number of an entry, by what was tested.
use Prim.Native.Nat.{ℕ, ◌+◌, ◌<◌, ◌≤◌}
use mathlib.Core.Bool.{Bool, true, false, cond, ◌||◌, or-true, false≢true}
use mathlib.Core.Logic.{◌⊎◌, ◌≢◌, inl, inr}
use mathlib.Core.Path.{◌≡◌, ◌∙◌}
use native.Mathlib.Omega.{arith}
use borrow.Author.Tests.{le-leb, lt-leb, eq-eqb, ne_eqb}
use Rattle.std.proofs.Common.{Some, None, Result, Ok, Err, IsErr, IfErr}
use Rattle.std.specs.Prelude.{⊤}
use lib.Dec.{leb}
use Rattle.network.specs.File.{most_links}
use Rattle.linkset.specs.Links.{Links}
use Rattle.journal.specs.declared.EntryRefusal.{EntryRefusal}
use Rattle.journal.specs.declared.EntryRefusal.TheVariants as refusal
use Rattle.journal.specs.declared.Entry.TheVariants.{Add, Withdraw, Restore}
use Rattle.journal.specs.Tabled.{number_of, number_told}
use Rattle.journal.specs.Journal.{given, live, due, State, place_number, number}

module _ (n : ℕ) (s : State) (u v : ℕ) where
  -- 10, for either member, of which the first is tested first
  outside : (n ≤ u) ⊎ ((u < n) × (n ≤ v)) → (leb n u || leb n v) ≡ true
  outside (inl h) = rw (le-leb n u h)
  outside (inr (l, h)) = rw (le-leb n v h) (or-true _)

  pub add-outside : (n ≤ u) ⊎ ((u < n) × (n ≤ v)) → number n s (Add u v) ≡ 10
  unfolding number
  add-outside h = rw (outside h)

  pub withdraw-outside : (n ≤ u) ⊎ ((u < n) × (n ≤ v)) → number n s (Withdraw u v) ≡ 10
  unfolding number
  withdraw-outside h = rw (outside h)

  module _ (hu : u < n) (hv : v < n) where
    -- 16,
    pub add-present : s.present u v ≡ true → number n s (Add u v) ≡ 16
    unfolding number
    add-present t = rw (lt-leb n u hu, lt-leb n v hv, t)

    -- or that of the place
    pub add-absent : s.present u v ≡ false → number n s (Add u v) ≡ place_number n s.present u
    unfolding number
    add-absent f = rw (lt-leb n u hu, lt-leb n v hv, f)

    module _ (absent : s.present u v ≡ false) where
      -- 19 where the voucher has given 64,
      pub add-all-given : given n s.present u ≡ 64 → number n s (Add u v) ≡ 19
      add-all-given e = add-absent absent ∙ rw (eq-eqb _ 64 e)

      -- and 20 where it has given four or more and there is no place
      pub add-no-place : 4 ≤ given n s.present u → given n s.present u < 64 → live n s.present + due n s.present ≡ most_links → number n s (Add u v) ≡ 20
      add-no-place l h e = add-absent absent ∙ rw (ne_eqb (given n s.present u) 64 (omega arith), le-leb 4 _ l, eq-eqb _ most_links e)

    -- 17, or none
    pub withdraw-by : (t : Bool) → s.present u v ≡ t → number n s (Withdraw u v) ≡ cond t 0 17
    unfolding number
    withdraw-by t e = rw (lt-leb n u hu, lt-leb n v hv, e)

-- 18, or none
pub restore-unset : (n : ℕ) (s : State) (x : ℕ) → s.named x ≡ None → number n s (Restore x) ≡ 18
unfolding number
restore-unset n s x e = rw e

pub restore-set : (n : ℕ) (s : State) (x : ℕ) (S : Links) → s.named x ≡ Some S → number n s (Restore x) ≡ 0
unfolding number
restore-set n s x S e = rw e

-- a refusal that is handed on is told by its number,
pub told-handed : (answer : Result ⊤ EntryRefusal) (q : EntryRefusal) → IsErr answer → IfErr answer (λ p. p ≡ q) → number_told answer ≡ number_of q
told-handed (Ok v) q e h = absurd (false≢true e)
told-handed (Err p) q e h = rw h

-- which is never 0
pub number-some : (q : EntryRefusal) → number_of q ≢ 0
number-some refusal.Entry e = omega (arith, e)
number-some refusal.Member e = omega (arith, e)
number-some refusal.Present e = omega (arith, e)
number-some refusal.Absent e = omega (arith, e)
number-some refusal.Given e = omega (arith, e)
number-some refusal.Place e = omega (arith, e)
