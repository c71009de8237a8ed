-- A list after a store: the entry stored, and every other as it was; and after its front is written.
use Prim.Native.Nat.{ℕ, ◌+◌, ◌-◌, ◌<◌, ◌≤◌}
use mathlib.Core.List.{List, ◌++◌}
use mathlib.Core.Path.{◌≡◌, sym, ap, ◌∙◌}
use native.Mathlib.Decide.{dec_lt}
use native.Mathlib.Numerals.{add-one}
use native.Mathlib.Omega.{arith}
use lib.Dec.{eqb}
use lib.ListN.{length, get_or, set, drop, replicate, get_or-replicate, length-replicate, length-append, length-drop, get_or-eq_default}
use lib.Seq.{get_or-set_same, get_or-set_other, drop-append-add, drop-drop}
use Rattle.std.proofs.lemmas.Bool.Decides.{nat_tests}
use Rattle.graph.specs.Range.{sum, if, table}
use Rattle.graph.proofs.Ranges.{table-unique}

-- where the store counts one up
pub get_or-count : (l : List ℕ) (i k : ℕ) → i < length l → get_or (set l i (get_or l i 0 + 1)) k 0 ≡ get_or l k 0 + if (eqb i k) 1
get_or-count l i k h = grind (arith, nat_tests, get_or-set_same, get_or-set_other)

-- every entry of a list of zeros is 0, and so is what stands past its end
pub get_or-zeros : (n i : ℕ) → get_or {A = ℕ} (replicate n 0) i 0 ≡ 0
get_or-zeros n i = elim (dec_lt i n) [ yes l ↦ get_or-replicate n i 0 0 l | no l ↦ get_or-eq_default (replicate n 0) 0 (rw (length-replicate {A = ℕ} n 0) (omega arith)) ]

-- l is l₀ with each of the first e keys counted at its entry
abbrev pub Counted : List ℕ → (ℕ → ℕ) → ℕ → List ℕ → Type 0
Counted l₀ key e l = (a : ℕ) → get_or l a 0 ≡ get_or l₀ a 0 + sum (λ d. if (eqb (key d) a) 1) e

-- at first nothing is counted
pub count_none : (l : List ℕ) (key : ℕ → ℕ) → Counted l key 0 l
unfolding sum
count_none l key a = omega arith

-- and one more key is counted by a store
pub count-more : (l₀ l : List ℕ) (key : ℕ → ℕ) (e i : ℕ) → i ≡ key e → i < length l → Counted l₀ key e l → Counted l₀ key (e + 1) (set l i (get_or l i 0 + 1))
unfolding sum
count-more l₀ l key e i q h c a = rw (add-one e, ← q) (omega (arith, get_or-count l i a h, c a))

-- counted from zeros, the entries are the counts
pub count-table : (l₀ l : List ℕ) (n : ℕ) (key : ℕ → ℕ) (e : ℕ) → l₀ ≡ replicate n 0 → length l ≡ n → Counted l₀ key e l
    → l ≡ table (λ a. sum (λ d. if (eqb (key d) a) 1) e) n
count-table l₀ l n key e z s c = grind (arith, nat_tests, table-unique, get_or-zeros)

-- what is the same past the first n entries is so past more
pub drop_more : (l l' : List ℕ) (n k : ℕ) → n ≤ k → drop n l ≡ drop n l' → drop k l ≡ drop k l'
drop_more l l' n k h e =
    let s : k ≡ n + (k - n) = omega arith in
    rw s (sym (drop-drop (k - n) n l) ∙ ap (drop (k - n)) e ∙ drop-drop (k - n) n l')

-- a table of which only the first n entries are others is as long as it was,
pub length-past : (l w : List ℕ) (n : ℕ) → length l ≡ n → n ≤ length w → length (l ++ drop n w) ≡ length w
length-past l w n s h = omega (arith, length-append l (drop n w), length-drop n w)

-- and what lies past them is as it was
pub drop_past : (l w : List ℕ) (n e : ℕ) → length l ≡ n → n ≤ e → drop e (l ++ drop n w) ≡ drop e w
drop_past l w n e s h = rw (split e (length l) (omega arith), drop-append-add l (drop n w) (e - length l), drop-drop (e - length l) n w, ← s)
  where
    split : (e n : ℕ) → n ≤ e → e ≡ n + (e - n)
    split e n h = omega arith
