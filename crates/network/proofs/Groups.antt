-- The bytes of a group: each is 0 or 1, one for each member, and the same group again; groups of everyone; and when two counts are the same.
use Prim.Native.Nat.{ℕ, ◌-◌, ◌<◌, ◌≤◌}
use mathlib.Core.Bool.{Bool, true, false, ◌&&◌}
use mathlib.Core.List.{List}
use mathlib.Core.Path.{◌≡◌, refl, ap, ◌∙◌}
use native.Mathlib.Decide.{dec_le}
use native.Mathlib.Omega.{arith}
use borrow.Author.Tests.{lt-ltb, le-ltb, eq-eqb, eqb-true}
use lib.Dec.{eqb, ltb}
use mir.Val.{bool_byte}
use lib.ListN.{length, get_or, take, drop, length-append, length-take, get_or-append}
use Rattle.std.proofs.lemmas.List.{get_or-take}
use Rattle.graph.specs.Range.{if}
use Rattle.graph.specs.Graph.{Graph, Group, everyone}
use Rattle.graph.specs.Shapes.{Same}
use Rattle.graph.proofs.Tests.{if-le}
use Rattle.graph.proofs.Ranges.{length-table, get_or-table, first_some, first-none, first-ext}
use Rattle.network.specs.declared.Totals.{Totals}
use Rattle.network.specs.Groups.{group_of, is_group, AllIn, Among, bytes_of, GroupIn}

-- a test made a number counts 1 where it holds
pub number-of_test : (b : Bool) → bool_byte b ≡ if b 1
number-of_test true = refl
number-of_test false = refl

-- a byte of a group is at most 1: where the first that is greater is past the last, none is
pub group-byte : (n : ℕ) (s : List ℕ) → is_group n s ≡ true → (k : ℕ) → k < n → get_or s k 0 ≤ 1
group-byte n s h k l =
    elim (dec_le (get_or s k 0) 1) [
      | yes i ↦ i
      | no i ↦ absurd (omega (arith, eqb-true _ n h, first_some (λ u. ltb 1 (get_or s u 0)) n k l (lt-ltb 1 (get_or s k 0) (omega arith))))
    ]

-- and bytes that are so are a group
pub byte-group : (n : ℕ) (s : List ℕ) → ((k : ℕ) → k < n → get_or s k 0 ≤ 1) → is_group n s ≡ true
byte-group n s h = eq-eqb _ n (first-none (λ u. ltb 1 (get_or s u 0)) n (λ k l. le-ltb _ _ (h k l)))

-- the bytes of a group are one for each member
pub length-bytes_of : (n : ℕ) (S : Group) → length (bytes_of n S) ≡ n
length-bytes_of n S = length-table _ _

-- byte u is 1 where u is in the group, else 0
pub get_or-bytes_of : (n : ℕ) (S : Group) (u : ℕ) → u < n → get_or (bytes_of n S) u 0 ≡ if (S u) 1
get_or-bytes_of n S u l = get_or-table (λ u. if (S u) 1) n u l

-- so they are the same group again
pub group_of-bytes_of : (n : ℕ) (S : Group) (u : ℕ) → u < n → group_of (bytes_of n S) u ≡ S u
group_of-bytes_of n S u l = rw (get_or-bytes_of n S u l) (test (S u))
  where
    test : (b : Bool) → eqb (if b 1) 1 ≡ b
    test true = refl
    test false = refl

-- a table that begins with a group has a byte for each member
pub group-long : (n : ℕ) (s : List ℕ) {s' : List ℕ} → GroupIn n s s' → n ≤ length s'
group-long n s {s'} e = omega (arith, ap length e, length-append (bytes_of n (group_of s')) (drop n s), length-bytes_of n (group_of s'))

-- and its bytes are 0 and 1
pub group-written : (n : ℕ) (s : List ℕ) {s' : List ℕ} → GroupIn n s s' → is_group n s' ≡ true
group-written n s {s'} e = byte-group n s' (λ u l. omega (arith, here u l, if-le (group_of s' u) 1))
  where
    here : (u : ℕ) → u < n → get_or s' u 0 ≡ if (group_of s' u) 1
    here u l =
        let S = group_of s' in
        ap (λ t. get_or t u 0) e ∙ get_or-append (bytes_of n S) (drop n s) 0 u (omega (arith, length-bytes_of n S)) ∙ get_or-bytes_of n S u l

-- a table cut to its first bytes has the same members
pub cut-same : (g : Graph) (n : ℕ) (s : List ℕ) → g.order ≤ n → Same g (group_of (take n s)) (group_of s)
cut-same g n s l u m = ap (λ b. eqb b 1) (get_or-take n s u 0 (omega arith))

-- and its bytes are those of a group where these are
pub cut-group : {k n : ℕ} (s : List ℕ) → k ≡ n → n ≤ length s → is_group (length (take k s)) (take k s) ≡ is_group n s
cut-group {k} {n} s e l =
    let is : length (take k s) ≡ n = omega (arith, length-take {A = ℕ}) in
    rw is (ap (λ i. eqb i n) (first-ext (λ u. ltb 1 (get_or (take k s) u 0)) (λ u. ltb 1 (get_or s u 0)) n (λ u m. ap (ltb 1) (get_or-take k s u 0 (omega arith)))))

-- so of two tables
pub groups_cut : (n : ℕ) (s t : List ℕ) → n ≤ length s → n ≤ length t
    → (is_group (length (take (n - 0) s)) (take (n - 0) s) && is_group (length (take (n - 0) t)) (take (n - 0) t)) ≡ (is_group n s && is_group n t)
groups_cut n s t p q =
    ap (λ b. b && is_group (length (take (n - 0) t)) (take (n - 0) t)) (cut-group s (omega arith) p) ∙ ap (λ b. is_group n s && b) (cut-group t (omega arith) q)

-- what holds inside two groups, and for any with the same members too, holds among everyone where they are everyone
pub among : (g : Graph) (a b : List ℕ) {holds : Group → Group → Type 0} → ((A B : Group) → Same g (group_of a) A → Same g (group_of b) B → holds A B)
    → Among g.order a b holds
among g a b h = record { inside = h _ _ (λ u l. refl) (λ v l. refl); former = λ p q. h _ _ (whole a p) (whole b q) }
  where
    whole : (s : List ℕ) → AllIn g.order s → Same g (group_of s) everyone
    whole s p u l = eq-eqb _ 1 (p u l)

-- E, |S| and |T| are those of another count where each of the three is
pub totals-same : {a b : Totals} → a.edges ≡ b.edges → a.sources ≡ b.sources → a.targets ≡ b.targets → a ≡ b
totals-same {a} {b} e s t = alike
  where
    alike : ◌≡◌ {A = Totals} (record { edges = a.edges; sources = a.sources; targets = a.targets }) (record { edges = b.edges; sources = b.sources; targets = b.targets })
    alike = rw (e, s, t)
