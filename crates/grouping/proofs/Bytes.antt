-- A group written byte by byte stands in the table's first bytes, and the later ones are as they were.
use Prim.Native.Nat.{ℕ, ◌+◌, ◌-◌, ◌<◌}
use mathlib.Core.List.{List, ◌++◌}
use mathlib.Core.Path.{◌≡◌, refl, sym, ap, ◌∙◌}
use native.Mathlib.Numerals.{add-one}
use native.Mathlib.Omega.{arith}
use lib.Dec.{eqb}
use lib.ListN.{length, get_or, set, drop, get_or-append}
use Rattle.graph.specs.Range.{if, flat, table}
use Rattle.graph.specs.Graph.{Group}
use Rattle.graph.proofs.Ranges.{table-ext, table-fill, table-unique}
use Rattle.network.specs.Groups.{group_of, bytes_of, GroupIn}
use Rattle.network.proofs.Groups.{length-bytes_of, group_of-bytes_of}

-- at first nothing is written
pub fill_begins : (f : ℕ → ℕ) (d : List ℕ) → d ≡ table f 0 ++ drop 0 d
unfolding flat
fill_begins f d = refl

-- and one entry more by a store
pub fill-next : (f : ℕ → ℕ) (d : List ℕ) {l : List ℕ} (i : ℕ) {v : ℕ} → i < length d → l ≡ table f i ++ drop i d → v ≡ f i
    → set l i v ≡ table f (i + 1) ++ drop (i + 1) d
fill-next f d i h e q = rw (e, q, add-one i) (table-fill f d i h)

-- the first n bytes, each written as f says, and the later ones as they were
pub at-front : (f : ℕ → ℕ) (n : ℕ) (l d : List ℕ) → length l ≡ n → ((i : ℕ) → i < n → get_or l i 0 ≡ f i) → l ++ drop (n - 0) d ≡ table f n ++ drop n d
at-front f n l d long e =
    let whole : n - 0 ≡ n = omega arith in
    rw (table-unique l f n long e, whole)

-- the group that is read from the bytes is the one that was written
pub written-group : (n : ℕ) (S : Group) (s : List ℕ) {s' : List ℕ} → s' ≡ bytes_of n S ++ drop n s → (u : ℕ) → u < n → group_of s' u ≡ S u
written-group n S s e u l =
    ap (λ b. eqb b 1) (ap (λ t. get_or t u 0) e ∙ get_or-append (bytes_of n S) (drop n s) 0 u (rw (length-bytes_of n S) l)) ∙ group_of-bytes_of n S u l

-- so the bytes are those of the group that is read from them
pub written_in : (n : ℕ) (S : Group) (s : List ℕ) {s' : List ℕ} → s' ≡ bytes_of n S ++ drop n s → GroupIn n s s'
written_in n S s e = e ∙ ap (λ t. t ++ drop n s) (table-ext n (λ u l. ap (λ b. if b 1) (sym (written-group n S s e u l))))
