-- A group written to another table byte by byte, and what a group of a core is that is kept inside another.
use Prim.Native.Nat.{ℕ, ◌+◌, ◌<◌, ◌≤◌}
use mathlib.Core.Bool.{true}
use mathlib.Core.List.{List, ◌++◌}
use mathlib.Core.Path.{◌≡◌, refl, sym, ap, ◌∙◌}
use native.Mathlib.Decide.{ℕ_discrete}
use native.Mathlib.Nat.{le_refl}
use native.Mathlib.Omega.{arith}
use lib.Dec.{eqb}
use lib.ListN.{length, set, take, drop, length-set, length-take}
use Rattle.std.proofs.lemmas.List.{get_or-take}
use Rattle.graph.specs.Range.{sum, if}
use Rattle.graph.specs.Graph.{Group}
use Rattle.graph.specs.Within.{cut}
use Rattle.graph.proofs.Tests.{and_left, and_both, test-ext}
use Rattle.graph.proofs.Sums.{sum-empty, sum-next, sum-ext}
use Rattle.graph.proofs.Ranges.{table-ext}
use Rattle.graph.proofs.Stores.{drop_past}
use Rattle.network.specs.Groups.{group_of, bytes_of, GroupIn}
use Rattle.network.proofs.Groups.{length-bytes_of}
use Rattle.grouping.proofs.Bytes.{fill_begins, fill-next, written-group, written_in}
use Rattle.cores.specs.Entries.{Copied, KeptInside}

-- the bytes before u are those of the group, the others as they were, and k is the number of its members before u
pub record Copying (A : Group) (s₀ s : List ℕ) (u k : ℕ) : Type 0 where
  pub bytes : s ≡ bytes_of u A ++ drop u s₀
  pub counted : k ≡ sum (λ v. if (A v) 1) u
  pub same_length : length s ≡ length s₀

-- at first nothing is written
pub copying-begins : (A : Group) (s : List ℕ) → Copying A s s 0 0
copying-begins A s = record { bytes = fill_begins _ s; counted = sym (sum-empty _); same_length = refl }

-- then the next byte
pub copying-next : {A : Group} {s₀ s : List ℕ} {u k v r : ℕ} → Copying A s₀ s u k → u < length s₀ → v ≡ if (A u) 1 → r ≡ v → Copying A s₀ (set s u v) (u + 1) (k + r)
copying-next {A} {s₀} {s} {u} {v = v} c l e i =
    record {
      bytes = fill-next (λ i. if (A i) 1) s₀ u l c.bytes e;
      counted = omega (arith, c.counted, sum-next (λ i. if (A i) 1) u);
      same_length = length-set s u v ∙ c.same_length;
    }

-- a group of a core inside one that stands in the first bytes of a table
pub kept-cut : {need i n : ℕ} (a : List ℕ) {s s' : List ℕ} {found k : ℕ} → i ≡ n → n ≤ length a
    → KeptInside need (length (take i a)) (take i a) s s' found k → KeptInside need n a s s' found k
kept-cut {i = i} {n} a e l h = record { as-found = h.as-found; whole = λ z. whole (h.whole z) }
  where
    long : length (take i a) ≡ n
    long = omega (arith, length-take {A = ℕ})

    same : (u : ℕ) → u < n → group_of (take i a) u ≡ group_of a u
    same u m = ap (λ b. eqb b 1) (get_or-take i a u 0 (omega arith))

    whole : {s s' : List ℕ} {k : ℕ} → Copied (length (take i a)) (take i a) s s' k → Copied n a s s' k
    whole {s} c =
        record {
          bytes = c.bytes ∙ rw long (ap (λ t. t ++ drop n s) (table-ext n (λ u m. ap (λ b. if b 1) (same u m))));
          counted = c.counted ∙ rw long (sum-ext n (λ u m. ap (λ b. if b 1) (same u m)));
        }

-- the group that is kept is what is in both, and stands where it was found
pub record Kept (n : ℕ) (a s s₁ s₂ : List ℕ) (k : ℕ) : Type 0 where
  pub written : GroupIn n s s₂
  pub both : (u : ℕ) → u < n → cut (group_of s₁) (group_of a) u ≡ group_of s₂ u
  pub counted : k ≡ sum (λ u. if (group_of s₂ u) 1) n

-- since it has everyone where nothing is needed, and lies inside the other where something is
pub kept-inside : {need n : ℕ} (a s : List ℕ) {s₁ s₂ : List ℕ} {found k : ℕ} → GroupIn n s s₁ → found ≡ sum (λ u. if (group_of s₁ u) 1) n
    → (need ≡ 0 → (u : ℕ) → u < n → group_of s₁ u ≡ true) → (1 ≤ need → (u : ℕ) → u < n → group_of s₁ u ≡ true → group_of a u ≡ true)
    → KeptInside need n a s₁ s₂ found k → Kept n a s s₁ s₂ k
kept-inside {need} {n} a s {s₁} {s₂} {k = k} g f all inside h = elim (ℕ_discrete need 0) [ yes e ↦ copied e | no e ↦ found_as e ]
  where
    copied : need ≡ 0 → Kept n a s s₁ s₂ k
    copied e =
        let c = h.whole e in
        let bytes : s₂ ≡ bytes_of n (group_of a) ++ drop n s
        = c.bytes ∙ ap (λ t. bytes_of n (group_of a) ++ t) (ap (drop n) g ∙ drop_past (bytes_of n (group_of s₁)) s n n (length-bytes_of n (group_of s₁)) (le_refl n)) in
        let same = written-group n (group_of a) s bytes in
        record {
          written = written_in n (group_of a) s bytes;
          both = λ u l. rw (all e u l) (sym (same u l));
          counted = c.counted ∙ sum-ext n (λ u l. rw (same u l));
        }

    found_as : ¬ (need ≡ 0) → Kept n a s s₁ s₂ k
    found_as e =
        let (same, count) = h.as-found e in
        rw (same, count)
        record {
          written = g;
          both = λ u l. test-ext _ _ (and_left (group_of s₁ u) (group_of a u)) (λ i. and_both i (inside (omega arith) u l i));
          counted = f;
        }
