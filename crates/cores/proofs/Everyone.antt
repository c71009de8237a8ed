-- A table of everyone, long enough for the largest file and so for every one: as A and as B it is never refused.
use Prim.Native.Nat.{ℕ, ◌≤◌}
use mathlib.Core.Bool.{true}
use mathlib.Core.List.{List}
use mathlib.Core.Path.{◌≡◌, refl, sym, ◌∙◌}
use native.Mathlib.Omega.{arith}
use borrow.Author.Tests.{le-ltb}
use lib.ListN.{length, replicate, get_or-replicate, length-replicate}
use Rattle.std.specs.Prelude.{Option, None, Some}
use Rattle.network.specs.declared.Refusal.{Refusal}
use Rattle.network.specs.File.{most_members, graph_of, file_refusal}
use Rattle.network.specs.Groups.{is_group, AllIn}
use Rattle.network.specs.Refusals.{core_refusal, harmonic_refusal}
use Rattle.network.proofs.Accepted as file
use Rattle.network.proofs.Groups.{byte-group}
use Rattle.network.proofs.Answers.{or_else-first}

-- the group of everyone
abbrev pub ones : List ℕ
ones = replicate most_members 1

-- each of its bytes is 1,
pub ones-all : (n : ℕ) → n ≤ most_members → AllIn n ones
ones-all n h u l = get_or-replicate most_members u 1 0 (omega arith)

-- so that it is a group
pub ones-group : (n : ℕ) → n ≤ most_members → is_group n ones ≡ true
ones-group n h = byte-group n ones (λ u l. omega (arith, ones-all n h u l))

-- and with it as A and B the file and the lengths of the other tables alone decide
pub ones-refusal : (f : List ℕ) (s t w : ℕ) → core_refusal f ones ones s t w ≡ harmonic_refusal f s t w
unfolding core_refusal harmonic_refusal
ones-refusal f s t w = go (file_refusal f) refl
  where
    go : (r : Option Refusal) → file_refusal f ≡ r → core_refusal f ones ones s t w ≡ harmonic_refusal f s t w
    go (Some q) e = or_else-first _ e ∙ sym (or_else-first _ e)
    go None e =
        let h = ((file.accepted f).0 e).sound.header in
        rw (le-ltb (length ones) (graph_of f).order (omega (arith, length-replicate {A = ℕ} most_members 1, h.order-most)), ones-group (graph_of f).order h.order-most)
