-- Bytes stored one after the other: edges, and what stands at the front of a table.
use Prim.Native.Nat.{ℕ, suc, ◌+◌, ◌*◌, ◌≤◌}
use mathlib.Core.List.{List, [], ◌∷◌, ◌++◌}
use mathlib.Core.Path.{◌≡◌, sym, ap, ◌∙◌}
use native.Mathlib.Nat.{zero-add, add-zero, add-suc, suc-add}
use native.Mathlib.Numerals.{add-one}
use native.Mathlib.Omega.{arith}
use lib.ListN.{length, set, drop}
use lib.Seq.{sets, sets-eq}
use Rattle.graph.specs.Range.{flat}
use Rattle.graph.proofs.Ranges.{length-flat}

-- two runs of stores, one after the other
pub sets-append : (l : List ℕ) (i : ℕ) (a b : List ℕ) → sets (sets l i a) (i + length a) b ≡ sets l i (a ++ b)
sets-append l i [] b = ap (λ k. sets l k b) (add-zero i)
sets-append l i (x ∷ a) b =
    let e : i + suc (length a) ≡ suc i + length a = add-suc i (length a) ∙ sym (suc-add i (length a)) in
    ap (λ k. sets (sets (set l i x) (suc i) a) k b) e ∙ sets-append (set l i x) (suc i) a b

-- runs of as many bytes stored one after the other, and one more
pub sets-runs : (run : ℕ → List ℕ) (c : ℕ) → ((i : ℕ) → length (run i) ≡ c) → (l : List ℕ) (i : ℕ)
    → sets (sets l 9 (flat run i)) (9 + c * i) (run i) ≡ sets l 9 (flat run (i + 1))
unfolding flat
sets-runs run c long l i =
    ap (λ k. sets (sets l 9 (flat run i)) (9 + k) (run i)) (sym (length-flat run c i (λ j m. long j)))
    ∙ sets-append l 9 (flat run i) (run i)
    ∙ rw (add-one i)

-- stored from the start, bytes stand at the front and the rest as it was
pub sets-front : (l v : List ℕ) → length v ≤ length l → sets l 0 v ≡ v ++ drop (length v) l
sets-front l v h = sets-eq v l 0 (omega arith) ∙ rw (zero-add (length v))
