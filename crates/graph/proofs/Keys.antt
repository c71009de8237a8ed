-- Keys from which the next place to drop is read, and at the end the state after any number of drops: a place that is left has its degree for a key,
-- and one that was dropped its mark, which is greater than every degree and tells how many were dropped before it.
use Prim.Native.Nat.{ℕ, suc, ◌+◌, ◌*◌, ◌<◌}
use mathlib.Core.Bool.{true, false, not, false≢true}
use mathlib.Core.Logic.{◌≢◌}
use mathlib.Core.Path.{◌≡◌, sym, ap, ◌∙◌}
use native.Mathlib.Decide.{dec_lt}
use native.Mathlib.Omega.{arith}
use borrow.Author.Tests.{lt-ltb, le-ltb, le-leb, lt-leb}
use lib.Dec.{ltb, leb}
use Rattle.std.proofs.lemmas.Bool.Decides.{nat_tests}
use Rattle.graph.specs.Graph.{Graph, everyone}
use Rattle.graph.specs.Shapes.{Closed}
use Rattle.graph.specs.Cover.{joined}
use Rattle.graph.specs.Harmonic.{state_after}
use Rattle.graph.specs.Drops.{Least, degree_in, drop_at, Keys, Light, first_mark}
use Rattle.graph.proofs.Tests.{and_right}
use Rattle.graph.proofs.Sums.{below_suc}
use Rattle.graph.proofs.Ranges.{permutes-onto}
use Rattle.graph.proofs.Unbeaten.{unbeaten-unique, least-le, least_lt, least_by}
use Rattle.graph.proofs.Harmonic.{drop-least, drop-permutes, state-drop, degree-next}

-- at first the keys are the degrees
pub keys-begin : (g : Graph) (key : ℕ → ℕ) → ((p : ℕ) → p < 2 * g.order → key p ≡ degree_in g everyone p) → Keys g 0 key
unfolding state_after
keys-begin g key h = record { left = λ p l t. h p l; gone = λ j l. absurd (omega arith) }

-- a place that is gone was taken by a drop
gone-drop : {g : Graph} → Closed g → (i p : ℕ) → p < 2 * g.order → state_after g i p ≡ false → (j : ℕ) × (j < i) × (drop_at g j ≡ p)
gone-drop {g} c i p l h =
    let (j, k, e) = permutes-onto (drop-permutes c) p l in
    elim (dec_lt j i) [
      | yes m ↦ (j, m, e)
      | no m ↦ absurd (false≢true (sym h ∙ ap (state_after g i) (sym e) ∙ state-drop c i j k ∙ rw (le-ltb j i (omega arith))))
    ]

module _ {g : Graph} (c : Closed g) (light : Light g) {i : ℕ} {key : ℕ → ℕ} (keys : Keys g i key) where
  -- a place is left where its key is below the marks
  pub keys-test : (p : ℕ) → p < 2 * g.order → state_after g i p ≡ ltb (key p) first_mark
  keys-test p l = grind (arith, nat_tests, gone-drop)

  module _ (l : i < 2 * g.order) where
    -- the place to drop has its degree for a key
    pub drop-key : key (drop_at g i) ≡ degree_in g (state_after g i) (drop_at g i)
    drop-key = let d = drop-least c i l in keys.left (drop_at g i) d.below d.member

    -- the first place with the smallest key is the one to drop
    pub keys-pick : (p : ℕ) → Least key everyone (2 * g.order) p → p ≡ drop_at g i
    keys-pick p s = grind (arith, nat_tests, unbeaten-unique, drop-least, least-le, drop-key, keys-test, least_by, least_lt)

    -- when it is marked, and its edges are taken from the keys of the places left, these are the keys after the drop
    pub keys-next : (key' : ℕ → ℕ) → key' (drop_at g i) ≡ first_mark + i
        → ((q : ℕ) → q < 2 * g.order → q ≢ drop_at g i → state_after g i q ≡ true → key' q + joined g q (drop_at g i) ≡ key q)
        → ((q : ℕ) → q < 2 * g.order → state_after g i q ≡ false → key' q ≡ key q)
        → Keys g (suc i) key'
    unfolding state_after
    keys-next key' here others old = grind (arith, nat_tests, degree-next, below_suc, drop-least, and_right, state-drop)

-- at the end the keys say which places were left after j drops
pub keys-end : {g : Graph} → Closed g → {key : ℕ → ℕ} → Keys g (2 * g.order) key → (j p : ℕ) → p < 2 * g.order → state_after g j p ≡ leb (first_mark + j) (key p)
keys-end {g} c {key} keys j p l =
    let (k, m, e) = permutes-onto (drop-permutes c) p l in
    ap (state_after g j) (sym e) ∙ state-drop c j k m ∙ same k (sym (ap key e) ∙ keys.gone k m)
  where
    same : (k : ℕ) → key p ≡ first_mark + k → not (ltb k j) ≡ leb (first_mark + j) (key p)
    same k e =
        elim (dec_lt k j) [
          | yes h ↦ rw (lt-ltb k j h, lt-leb (first_mark + j) (key p) (omega arith))
          | no h ↦ rw (le-ltb k j (omega arith), le-leb (first_mark + j) (key p) (omega arith))
        ]
