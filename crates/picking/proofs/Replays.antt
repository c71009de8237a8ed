-- The matches that must be played again when the key of place p is another. A match can change only where place p comes to its node from below,
-- for the keys of the other places are as before, or where a node below it has changed. Place p comes to a node only along the way up from
-- its leaf, since a node that holds a place has it from one of the two below it. So the nodes above the leaf wait, and no others.
use Prim.Native.Nat.{ℕ, zero, suc, ◌+◌, ◌-◌, ◌*◌, ◌/◌, ◌<◌, ◌≤◌}
use mathlib.Core.List.{List}
use mathlib.Core.Logic.{◌⊎◌, inl, inr, ⊎_elim, ◌≢◌}
use mathlib.Core.Path.{◌≡◌, sym, ap, ◌∙◌}
use native.Mathlib.Decide.{ℕ_discrete, dec_lt}
use native.Mathlib.Omega.{arith}
use lib.ListN.{set}
use lib.Seq.{get_or-set_other}
use Rattle.picking.specs.Winners.{key_of, node_of, Played, Matched, Tree}
use Rattle.picking.proofs.Matches.{above, above_half, Pending, winner-one, winner-ext, matched-same}
use Rattle.picking.proofs.Tables.{node-same}

-- place p comes to node k from one of the two nodes below it
abbrev Comes : (ℕ → ℕ) → ℕ → ℕ → Type 0
Comes node p k = (node (2 * k) ≡ p) ⊎ (node (2 * k + 1) ≡ p)

-- a place that wins comes from below
played-comes : (key node : ℕ → ℕ) (p k : ℕ) → Played key node k → node k ≡ p → Comes node p k
played-comes key node p k e h = ⊎_elim (λ o. inl (sym o ∙ sym e ∙ h)) (λ o. inr (sym o ∙ sym e ∙ h)) (winner-one key (node (2 * k)) (node (2 * k + 1)))

module _ {key node : ℕ → ℕ} {n : ℕ} (m : Matched key node n 0) (leaf : (q : ℕ) → q < n → node (n + q) ≡ q) (p : ℕ) where
  -- a node that holds place p is above its leaf
  holder : (f k : ℕ) → 2 * n < f + k → 1 ≤ k → k < 2 * n → node k ≡ p → (t : ℕ) × (above t (n + p) ≡ k)
  unfolding above
  holder zero k l a b e = absurd (omega arith)
  holder (suc f) k l a b e =
      elim (dec_lt k n) [
        | no h ↦ (0, omega (arith, sym (leaf (k - n) (omega arith)) ∙ ap node (part k n (omega arith)) ∙ e))
        | yes h ↦
            ⊎_elim
            (λ o. let (t, d) = holder f (2 * k) (omega arith) (omega arith) (omega arith) o in (suc t, omega (arith, d)))
            (λ o. let (t, d) = holder f (2 * k + 1) (omega arith) (omega arith) (omega arith) o in (suc t, omega (arith, d)))
            (played-comes key node p k (m.played k a h) e)
      ]
    where
      part : (k n : ℕ) → n ≤ k → n + (k - n) ≡ k
      part k n h = omega arith

  -- and so is a node to which place p comes: it is at or above the node that is next to the leaf
  comes-above : (k : ℕ) → 1 ≤ k → k < n → Comes node p k → (t : ℕ) × (above t ((n + p) / 2) ≡ k)
  comes-above k a b u =
      ⊎_elim
      (λ e. let (t, d) = holder (suc (2 * n)) (2 * k) (omega arith) (omega arith) (omega arith) e in (t, above_half t (n + p) ∙ omega (arith, d)))
      (λ e. let (t, d) = holder (suc (2 * n)) (2 * k + 1) (omega arith) (omega arith) (omega arith) e in (t, above_half t (n + p) ∙ omega (arith, d)))
      u

  -- when the key of place p is another, the nodes above its leaf wait
  pub pending-begin : (key' : ℕ → ℕ) → ((q : ℕ) → q < n → q ≢ p → key' q ≡ key q) → Pending key' node n ((n + p) / 2)
  pending-begin key' same = record { place = m.place; played = played }
    where
      still-played : (k : ℕ) → 1 ≤ k → k < n → node (2 * k) ≢ p → node (2 * k + 1) ≢ p → Played key' node k
      still-played k a b g h =
          m.played k a b
          ∙ winner-ext key key' _ _ (sym (same _ (m.place (2 * k) (omega arith) (omega arith)) g)) (sym (same _ (m.place (2 * k + 1) (omega arith) (omega arith)) h))

      played : (k : ℕ) → 1 ≤ k → k < n → Played key' node k ⊎ ((t : ℕ) × (above t ((n + p) / 2) ≡ k))
      played k a b =
          elim (ℕ_discrete (node (2 * k)) p) [
            | yes e ↦ inr (comes-above k a b (inl e))
            | no g ↦ elim (ℕ_discrete (node (2 * k + 1)) p) [ yes e ↦ inr (comes-above k a b (inr e)) | no h ↦ inl (still-played k a b g h) ]
          ]

-- a store to a key leaves the nodes: they are those of a tree over the keys before,
pub stored-tree : (w : List ℕ) (at n p v : ℕ) → p < n → Tree w at n → Matched (key_of w at) (node_of (set w (at + p) v) at n) n 0
stored-tree w at n p v l t =
    matched-same _ (λ k h. node-same w _ at n k (λ i. get_or-set_other w (at + p) (at + n + k) v 0 (omega arith))) t.matched

-- and the other keys are these
pub stored-others : (w : List ℕ) (at p v q : ℕ) → q ≢ p → key_of (set w (at + p) v) at q ≡ key_of w at q
stored-others w at p v q d = get_or-set_other w (at + p) (at + q) v 0 (λ e. d (omega arith))
