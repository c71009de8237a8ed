-- Ranks decide the matches: the winner of two places below 4,096 is the one with the smaller rank, whichever stands first, and a place is the
-- remainder of its rank by 4,096. So a match needs no more than the ranks of the two places that meet, and the root of a tree has the smallest.
use Prim.Native.Nat.{ℕ, zero, suc, ◌+◌, ◌*◌, ◌/◌, ◌%◌, ◌<◌, ◌≤◌, min}
use mathlib.Core.Path.{◌≡◌, refl, sym, ap, ◌∙◌}
use native.Mathlib.Decide.{dec_le}
use native.Mathlib.Nat.{min_comm}
use native.Mathlib.Omega.{arith}
use Rattle.std.proofs.lemmas.Bool.Decides.{nat_tests}
use Rattle.graph.specs.Graph.{everyone}
use Rattle.graph.specs.Drops.{Least}
use Rattle.graph.proofs.Unbeaten.{least_by}
use Rattle.picking.specs.Winners.{winner, rank, sibling_of, Matched}
use Rattle.picking.proofs.Matches.{half, winner-inside}

-- the winner has the smaller rank
pub winner-rank : (key : ℕ → ℕ) (a b : ℕ) → a < 4096 → b < 4096 → rank key (winner key a b) ≡ min (rank key a) (rank key b)
unfolding winner
winner-rank key a b l m = grind (arith, nat_tests)

-- the place of a rank is its remainder
pub rank-place : (key : ℕ → ℕ) (p : ℕ) → p < 4096 → rank key p % 4096 ≡ p
rank-place key p l = omega arith

-- so the place of the smaller rank is the winner
pub rank-won : (key : ℕ → ℕ) {n : ℕ} (a b : ℕ) → n ≤ 4096 → a < n → b < n → min (rank key a) (rank key b) % 4096 ≡ winner key a b
rank-won key a b s l m =
    ap (◌% 4096) (sym (winner-rank key a b (omega arith) (omega arith))) ∙ rank-place key _ (omega (arith, winner-inside key a b l m))

-- places of the same rank are the same
pub rank-one : (key : ℕ → ℕ) (a b : ℕ) → a < 4096 → b < 4096 → rank key a ≡ rank key b → a ≡ b
rank-one key a b l m e = omega arith

module _ (key node : ℕ → ℕ) {n : ℕ} (s : n ≤ 4096) (k : ℕ) (l : node k < n) (m : node (sibling_of k) < n) where
  -- the winner of the match above node k has the smaller of the ranks at node k and its sibling
  pub above-rank : rank key (winner key (node (2 * (k / 2))) (node (2 * (k / 2) + 1))) ≡ min (rank key (node k)) (rank key (node (sibling_of k)))
  above-rank =
      half k
      (λ h. below k (sibling_of k) (k / 2) h (omega arith) l m)
      (λ h. below (sibling_of k) k (k / 2) (omega arith) h m l ∙ min_comm _ _)
    where
      below : (b c j : ℕ) → b ≡ 2 * j → c ≡ 2 * j + 1 → node b < n → node c < n
          → rank key (winner key (node (2 * j)) (node (2 * j + 1))) ≡ min (rank key (node b)) (rank key (node c))
      below b c j p t g h = rw (← t, ← p) (winner-rank key (node b) (node c) (omega arith) (omega arith))

-- in a tree over at most 4,096 places
module _ {key node : ℕ → ℕ} {n : ℕ} (s : n ≤ 4096) (m : Matched key node n 0) where
  -- the rank at a node is the smaller of that at a node below it and that at the sibling of this one,
  pub matched-rank : (k : ℕ) → 1 < k → k < 2 * n → rank key (node (k / 2)) ≡ min (rank key (node k)) (rank key (node (sibling_of k)))
  matched-rank k h i =
      ap (rank key) (m.played (k / 2) (omega arith) (omega arith))
      ∙ above-rank key node s k (m.place k (omega arith) i) (m.place (sibling_of k) (omega arith) (omega arith))

  -- so no node has a smaller rank than the root
  root-rank : (f k : ℕ) → k < f → 1 ≤ k → k < 2 * n → rank key (node 1) ≤ rank key (node k)
  root-rank zero k l p q = absurd (omega arith)
  root-rank (suc f) k l p q =
      elim (dec_le k 1) [
        | yes h ↦ let e : k ≡ 1 = omega arith in rw e (omega arith)
        | no h ↦ omega (arith, root-rank f (k / 2) (omega arith) (omega arith) (omega arith), matched-rank k (omega arith) q)
      ]

  -- and it holds the first place with the smallest key
  pub root-least : 1 ≤ n → ((p : ℕ) → p < n → node (n + p) ≡ p) → Least key everyone n (node 1)
  root-least o leaf =
      least_by key inside refl (λ q l h. omega (arith, least q l)) (λ q l h. omega (arith, least q (omega (arith, inside))))
    where
      inside : node 1 < n
      inside = m.place 1 (omega arith) (omega arith)

      least : (q : ℕ) → q < n → rank key (node 1) ≤ rank key q
      least q l = rw (leaf q l) at (root-rank (suc (n + q)) (n + q) (omega arith) (omega arith) (omega arith))
