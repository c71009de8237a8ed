-- The matches that are played again in a table, from the leaf of place p up to the root. The invariant: node k is reached, and the nodes above it
-- wait; only entries of nodes differ from the table w₀ that the store of the key left; and the rank carried is that of the place that node k holds. The smaller of it and the rank at the sibling is that of the node above. At the root none waits, and the table holds a tree.
use Prim.Native.Nat.{ℕ, ◌+◌, ◌*◌, ◌/◌, ◌%◌, ◌<◌, ◌≤◌, min}
use mathlib.Core.List.{List}
use mathlib.Core.Path.{◌≡◌, sym, ap, ◌∙◌}
use native.Mathlib.Omega.{arith}
use lib.ListN.{set}
use lib.Seq.{get_or-set_same}
use Rattle.picking.specs.Winners.{key_of, node_of, won_of, rank, rank_of, sibling_of, Tree}
use Rattle.picking.proofs.Matches.{Pending, pending_next, pending-end, Plays, winner-inside}
use Rattle.picking.proofs.Ranks.{above-rank, rank-place}
use Rattle.picking.proofs.Replays.{pending-begin, stored-tree, stored-others}
use Rattle.picking.proofs.Tables.{Over, over-key, over-set, node-place, plays}

-- node k is reached, and r is the rank of the place that it holds
pub record Climbs (at n : ℕ) (w₀ w : List ℕ) (k r : ℕ) : Type 0 where
  pub inside : k < 2 * n
  pub over : Over at n w₀ w
  pub pending : Pending (key_of w at) (node_of w at n) n (k / 2)
  ranked : r ≡ rank_of w at n k

-- after the store of a key its leaf is reached
pub climbs-begin : {at n : ℕ} {w : List ℕ} (p v : ℕ) → p < n → Tree w at n → Climbs at n (set w (at + p) v) (set w (at + p) v) (n + p) (4096 * v + p)
climbs-begin {at} {n} {w} p v l t =
    record {
      inside = omega arith;
      over = over-key (at + p) v t.room;
      pending = pending-begin (stored-tree w at n p v l t) (node-place _ at n) p _ (λ q h d. stored-others w at p v q d);
      ranked = rw (node-place (set w (at + p) v) at n p l, get_or-set_same w (at + p) v 0 (omega (arith, t.room)));
    }

module _ {at n k r s : ℕ} {w₀ w : List ℕ} (c : Climbs at n w₀ w k r) (a : 1 < k) (q : s ≡ min r (rank_of w at n (sibling_of k))) where
  -- the smaller rank is that of the winner above,
  climbs-rank : s ≡ rank (key_of w at) (won_of w at n (k / 2))
  climbs-rank =
      q ∙ ap (λ t. min t (rank_of w at n (sibling_of k))) c.ranked
      ∙ sym (above-rank (key_of w at) (node_of w at n) c.over.room.most k (c.pending.place k (omega arith) c.inside) (c.pending.place (sibling_of k) (omega arith) (omega (arith, c.inside))))

  -- which is a place
  climbs-place : won_of w at n (k / 2) < n
  climbs-place = winner-inside (key_of w at) _ _ (c.pending.place (2 * (k / 2)) (omega arith) (omega (arith, c.inside))) (c.pending.place (2 * (k / 2) + 1) (omega arith) (omega (arith, c.inside)))

  -- so when the place of this rank is stored above, the node above is reached
  pub climbs-next : {w' : List ℕ} → w' ≡ set w (at + n + k / 2) (s % 4096) → Climbs at n w₀ w' (k / 2) s
  climbs-next {w'} d =
      record {
        inside = omega (arith, c.inside);
        over = over-set c.over (k / 2) _ up d;
        pending = pending_next y (omega arith) up c.pending;
        ranked = climbs-rank ∙ ap (λ t. 4096 * t + won_of w at n (k / 2)) (sym (y.keys _ climbs-place)) ∙ ap (rank (key_of w' at)) (sym y.here);
      }
    where
      up : k / 2 < n
      up = omega (arith, c.inside)

      y : Plays (key_of w at) (node_of w at n) (key_of w' at) (node_of w' at n) n (k / 2)
      y = plays c.over (k / 2) _ up d (ap (◌% 4096) climbs-rank ∙ rank-place (key_of w at) _ (omega (arith, climbs-place, c.over.room)))

-- at the root there is a tree
pub climbs-end : {at n k r : ℕ} {w₀ w : List ℕ} → k ≤ 1 → Climbs at n w₀ w k r → Tree w at n
climbs-end {k = k} l c = let z : k / 2 ≡ 0 = omega arith in record { room = c.over.room; matched = pending-end (rw z at c.pending) }
