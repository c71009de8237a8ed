-- The matches when the key of place p is not greater than it was: place p rises from its leaf. The invariant: node c holds place p, and the
-- nodes above it wait; all nodes before 2 * c but node c are those of the tree before; and the rank of place p is not more than that of the
-- place that node c held there. When the sibling's place has a smaller rank than place p, it had a smaller one than the place that node c
-- held, so it stands at the node above already, and it or a place with a smaller rank stands at each node further up: these hold the winners
-- still, and none waits. Else place p wins, and is stored above.
use Prim.Native.Nat.{ℕ, zero, suc, ◌+◌, ◌*◌, ◌/◌, ◌<◌, ◌≤◌, min}
use mathlib.Core.List.{List}
use mathlib.Core.Logic.{◌⊎◌, inl, ⊎_elim, ◌≢◌}
use mathlib.Core.Path.{◌≡◌, refl, sym, ap, ◌∙◌}
use native.Mathlib.Omega.{arith}
use lib.ListN.{set}
use lib.Seq.{get_or-set_same}
use Rattle.std.proofs.lemmas.Bool.Decides.{nat_tests}
use Rattle.picking.specs.Winners.{key_of, node_of, winner, rank, rank_of, sibling_of, Played, Matched, Tree}
use Rattle.picking.proofs.Matches.{above, Pending, pending_next, pending-end, Plays, winner-inside}
use Rattle.picking.proofs.Ranks.{winner-rank, rank-one, above-rank, matched-rank}
use Rattle.picking.proofs.Replays.{pending-begin, stored-tree, stored-others}
use Rattle.picking.proofs.Tables.{Over, over-key, over-set, node-place, plays}

-- node c is reached by place p, or c is 0 and none waits; the nodes before were `first`, over the keys `old`
pub record Rises (key first node : ℕ → ℕ) (n p c : ℕ) : Type 0 where
  pub pending : Pending key node n (c / 2)
  old : ℕ → ℕ
  tree : Matched old first n 0
  others : (q : ℕ) → q < n → q ≢ p → key q ≡ old q
  less : key p ≤ old p
  kept : (k : ℕ) → k < 2 * c → k < 2 * n → k ≢ c → node k ≡ first k
  held : 1 < c → node c ≡ p
  gain : 1 < c → rank key p ≤ rank old (first c)

-- at first the leaf of place p is reached
rises-begin : {old node : ℕ → ℕ} {n : ℕ} → Matched old node n 0 → ((q : ℕ) → q < n → node (n + q) ≡ q) → (key : ℕ → ℕ) (p : ℕ) → p < n
    → ((q : ℕ) → q < n → q ≢ p → key q ≡ old q) → key p ≤ old p → Rises key node node n p (n + p)
rises-begin {old} {node} {n} m leaf key p l same less =
    record {
      pending = pending-begin m leaf p key same;
      old = old;
      tree = m;
      others = same;
      less = less;
      kept = λ k a b d. refl;
      held = λ a. leaf p l;
      gain = λ a. rw (leaf p l) (omega arith);
    }

-- two numbers are the same, or both are r or more
abbrev Near : ℕ → ℕ → ℕ → Type 0
Near r a b = (a ≡ b) ⊎ ((r ≤ a) × (r ≤ b))

-- the smaller of two numbers goes by those less than r where it is less than r
min-near : (r a b c d : ℕ) → Near r a c → Near r b d → min c d < r → min a b ≡ min c d
min-near r a b c d h i j = grind (arith, nat_tests)

module _ {key first node : ℕ → ℕ} {n p c : ℕ} (s : n ≤ 4096) (l : p < n) (a : 1 < c) (b : c < 2 * n) (m : Rises key first node n p c) where
  -- the rank at a node before 2 * c is what it was, or not less than that of place p now and before
  near : (k : ℕ) → 1 ≤ k → k < 2 * c → k < 2 * n → Near (rank key p) (rank key (node k)) (rank m.old (first k))
  near k h i j = grind (arith, nat_tests)

  -- where the rank at a node before node c was less than that of place p now, it holds the winner still
  still-won : (k : ℕ) → 1 ≤ k → k < c → k < n → rank m.old (first k) < rank key p → Played key node k
  still-won k h i j v =
      rank-one key (node k) _ (omega (arith, m.pending.place k h (omega arith))) (omega (arith, winner-inside key _ _ left right))
      (same ∙ e ∙ sym (min-near (rank key p) _ _ _ _ (near (2 * k) (omega arith) (omega arith) (omega arith)) (near (2 * k + 1) (omega arith) (omega arith) (omega arith)) (rw (← e) v))
      ∙ sym (winner-rank key (node (2 * k)) (node (2 * k + 1)) (omega (arith, left)) (omega (arith, right))))
    where
      left : node (2 * k) < n
      left = m.pending.place (2 * k) (omega arith) (omega arith)

      right : node (2 * k + 1) < n
      right = m.pending.place (2 * k + 1) (omega arith) (omega arith)

      same : rank key (node k) ≡ rank m.old (first k)
      same = ⊎_elim (λ e. e) (λ (f, g). absurd (omega arith)) (near k h (omega arith) (omega arith))

      e : rank m.old (first k) ≡ min (rank m.old (first (2 * k))) (rank m.old (first (2 * k + 1)))
      e =
          ap (rank m.old) (m.tree.played k h j)
          ∙ winner-rank m.old _ _ (omega (arith, m.tree.place (2 * k) (omega arith) (omega arith))) (omega (arith, m.tree.place (2 * k + 1) (omega arith) (omega arith)))

  -- when the sibling's place has a smaller rank than place p, none waits
  rises-stop : rank key (node (sibling_of c)) < rank key p → Rises key first node n p 0
  unfolding above
  rises-stop v =
      record {
        pending = record { place = m.pending.place; played = λ k h i. inl (⊎_elim (λ e. e) (λ (t, e). won t k h i e) (m.pending.played k h i)) };
        old = m.old;
        tree = m.tree;
        others = m.others;
        less = m.less;
        kept = λ k h i d. absurd (omega arith);
        held = λ h. absurd (omega arith);
        gain = λ h. absurd (omega arith);
      }
    where
      here : rank m.old (first (c / 2)) < rank key p
      here =
          ⊎_elim
          (λ e. omega (arith, e, v, matched-rank s m.tree c a b))
          (λ (f, g). absurd (omega arith))
          (near (sibling_of c) (omega arith) (omega arith) (omega arith))

      up : (t k : ℕ) → 1 ≤ k → above t (c / 2) ≡ k → (k < c) × (rank m.old (first k) < rank key p)
      up zero k h e = rw (← e) (omega arith, here)
      up (suc t) k h e =
          let (i, j) = up t _ (omega arith) refl in
          let r = matched-rank s m.tree (above t (c / 2)) (omega arith) (omega arith) in
          rw (← e) (omega arith, omega (arith, r))

      won : (t k : ℕ) → 1 ≤ k → k < n → above t (c / 2) ≡ k → Played key node k
      won t k h i e = let (j, u) = up t k h e in still-won k h j i u

  module _ (v : rank key p ≤ rank key (node (sibling_of c))) where
    -- when it has not, place p wins,
    rises-won : p ≡ winner key (node (2 * (c / 2))) (node (2 * (c / 2) + 1))
    rises-won =
        rank-one key p _ (omega arith) (omega (arith, winner-inside key _ _ (place (2 * (c / 2)) (omega arith) (omega arith)) (place (2 * (c / 2) + 1) (omega arith) (omega arith))))
        (sym (above-rank key node s c (place c (omega arith) b) (place (sibling_of c) (omega arith) (omega arith)) ∙ rw (m.held a) (omega arith)))
      where
        place : (k : ℕ) → 1 ≤ k → k < 2 * n → node k < n
        place = m.pending.place

    -- and when it is stored, the node above is reached
    rises_next : {key' node' : ℕ → ℕ} → Plays key node key' node' n (c / 2) → Rises key' first node' n p (c / 2)
    rises_next y =
        record {
          pending = pending_next y (omega arith) (omega arith) m.pending;
          old = m.old;
          tree = m.tree;
          others = λ q h d. y.keys q h ∙ m.others q h d;
          less = rw (y.keys p l) m.less;
          kept = λ k h i d. y.else k i d ∙ m.kept k (omega arith) i (λ e. omega arith);
          held = λ h. y.here ∙ sym rises-won;
          gain = λ h. rw (y.keys p l, matched-rank s m.tree c a b) (omega (arith, m.gain a, sibling));
        }
      where
        sibling : rank key p ≤ rank m.old (first (sibling_of c))
        sibling = ⊎_elim (λ e. omega (arith, e, v)) (λ (f, g). g) (near (sibling_of c) (omega arith) (omega arith) (omega arith))

-- in a table: the rank of place p is r, and only entries of nodes differ from the table w₀ that the store of the key left
pub record Rising (at n p r : ℕ) (w₀ w : List ℕ) (k : ℕ) : Type 0 where
  pub inside : k < 2 * n
  pub here : p < n
  pub over : Over at n w₀ w
  pub own : r ≡ rank (key_of w at) p
  pub rises : Rises (key_of w at) (node_of w₀ at n) (node_of w at n) n p k

-- after the store of a key its leaf is reached
pub rising-begin : {at n : ℕ} {w : List ℕ} (p v : ℕ) → p < n → Tree w at n → v ≤ key_of w at p
    → Rising at n p (4096 * v + p) (set w (at + p) v) (set w (at + p) v) (n + p)
rising-begin {at} {n} {w} p v l t h =
    record {
      inside = omega arith;
      here = l;
      over = over-key (at + p) v t.room;
      own = rw e;
      rises = rises-begin (stored-tree w at n p v l t) (node-place _ at n) _ p l (λ q i d. stored-others w at p v q d) (rw e h);
    }
  where
    e : key_of (set w (at + p) v) at p ≡ v
    e = get_or-set_same w (at + p) v 0 (omega (arith, t.room))

module _ {at n p r k : ℕ} {w₀ w : List ℕ} (c : Rising at n p r w₀ w k) (a : 1 < k) where
  -- after a match that place p wins the node above is reached
  pub rising-next : {w' : List ℕ} → r ≤ rank_of w at n (sibling_of k) → w' ≡ set w (at + n + k / 2) p → Rising at n p r w₀ w' (k / 2)
  rising-next {w'} u e =
      record {
        inside = omega (arith, c.inside);
        here = c.here;
        over = over-set c.over (k / 2) p up e;
        own = c.own ∙ ap (λ t. 4096 * t + p) (sym (y.keys p c.here));
        rises = rises_next c.over.room.most c.here a c.inside c.rises wins y;
      }
    where
      up : k / 2 < n
      up = omega (arith, c.inside)

      wins : rank (key_of w at) p ≤ rank_of w at n (sibling_of k)
      wins = omega (arith, c.own, u)

      y : Plays (key_of w at) (node_of w at n) (key_of w' at) (node_of w' at n) n (k / 2)
      y = plays c.over (k / 2) p up e (rises-won c.over.room.most c.here a c.inside c.rises wins)

  -- after one that it loses none waits: there is a tree
  pub rising-stop : rank_of w at n (sibling_of k) < r → Tree w at n
  rising-stop u =
      record { room = c.over.room; matched = pending-end (rises-stop c.over.room.most c.here a c.inside c.rises (omega (arith, c.own, u))).pending }

-- at the root there is one too
pub rising-end : {at n p r k : ℕ} {w₀ w : List ℕ} → k ≤ 1 → Rising at n p r w₀ w k → Tree w at n
rising-end {k = k} l c = let z : k / 2 ≡ 0 = omega arith in record { room = c.over.room; matched = pending-end (rw z at c.rises.pending) }
