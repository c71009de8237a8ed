-- The tree of matches in a table.
use Prim.Native.Nat.{ℕ, ◌+◌, ◌-◌, ◌<◌, ◌≤◌}
use mathlib.Core.List.{List}
use mathlib.Core.Path.{◌≡◌, refl, ap, ◌∙◌}
use native.Mathlib.Nat.{add-sub_cancel_left}
use native.Mathlib.Omega.{arith}
use borrow.Author.Tests.{lt-ltb, le-ltb}
use Rattle.std.proofs.lemmas.Bool.Decides.{nat_tests}
use lib.ListN.{length, get_or, set, length-set}
use lib.Seq.{get_or-set_same, get_or-set_other}
use Rattle.picking.specs.Winners.{key_of, node_of, won_of, Matched, Room, Beside}
use Rattle.picking.proofs.Matches.{Plays, matched-next}

-- a node before n has an entry
pub node-inner : (w : List ℕ) (at n k : ℕ) → k < n → node_of w at n k ≡ get_or w (at + n + k) 0
unfolding node_of
node-inner w at n k l = rw (lt-ltb k n l)

-- and one from there on is a place
pub node-leaf : (w : List ℕ) (at n k : ℕ) → n ≤ k → node_of w at n k ≡ k - n
unfolding node_of
node-leaf w at n k l = rw (le-ltb k n l)

-- node n + p is place p
pub node-place : (w : List ℕ) (at n p : ℕ) → p < n → node_of w at n (n + p) ≡ p
node-place w at n p l = node-leaf w at n (n + p) (omega arith) ∙ add-sub_cancel_left n p

-- where the entry is the same, the place is
pub node-same : (w w' : List ℕ) (at n k : ℕ) → (k < n → get_or w' (at + n + k) 0 ≡ get_or w (at + n + k) 0) → node_of w' at n k ≡ node_of w at n k
unfolding node_of
node-same w w' at n k e = grind (arith, nat_tests)

-- the table has room for the tree, and only entries of nodes differ from the table w₀
pub record Over (at n : ℕ) (w₀ w : List ℕ) : Type 0 where
  pub room : Room at n w
  pub beside : Beside at n w₀ w

-- a table does not differ from itself
pub over-begin : {at n : ℕ} {w : List ℕ} → Room at n w → Over at n w w
over-begin r = record { room = r; beside = record { same_length = refl; before = λ i l. refl; after = λ i l. refl } }

-- and there is room in it when a key is stored
pub over-key : {at n : ℕ} {w : List ℕ} (i v : ℕ) → Room at n w → Over at n (set w i v) (set w i v)
over-key {w = w} i v r = over-begin (record { some = r.some; most = r.most; room = omega (arith, length-set w i v, r.room) })

module _ {at n : ℕ} {w₀ w w' : List ℕ} (o : Over at n w₀ w) (k v : ℕ) (l : k < n) (e : w' ≡ set w (at + n + k) v) where
  -- a store to an entry of a node keeps the rest
  pub over-set : Over at n w₀ w'
  over-set =
      let size = ap length e ∙ length-set w (at + n + k) v in
      record {
        room = record { some = o.room.some; most = o.room.most; room = omega (arith, size, o.room.room) };
        beside = record {
          same_length = size ∙ o.beside.same_length;
          before = λ i h. rw e (get_or-set_other w (at + n + k) i v 0 (omega arith) ∙ o.beside.before i h);
          after = λ i h. rw e (get_or-set_other w (at + n + k) i v 0 (omega arith) ∙ o.beside.after i h);
        };
      }

  -- and the other nodes: where the winner is stored a match is played
  pub plays : v ≡ won_of w at n k → Plays (key_of w at) (node_of w at n) (key_of w' at) (node_of w' at n) n k
  plays won =
      record {
        keys = λ q h. rw e (get_or-set_other w (at + n + k) (at + q) v 0 (omega arith));
        here = node-inner w' at n k l ∙ rw e (get_or-set_same w (at + n + k) v 0 (omega (arith, o.room.room))) ∙ won;
        else = λ j h d. node-same w w' at n j (λ i. rw e (get_or-set_other w (at + n + k) (at + n + j) v 0 (λ t. d (omega arith))));
      }

-- before any match the places are the nodes from n on
pub matched-start : (w : List ℕ) (at n : ℕ) → 1 ≤ n → Matched (key_of w at) (node_of w at n) n (n - 1)
matched-start w at n s =
    record {
      place = λ k l h. omega (arith, node-leaf w at n k (omega arith));
      played = λ k l h. absurd (omega arith);
    }

-- when a tree is built down to node k: the nodes after k are as they should be
pub record Building (at n : ℕ) (w₀ w : List ℕ) (k : ℕ) : Type 0 where
  pub inner : k < n
  pub over : Over at n w₀ w
  pub matched : Matched (key_of w at) (node_of w at n) n k

-- at first only the places are after k,
pub building-begin : {at n : ℕ} {w : List ℕ} → Room at n w → Building at n w w (n - 1)
building-begin {at} {n} {w} r = record { inner = omega (arith, r.some); over = over-begin r; matched = matched-start w at n (omega (arith, r.some)) }

-- and when the match of node k is played, node k is too
pub building-next : {at n k : ℕ} {w₀ w w' : List ℕ} → 0 < k → w' ≡ set w (at + n + k) (won_of w at n k) → Building at n w₀ w k → Building at n w₀ w' (k - 1)
building-next {k = k} l e b =
    record {
      inner = omega (arith, b.inner);
      over = over-set b.over k _ b.inner e;
      matched = matched-next (plays b.over k _ b.inner e refl) (omega arith) b.inner b.matched;
    }
