-- What a store to a key keeps, with the matches that follow it: starts and rows, the other keys, and what lies past the table.
use Prim.Native.Nat.{ℕ, ◌+◌, ◌*◌, ◌<◌, ◌≤◌}
use mathlib.Core.List.{List}
use mathlib.Core.Logic.{◌≢◌}
use mathlib.Core.Path.{◌≡◌, sym, ◌∙◌}
use native.Mathlib.Omega.{arith}
use lib.ListN.{length, set, drop, length-drop}
use lib.Seq.{ext_get_or, get_or-drop, get_or-set_same, get_or-set_other}
use Rattle.network.specs.Refusals.{work_length}
use Rattle.network.specs.Small.{Small}
use Rattle.peeling.specs.Peeling.{degree_of, Kept}
use Rattle.peeling.proofs.Kept.{kept_next, kept_set}
use Rattle.picking.specs.Winners.{Beside, Room}
use Rattle.harmonic.specs.Walks.{keys_at}

-- there is room for the tree
pub room : {n m : ℕ} {w : List ℕ} → Small n m → 1 ≤ n → work_length n m ≤ length w → Room (keys_at n m) (2 * n) w
room s l h = record { some = omega arith; most = omega (arith, s.order); room = omega arith }

-- other nodes keep the rows
pub kept-nodes : {n m : ℕ} {w w' : List ℕ} → Beside (keys_at n m) (2 * n) w w' → Kept n m w w'
kept-nodes {n} {m} {w} {w'} b =
    record {
      same_length = b.same_length;
      index = λ i l. b.before i (omega arith);
      past =
          ext_get_or 0 (drop k w') (drop k w) (length-drop k w' ∙ rw b.same_length (sym (length-drop k w))) (λ i h.
          get_or-drop k w' i 0 ∙ b.after (k + i) (omega arith) ∙ sym (get_or-drop k w i 0));
    }
  where
    k : ℕ
    k = work_length n m

-- the key of place p is v, the others are as they were, and the rows are kept
pub record Rekeyed (n m p v : ℕ) (w w' : List ℕ) : Type 0 where
  pub kept : Kept n m w w'
  pub here : degree_of n m w' p ≡ v
  pub others : (q : ℕ) → q < 2 * n → q ≢ p → degree_of n m w' q ≡ degree_of n m w q

-- so it is after a store to that key, with other nodes
pub rekeyed : (n m p v : ℕ) (w : List ℕ) {w' : List ℕ} → p < 2 * n → work_length n m ≤ length w → Beside (keys_at n m) (2 * n) (set w (keys_at n m + p) v) w'
    → Rekeyed n m p v w w'
rekeyed n m p v w l h b =
    record {
      kept = kept_next (kept_set n m w (keys_at n m + p) v (omega arith) (omega arith)) (kept-nodes b);
      here = b.before (keys_at n m + p) (omega arith) ∙ get_or-set_same w (keys_at n m + p) v 0 (omega arith);
      others = λ q k d.
          b.before (keys_at n m + q) (omega arith) ∙ get_or-set_other w (keys_at n m + p) (keys_at n m + q) v 0 (λ e. d (omega arith));
    }
