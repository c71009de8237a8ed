-- The file of the links in both, and the three totals.
use Prim.Native.Nat.{ℕ, ◌-◌, ◌≤◌}
use mathlib.Core.List.{List}
use mathlib.Core.Logic.Iff
use mathlib.Core.Path.{◌≡◌, refl}
use native.Mathlib.Omega.{arith}
use lib.ListN.{length, get_or}
use lib.Seq.{sets}
use Rattle.std.specs.Prelude.{None}
use Rattle.graph.specs.Listed.{listed}
use Rattle.graph.proofs.Listed.{listed-closed}
use Rattle.network.specs.File.{stride, link_at, kind_at, graph_of}
use Rattle.network.specs.Bytes.{standing}
use Rattle.network.proofs.Held.{standing-written}
use Rattle.merging.specs.Shared.{is_shared, shared}
use Rattle.merging.specs.Merging.{Picked}
use Rattle.merging.specs.Calls.{pair_refusal, CommonTold}
use Rattle.merging.proofs.Shares.{total-first, shared-linked}
use Rattle.merging.proofs.Pairs.{pair-accepted}
use Rattle.merging.proofs.Picks.{picked-few, picked-ascending, picked-linked}

-- two files that are not refused, and the list of the first's edges that are links of the second too: as many as of the second are links of the first
module _ (f f' : List ℕ) (passed : pair_refusal f f' ≡ None) {l : List ℕ} (a : Picked (is_shared (graph_of f) (graph_of f')) (graph_of f).size l (length l))
    (counted : length l ≡ shared (graph_of f') (graph_of f)) where
  -- written to the output they are the file of the links in both, and the three totals are told by them
  pub common-told : (out : List ℕ) {out' : List ℕ} {k i j : ℕ} → link_at (stride 2) (length l) ≤ length out
      → out' ≡ sets out 0 (standing 2 (λ i. kind_at f (get_or l i 0)) (listed (graph_of f) l))
      → k ≡ length l → i ≡ (graph_of f).size → j ≡ (graph_of f').size → CommonTold f f' out out' (record { both = k; first_only = i - k; second_only = j - k })
  common-told out long e r s t =
      let (first, second, one) = pair-accepted f f' passed in
      let g = graph_of f in
      let h = graph_of f' in
      let own = total-first g h in
      let other = total-first h g in
      record {
        both = omega (arith, a.counted);
        first_only = omega (arith, a.counted);
        second_only = omega (arith, counted);
        first_size = omega (arith, picked-few a);
        second_size = omega (arith, counted);
        file = rw r
            (standing-written
            (record {
              version-least = omega arith;
              version-most = omega arith;
              few = first.sound.header.order-most;
              most = omega (arith, picked-few a, first.sound.header.size-most);
              closed = listed-closed l first.sound.closed a.below;
              kinds = λ i m. first.sound.kinds _ (a.below i m);
              plain = λ i m n. absurd (n refl);
            })
            (picked-ascending g a first.ascending) (λ u v k. Iff.trans (picked-linked g a (kind_at f) u v k) (shared-linked f f' u v k)) out long e);
      }
