-- A climb from turn to turn: the peel has come to its end for what is asked at k, and where k is past the start, the core asked for at k - 1
-- is not empty. It stays so when k goes past the least degree of the places that are left and rise, and says what is promised when a side
-- is empty.
use Prim.Native.Nat.{ℕ, ◌+◌, ◌-◌, ◌*◌, ◌<◌, ◌≤◌}
use mathlib.Core.Bool.{true, false}
use mathlib.Core.List.{List}
use mathlib.Core.Path.{◌≡◌}
use native.Mathlib.Nat.{add-sub_cancel, sub-add_cancel}
use native.Mathlib.Omega.{arith}
use Rattle.graph.specs.Graph.{Graph}
use Rattle.network.specs.declared.Extent.{Extent}
use Rattle.peeling.specs.declared.Peel.{Peel}
use Rattle.peeling.specs.declared.Scope.{Scope}
use Rattle.peeling.specs.Peeling.{degree_of, Tabled, Kept, Ended, emptied}
use Rattle.peeling.proofs.Kept.{kept_next, tabled-kept, ended-from}
use Rattle.peeling.proofs.Finished.{sides-some}
use Rattle.climbing.specs.declared.Rise.{Rise}
use Rattle.climbing.specs.Climbs.{asked, Reached, rests, Some, Least, Climbed}
use Rattle.climbing.proofs.Turns.{rests-some, least_more, least-reached, emptied-stops}

-- how far a climb has come that began at a table
pub record Climbing (e : Extent) (rise : Rise) (fixed start : ℕ) (w w' : List ℕ) (k : ℕ) (s : Peel) : Type 0 where
  pub from : start ≤ k
  pub fits : start < k → k ≤ 65536
  pub ended : Ended false (asked e rise fixed k) w w' s
  pub before : (g : Graph) → Tabled g e.order e.size w → start < k → Reached g rise fixed (k - 1)

module _ {e : Extent} {rise : Rise} {fixed start k : ℕ} {w w' : List ℕ} {s : Peel} (o : Climbing e rise fixed start w w' k s) where
  -- while neither side is empty, a place is left that rises
  pub climb-some : emptied s ≡ false → {c : Scope} → c ≡ asked e rise fixed k → Some (rests c rise w') (2 * c.extent.order)
  climb-some z a = let (p, q) = sides-some s z in rw a (rests-some (asked e rise fixed k) o.ended.peeling rise p q)

  module _ {r : ℕ} {c : Scope} (a : c ≡ asked e rise fixed k) (least : Least (rests c rise w') (degree_of c.extent.order c.extent.size w') (2 * c.extent.order) r) where
    -- k is at most the least degree of these
    pub climb-more : k ≤ r
    climb-more = least_more e rise fixed k o.ended.peeling (rw a at least)

    -- and the climb goes on to the next one
    pub climb-next : emptied s ≡ false → r < 65536 → {w'' : List ℕ} {s' : Peel} → Ended false (asked e rise fixed (r + 1)) w' w'' s'
        → Climbing e rise fixed start w w'' (r + 1) s'
    climb-next z l after =
        let (p, q) = sides-some s z in
        record {
          from = omega (arith, o.from, climb-more);
          fits = λ h. omega arith;
          ended = ended-from after (kept_next o.ended.kept after.kept);
          before = λ g t i. rw (add-sub_cancel r 1)
              (least-reached e rise fixed k o.ended.peeling (rw a at least) (o.ended.done z) (tabled-kept t o.ended.kept) p q);
        }

  -- where a side is empty, the climb is done
  pub climb-ends : 1 ≤ start → emptied s ≡ true → {v : List ℕ} → Kept e.order e.size v w → Climbed e.order e.size rise fixed start v w' (k - 1)
  climb-ends l z h =
      record {
        from = omega (arith, o.from);
        fits = λ i. omega (arith, o.fits (omega (arith, o.from)));
        holds = λ g t i. o.before g (tabled-kept t h) (omega (arith, o.from));
        stops = λ g t. rw (sub-add_cancel {n = k} {m = 1} (omega (arith, o.from)))
            (emptied-stops e rise fixed k o.ended.peeling (tabled-kept (tabled-kept t h) o.ended.kept) z);
        kept = kept_next h o.ended.kept;
      }
