-- One turn of a climb. Where somebody is left on both sides, a place that rises is left; the core is the same up to the least degree r of
-- those, so the core asked for at r is not empty. So it is for the least degrees of both sides at once. Where a side is empty, so is the core asked
-- for at k.
use Prim.Native.Nat.{ℕ, ◌*◌, ◌<◌, ◌≤◌}
use mathlib.Core.Bool.{true}
use mathlib.Core.List.{List}
use mathlib.Core.Path.{◌≡◌, sym, ◌∙◌}
use native.Mathlib.Omega.{arith}
use Rattle.std.proofs.lemmas.Bool.Decides.{nat_tests}
use lib.Dec.{leb}
use Rattle.graph.specs.Graph.{Graph}
use Rattle.graph.specs.Core.{Nonempty}
use Rattle.graph.specs.Linkage.{Settled}
use Rattle.graph.specs.Cover.{joined, need}
use Rattle.graph.proofs.Tests.{and_both}
use Rattle.graph.proofs.Exists.{nonempty}
use Rattle.graph.proofs.Cover.{settled-dense}
use Rattle.network.specs.declared.Extent.{Extent}
use Rattle.peeling.specs.declared.Peel.{Peel}
use Rattle.peeling.specs.declared.Scope.{Scope}
use Rattle.peeling.specs.Peeling.{degree_of, need_of, left, Tabled, Peeling, PeelBy, emptied}
use Rattle.peeling.proofs.Finished.{sides-none, left_both, finished-degree}
use Rattle.climbing.specs.declared.Rise.{Rise}
use Rattle.climbing.specs.declared.Rise.TheVariants.{Targets, Sources}
use Rattle.climbing.specs.Climbs.{asked, Reached, rests, Some, Least}
use Rattle.climbing.proofs.Asks.{rising-some, asked-rising, asked-still}

module _ (c : Scope) {w : List ℕ} {s : Peel} (o : PeelBy c w s) where
  -- a place that is left has the edges that it needs
  left-enough : (p : ℕ) → p < 2 * c.extent.order → left c.extent.order c.extent.size w s p ≡ true → leb (need_of c p) (degree_of c.extent.order c.extent.size w p) ≡ true
  left-enough p l h = sym (o.queued.queue.short p l) ∙ h

  -- where somebody is left on both sides, a place that rises is
  pub rests-some : (rise : Rise) → 1 ≤ s.sources → 1 ≤ s.targets → Some (rests c rise w) (2 * c.extent.order)
  rests-some rise a b =
      let (p, l, r, h) = rising-some c.extent.order rise (left c.extent.order c.extent.size w s) (rw o.queued.sizes.sources at a) (rw o.queued.sizes.targets at b) in
      record { number = p; below = l; passes = and_both r (left-enough p l h) }

  -- where every place that is left has enough for x and y, and none waits, they are a pair that is dense for x and y, for every graph of the table
  left-reached : {x y : ℕ} → ((p : ℕ) → p < 2 * c.extent.order → left c.extent.order c.extent.size w s p ≡ true → need c.extent.order x y p ≤ degree_of c.extent.order c.extent.size w p)
      → s.head ≡ s.tail → {g : Graph} → Tabled g c.extent.order c.extent.size w → 1 ≤ s.sources → 1 ≤ s.targets → Nonempty g x y
  left-reached {x} {y} more done {g} t a b =
      nonempty t.closed ((settled-dense t.closed (left g.order c.extent.size w s)).0 settled)
      (omega (arith, peeling.queued.sizes.sources)) (omega (arith, peeling.queued.sizes.targets))
    where
      peeling : Peeling g.order c.extent.size (need g.order c.x c.y) w s
      peeling = rw t.order o

      settled : Settled (joined g) (2 * g.order) (need g.order x y) (left g.order c.extent.size w s)
      settled =
          record {
            enough = λ p l h. rw (← finished-degree _ _ t.closed t.indexed peeling done p l, t.order)
                (more p (omega (arith, t.order)) (rw (← t.order) h));
          }

  module _ {x y : ℕ} (sources : Least (rests c Sources w) (degree_of c.extent.order c.extent.size w) (2 * c.extent.order) x)
      (targets : Least (rests c Targets w) (degree_of c.extent.order c.extent.size w) (2 * c.extent.order) y) where
    -- the least degrees of both sides are what is asked of them, or more
    pub both_more : (c.x ≤ x) × (c.y ≤ y)
    both_more = (
      let p = sources.reached.number in grind (arith, nat_tests, sources.reached.passes),
      let p = targets.reached.number in grind (arith, nat_tests, targets.reached.passes),
    )

    -- and their core is not empty
    pub both_reached : s.head ≡ s.tail → {g : Graph} → Tabled g c.extent.order c.extent.size w → 1 ≤ s.sources → 1 ≤ s.targets → Nonempty g x y
    both_reached = left-reached (λ p l h. grind (arith, nat_tests, left-enough p l h, sources.low p l, targets.low p l))

module _ (e : Extent) (rise : Rise) (fixed k : ℕ) {w : List ℕ} {s : Peel}
    (o : Peeling e.order e.size (need_of (asked e rise fixed k)) w s) where
  module _ {r : ℕ} (least : Least (rests (asked e rise fixed k) rise w) (degree_of e.order e.size w) (2 * e.order) r) where
    -- the least degree of such places is what they need, or more
    pub least_more : k ≤ r
    least_more =
        let p = least.reached.number in
        grind (arith, nat_tests, least.reached.passes, asked-rising e.order rise fixed k p)

    -- every place that is left has enough for it
    left-more : (p : ℕ) → p < 2 * e.order → left e.order e.size w s p ≡ true → need_of (asked e rise fixed r) p ≤ degree_of e.order e.size w p
    left-more p l h =
        grind (arith, nat_tests, left-enough (asked e rise fixed k) o p l h, least.low p l, asked-rising e.order rise fixed r p, asked-still e.order rise fixed r k p)

    -- so when none waits, for every graph of the table, they are a pair that is dense for what is asked at r
    pub least-reached : s.head ≡ s.tail → {g : Graph} → Tabled g e.order e.size w → (1 ≤ s.sources) → (1 ≤ s.targets) → Reached g rise fixed r
    least-reached = left-reached (asked e rise fixed k) o left-more

  -- where a side is empty, the core asked for at k is, for every graph of the table
  pub emptied-stops : {g : Graph} → Tabled g e.order e.size w → emptied s ≡ true → ¬ Reached g rise fixed k
  emptied-stops t z h = sides-none s z (left_both _ _ {s = s} t.closed t.indexed (rw t.order o) h)
