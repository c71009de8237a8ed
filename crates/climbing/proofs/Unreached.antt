-- A core that has somebody has a place on the sides that rise, with as many edges in the core as are asked of it, and so with no fewer in the
-- whole graph. Where all these places have fewer there, the core is empty.
use Prim.Native.Nat.{ℕ, ◌*◌, ◌<◌, ◌≤◌}
use mathlib.Core.List.{List}
use mathlib.Core.Path.{refl}
use native.Mathlib.Omega.{arith}
use lib.ListN.{get_or}
use Rattle.graph.specs.Graph.{Graph, Group, everyone}
use Rattle.graph.specs.Linkage.{degree}
use Rattle.graph.specs.Cover.{joined, places}
use Rattle.graph.proofs.Degrees.{card-same}
use Rattle.graph.proofs.Linkage.{degree-mono}
use Rattle.graph.proofs.Cover.{dense-settled, places-source, places-target}
use Rattle.peeling.specs.Peeling.{between, whole_degree, Tabled, Weighed}
use Rattle.peeling.proofs.Totals.{place-degree}
use Rattle.climbing.specs.declared.Rise.{Rise}
use Rattle.climbing.specs.Climbs.{Reached, rising, Heaviest}
use Rattle.climbing.proofs.Asks.{rising-some, asked-rising}

-- the edges of a place to the places of a set are at most those to all places
whole-most : {g : Graph} {n m : ℕ} {w : List ℕ} → Tabled g n m w → (R : Group) (p : ℕ) → p < 2 * n → degree (joined g) (2 * g.order) R p ≤ whole_degree n w p
whole-most {n = n} {w = w} t R p l =
    omega (arith, place-degree t R p l, degree-mono (between n w) {N = 2 * n} {Q = R} {R = everyone} (λ q b h. refl) p)

-- so where no place that rises has k edges in the whole graph, the core asked for at k is empty
pub heaviest-stops : {n m : ℕ} (rise : Rise) (fixed k : ℕ) {w d : List ℕ} {r : ℕ} → Weighed n m w d → Heaviest (rising n rise) (λ p. get_or d p 0) (2 * n) r
    → r < k → {g : Graph} → Tabled g n m w → ¬ Reached g rise fixed k
heaviest-stops rise fixed k o most s {g} t h =
    let R = places g h.S h.T in
    let sources = rw (card-same g (places-source g h.S h.T)) at h.some in
    let targets = rw (card-same g (places-target g h.S h.T)) at h.other in
    let (p, l, up, inside) = rising-some g.order rise R sources targets in
    omega (
      arith,
      (dense-settled t.closed h.core.dense).enough p l inside,
      asked-rising g.order rise fixed k p up,
      whole-most t R p (omega (arith, t.order)),
      o.degrees p (omega (arith, t.order)),
      most.all p (omega (arith, t.order)) (rw (← t.order) up),
    )
