-- Where one edge is asked of the side that does not rise, the core asked for at the greatest degree is not empty: the place that has it and all that
-- it is joined to are in it.
use Prim.Native.Nat.{ℕ, ◌*◌, ◌<◌, ◌≤◌}
use mathlib.Core.Bool.{true}
use mathlib.Core.List.{List}
use mathlib.Core.Path.{◌≡◌}
use native.Mathlib.Omega.{arith}
use lib.ListN.{get_or}
use borrow.Author.Tests.{leb-true, ltb-true}
use Rattle.graph.specs.Graph.{Graph, Group, everyone}
use Rattle.graph.specs.Linkage.{degree}
use Rattle.graph.specs.Cover.{joined}
use Rattle.graph.proofs.Tests.{and_left, and_right}
use Rattle.graph.proofs.Stars.{star-source, star-target}
use Rattle.peeling.specs.Peeling.{Tabled, Weighed}
use Rattle.peeling.proofs.Totals.{place-degree}
use Rattle.climbing.specs.declared.Rise.TheVariants.{Targets, Sources}
use Rattle.climbing.specs.Climbs.{Reached, rising, Heaviest}

module _ {g : Graph} {n m : ℕ} {w d : List ℕ} {k : ℕ} (o : Weighed n m w d) (t : Tabled g n m w) (i : 1 ≤ k) where
  -- the place with the greatest degree has so many edges
  heaviest-place : {P : Group} → Heaviest P (λ p. get_or d p 0) (2 * n) k
      → (p : ℕ) × (p < 2 * n) × (P p ≡ true) × (k ≤ degree (joined g) (2 * g.order) (λ q. true) p)
  heaviest-place {P} h =
      let s = h.reached i in
      let p = s.number in
      let l = s.below in (
        p,
        l,
        and_left (P p) _ s.passes,
        omega (arith, leb-true k (get_or d p 0) (and_right (P p) _ s.passes), o.degrees p l, place-degree t everyone p l),
      )

  -- so it is with the targets' degrees
  pub heaviest-targets : Heaviest (rising n Targets) (λ p. get_or d p 0) (2 * n) k → Reached g Targets 1 k
  heaviest-targets h =
      let (p, l, up, e) = heaviest-place h in
      star-target t.closed p (omega (arith, t.order, leb-true n p up)) (omega (arith, t.order)) i e

  -- and with the sources'
  pub heaviest-sources : Heaviest (rising n Sources) (λ p. get_or d p 0) (2 * n) k → Reached g Sources 1 k
  heaviest-sources h =
      let (p, l, up, e) = heaviest-place h in
      star-source t.closed p (omega (arith, t.order, ltb-true p n up)) i e
