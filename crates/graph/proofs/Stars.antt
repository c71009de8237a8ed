-- One vertex and all that it is linked to: as a target with y links it is a dense pair for [1,y] with those that link to it, each of whom has a
-- link to it. So the [1,y]-core is not empty, and for a source with x links neither is the [x,1]-core.
use Prim.Native.Nat.{ℕ, ◌+◌, ◌-◌, ◌*◌, ◌<◌, ◌≤◌}
use mathlib.Core.Bool.{true}
use mathlib.Core.Path.{◌≡◌, refl, ◌∙◌}
use native.Mathlib.Decide.{dec_le}
use native.Mathlib.Nat.{le_trans}
use native.Mathlib.Omega.{arith}
use borrow.Author.Tests.{leb-true, le-leb, eq-eqb, eqb-true}
use lib.Dec.{leb}
use Rattle.graph.specs.Range.{if}
use Rattle.graph.specs.Graph.{Graph, Group, out_degree, in_degree}
use Rattle.graph.specs.Shapes.{Closed}
use Rattle.graph.specs.Core.{Nonempty}
use Rattle.graph.specs.Linkage.{degree}
use Rattle.graph.specs.Cover.{joined}
use Rattle.graph.proofs.Sums.{sum-ext}
use Rattle.graph.proofs.Degrees.{closed-reverse, only, edges-reverse, edges-out, edges_some, some-card}
use Rattle.graph.proofs.Exists.{nonempty, nonempty-reverse}
use Rattle.graph.proofs.Cover.{degree-source, degree-target}

-- those that have a link to v
abbrev linking : Graph → ℕ → Group
linking g v u = leb 1 (out_degree g (only v) u)

-- all links to v are from them
linking-all : {g : Graph} → Closed g → (v : ℕ) → in_degree g (λ u. true) v ≡ in_degree g (linking g v) v
linking-all {g} k v =
    edges-out k (λ u. true) (only v)
    ∙ sum-ext g.order (λ u l. each (out_degree g (only v) u))
    ∙ rw (edges-out k (linking g v) (only v))
  where
    each : (d : ℕ) → d ≡ if (leb 1 d) d
    each d = elim (dec_le 1 d) [ yes h ↦ rw (le-leb 1 d h) | no h ↦ let e : d ≡ 0 = omega arith in rw e ]

-- so they and v are a pair that is dense for [1,y] where v has y links
star : {g : Graph} → Closed g → {y v : ℕ} → v < g.order → 1 ≤ y → y ≤ in_degree g (λ u. true) v → Nonempty g 1 y
star {g} k {y} {v} l p h =
    nonempty k {S = linking g v} {T = only v}
    (record { out = λ u b s. leb-true 1 _ s; inn = λ w b t. rw (eqb-true w v t) links })
    (edges_some k (linking g v) (only v) (le_trans p links))
    (some-card g (only v) v l (eq-eqb v v refl))
  where
    links : y ≤ in_degree g (linking g v) v
    links = rw (← linking-all k v) h

-- A place with k edges in the whole graph, as a target: the [1,k]-core is not empty,
pub star-target : {g : Graph} → Closed g → {k : ℕ} (p : ℕ) → g.order ≤ p → p < 2 * g.order → 1 ≤ k
    → k ≤ degree (joined g) (2 * g.order) (λ q. true) p → Nonempty g 1 k
star-target {g} c p f l i h =
    let e : g.order + (p - g.order) ≡ p = omega arith in
    star c {v = p - g.order} (omega arith) i (rw (← degree-target c (λ q. true) (p - g.order), e) h)

-- and as a source: neither is the [k,1]-core
pub star-source : {g : Graph} → Closed g → {k : ℕ} (p : ℕ) → p < g.order → 1 ≤ k
    → k ≤ degree (joined g) (2 * g.order) (λ q. true) p → Nonempty g k 1
star-source {g} c p l i h =
    nonempty-reverse (star (closed-reverse c) l i (rw (edges-reverse g (only p) (λ v. true), ← degree-source c (λ q. true) l) h))
