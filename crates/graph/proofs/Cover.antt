-- The double cover joins cores to peeling: a pair of groups is dense exactly when its places are settled, and the settled set that
-- surrounds every settled set is the core.
use Prim.Native.Nat.{ℕ, ◌+◌, ◌-◌, ◌*◌, ◌<◌, ◌≤◌}
use mathlib.Core.Bool.{true, and-false}
use mathlib.Core.Logic.{◌↔◌}
use mathlib.Core.Path.{◌≡◌, refl, sym, ap, ◌∙◌}
use native.Mathlib.Decide.{dec_lt}
use native.Mathlib.Nat.{add_comm, add-sub_cancel_left}
use native.Mathlib.Omega.{arith}
use borrow.Author.Tests.{lt-ltb, le-ltb, ne_eqb}
use Rattle.std.proofs.lemmas.Bool.Decides.{nat_tests}
use Rattle.graph.specs.Range.{sum, if}
use Rattle.graph.specs.Graph.{Graph, Group, card, edges, out_degree, in_degree}
use Rattle.graph.specs.Shapes.{Closed, Same}
use Rattle.graph.specs.Core.{Dense, Covers, Core}
use Rattle.graph.specs.Linkage.{degree, Settled, Surrounds}
use Rattle.graph.specs.Places.{targets, links_to}
use Rattle.graph.specs.Cover.{cover, joined, need, places}
use Rattle.graph.proofs.Tests.{if-add, eqb-shift}
use Rattle.graph.proofs.Sums.{sum-ext, sum-add, sum-none}
use Rattle.graph.proofs.Degrees.{only, without, edges-out, edges-in, edges-without, edges-without-in, card-without}
use Rattle.graph.proofs.Exists.{dense-same}

-- the places of an edge are places of the cover
pub closed-cover : {g : Graph} → Closed g → Closed (cover g)
closed-cover k = grind (arith, nat_tests)

-- a place below n needs x edges
pub need-source : (n x y : ℕ) {u : ℕ} → u < n → need n x y u ≡ x
need-source n x y l = rw (lt-ltb _ _ l)

-- and one from there on y edges
pub need-target : (n x y v : ℕ) → need n x y (n + v) ≡ y
need-target n x y v = rw (le-ltb (n + v) n (omega arith))

-- a place is joined to the places of R by the edges that leave it and those that reach it
pub joined-degree : {g : Graph} → Closed g → (R : Group) (p : ℕ) → degree (joined g) (2 * g.order) R p ≡ out_degree (cover g) R p + in_degree (cover g) R p
unfolding degree joined
joined-degree {g} k R p =
    sum-ext (2 * g.order) (λ q l. if-add (R q) _ _)
    ∙ sum-add (λ q. if (R q) (edges (cover g) (only p) (only q))) (λ q. if (R q) (edges (cover g) (only q) (only p))) (2 * g.order)
    ∙ rw (← edges-in (closed-cover k) (only p) R, ← edges-out (closed-cover k) R (only p))

-- two places are joined by the same edges either way
pub joined-symmetric : (g : Graph) (p q : ℕ) → joined g p q ≡ joined g q p
unfolding joined
joined-symmetric g p q = add_comm _ _

-- no edge joins two sources
pub joined-sources : (g : Graph) (p q : ℕ) → p < g.order → q < g.order → joined g p q ≡ 0
unfolding joined
joined-sources g p q a b = grind (arith, nat_tests, only, sum-none, and-false)

-- nor two targets
pub joined-targets : {g : Graph} → Closed g → (p q : ℕ) → g.order ≤ p → g.order ≤ q → joined g p q ≡ 0
unfolding joined
joined-targets {g} k p q a b = grind (arith, nat_tests, only, sum-none)

-- as a source a vertex is joined to the targets in R
pub degree-source : {g : Graph} → Closed g → (R : Group) {u : ℕ} → u < g.order → degree (joined g) (2 * g.order) R u ≡ out_degree g (targets g R) u
degree-source {g} k R {u} l = grind (arith, nat_tests, joined-degree, sum-none, and-false)

-- as a target it is joined to the sources in R
pub degree-target : {g : Graph} → Closed g → (R : Group) (v : ℕ) → degree (joined g) (2 * g.order) R (g.order + v) ≡ in_degree g R v
degree-target {g} k R v = grind (arith, nat_tests, joined-degree, sum-none, sum-ext, eqb-shift)

-- so the links of a place to places of R are its degree
pub links-degree : {g : Graph} → Closed g → (R : Group) (p : ℕ) → links_to g R p ≡ degree (joined g) (2 * g.order) R p
unfolding links_to
links-degree {g} k R p =
    elim (dec_lt p g.order) [
      | yes l ↦ rw (lt-ltb p g.order l) (sym (degree-source k R l))
      | no l ↦ rw (le-ltb p g.order (omega arith)) (sym (degree-target k R (p - g.order)) ∙ ap (degree (joined g) (2 * g.order) R) (omega arith))
    ]

-- the places of a pair hold its sources
pub places-source : (g : Graph) (S T : Group) → Same g S (places g S T)
places-source g S T u l = rw (lt-ltb u g.order l)

-- and its targets
pub places-target : (g : Graph) (S T : Group) → Same g T (targets g (places g S T))
places-target g S T v l = rw (le-ltb (g.order + v) g.order (omega arith), add-sub_cancel_left g.order v)

-- a set of places is settled exactly when the two groups in it are dense
pub settled-dense : {g : Graph} → Closed g → {x y : ℕ} (R : Group) → Settled (joined g) (2 * g.order) (need g.order x y) R ↔ Dense g x y R (targets g R)
settled-dense {g} k {x} {y} R = (dense, settled)
  where
    dense : Settled (joined g) (2 * g.order) (need g.order x y) R → Dense g x y R (targets g R)
    dense s =
        record {
          out = λ u l h. rw (need-source g.order x y l, degree-source k R l) at (s.enough u (omega arith) h);
          inn = λ v l h. rw (need-target g.order x y v, degree-target k R v) at (s.enough (g.order + v) (omega arith) h);
        }

    source : Dense g x y R (targets g R) → (p : ℕ) → p < g.order → R p ≡ true → need g.order x y p ≤ degree (joined g) (2 * g.order) R p
    source d p i h = rw (need-source g.order x y i, degree-source k R i) (d.out p i h)

    target : Dense g x y R (targets g R) → (p v : ℕ) → p ≡ g.order + v → p < 2 * g.order → R p ≡ true → need g.order x y p ≤ degree (joined g) (2 * g.order) R p
    target d p v e l h = rw (e, need-target g.order x y v, degree-target k R v) (d.inn v (omega arith) (rw e at h))

    settled : Dense g x y R (targets g R) → Settled (joined g) (2 * g.order) (need g.order x y) R
    settled d = record { enough = λ p l h. elim (dec_lt p g.order) [ yes i ↦ source d p i h | no i ↦ target d p (p - g.order) (omega arith) l h ] }

-- so is a pair of groups when its places are
pub dense-settled : {g : Graph} → Closed g → {x y : ℕ} {S T : Group} → Dense g x y S T → Settled (joined g) (2 * g.order) (need g.order x y) (places g S T)
dense-settled {g} k {x} {y} {S} {T} d = (settled-dense k (places g S T)).1 (dense-same k (places-source g S T) (places-target g S T) d)

-- what surrounds every settled set covers every dense pair
pub surrounds-covers : {g : Graph} → Closed g → {x y : ℕ} {R : Group} → Surrounds (joined g) (2 * g.order) (need g.order x y) R → Covers g x y R (targets g R)
surrounds-covers {g} k s S T a b d =
    let inside = s.inside (places g S T) (dense-settled k d) in
    (λ u l h. inside u (omega arith) (sym (places-source g S T u l) ∙ h), λ v l h. inside (g.order + v) (omega arith) (sym (places-target g S T v l) ∙ h))

-- when no place is short any more, what is left is the core
pub settled-core : {g : Graph} → Closed g → {x y : ℕ} (R : Group) → Settled (joined g) (2 * g.order) (need g.order x y) R → Surrounds (joined g) (2 * g.order) (need g.order x y) R → Core g x y R (targets g R)
settled-core k R s r = record { sources = λ u l h. refl; targets = λ v l h. refl; dense = (settled-dense k R).0 s; largest = surrounds-covers k r }

-- E of the pair is the sum of the degrees of its sources
pub edges-places : {g : Graph} → Closed g → (R : Group) → edges g R (targets g R) ≡ sum (λ u. if (R u) (degree (joined g) (2 * g.order) R u)) g.order
edges-places {g} k R = edges-out k R (targets g R) ∙ sum-ext g.order (λ u l. rw (degree-source k R l))

-- no edge joins a place to itself
no_loop : {g : Graph} → Closed g → (p : ℕ) → edges (cover g) (only p) (only p) ≡ 0
no_loop {g} k p = grind (arith, nat_tests, sum-none)

-- E without a place is E less the place's degree
pub edges-drop : {g : Graph} → Closed g → (R : Group) (p : ℕ) → p < 2 * g.order → R p ≡ true
    → edges g R (targets g R) ≡ edges g (without R p) (targets g (without R p)) + degree (joined g) (2 * g.order) R p
edges-drop {g} k R p l h =
    let c = closed-cover k in
    omega (
      arith,
      edges-without c R R p l h,
      edges-without-in c (without R p) R p l h,
      edges-without c R (only p) p l h,
      no_loop k p,
      joined-degree k R p,
    )

-- a source that is dropped is one source less, and no target
pub drop-source : (g : Graph) (R : Group) (u : ℕ) → u < g.order → R u ≡ true
    → (card g R ≡ card g (without R u) + 1) × (card g (targets g (without R u)) ≡ card g (targets g R))
drop-source g R u l h = (card-without g R u l h, sum-ext g.order (λ v k. rw (ne_eqb (g.order + v) u (λ e. omega arith))))

-- a target that is dropped is one target less, and no source
pub drop-target : (g : Graph) (R : Group) (v : ℕ) → v < g.order → R (g.order + v) ≡ true
    → (card g (without R (g.order + v)) ≡ card g R) × (card g (targets g R) ≡ card g (targets g (without R (g.order + v))) + 1)
drop-target g R v l h = (
  sum-ext g.order (λ u k. rw (ne_eqb u (g.order + v) (λ e. omega arith))),
  card-without g (targets g R) v l h ∙ ap (◌+ 1) (sum-ext g.order (λ u k. rw (eqb-shift g.order u v))),
)
