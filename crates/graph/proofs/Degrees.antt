-- What is counted between groups: the mirrored graph, monotonicity, sums of degrees, and a vertex taken out of a group.
use Prim.Native.Nat.{ℕ, ◌+◌, ◌*◌, ◌<◌, ◌≤◌}
use mathlib.Core.Bool.{Bool, true, false, not, ◌&&◌}
use mathlib.Core.Logic.{◌≢◌}
use mathlib.Core.Path.{◌≡◌, refl, sym, ◌∙◌}
use native.Mathlib.Omega.{arith}
use borrow.Author.Tests.{ne_eqb, eqb-true}
use lib.Dec.{eqb}
use Rattle.std.proofs.lemmas.Bool.Decides.{nat_tests}
use Rattle.graph.specs.Range.{sum, if}
use Rattle.graph.specs.Graph.{Graph, reverse, Group, everyone, card, edges, out_degree, in_degree}
use Rattle.graph.specs.Shapes.{Closed, Same}
use Rattle.graph.specs.Core.{Inside}
use Rattle.graph.proofs.Tests.{and_left, and_right, and_both, if-comm, if-mono, if_some, if-turn, if-split, eqb-sym}
use Rattle.graph.proofs.Sums.{sum-ext, sum_mono, sum-add, sum-times, if-sum, sum-swap, sum-pick, sum-some}

-- a graph turned round is closed where the graph is: each law below has its mirror image by `reverse`
pub closed-reverse : {g : Graph} → Closed g → Closed (reverse g)
closed-reverse k = record { source-below = k.target_below; target_below = k.source-below }

-- the group of one vertex: out_degree g T u is edges g (only u) T, and in_degree g S v is edges g S (only v)
abbrev pub only : ℕ → Group
only u w = eqb w u

-- a group without one vertex
abbrev pub without : Group → ℕ → Group
without S u w = not (eqb w u) && S w

-- E(S,T) is the number of links turned round from T to S
pub edges-reverse : (g : Graph) (S T : Group) → edges (reverse g) T S ≡ edges g S T
edges-reverse g S T = sum-ext g.size (λ e l. if-comm (T (g.target e)) (S (g.source e)) (g.weight e))

-- larger groups have more links between them
pub edges-mono : {g : Graph} → Closed g → {S S' T T' : Group} → Inside g S S' → Inside g T T' → edges g S T ≤ edges g S' T'
edges-mono {g} k {S} {S'} {T} {T'} p q = grind (arith, nat_tests, sum_mono, if-mono, and_both, and_left, and_right)

-- no two groups have more edges between them than everyone
pub edges-everyone : {g : Graph} → Closed g → (S T : Group) → edges g S T ≤ edges g everyone everyone
edges-everyone k S T = edges-mono k {S = S} {S' = everyone} {T = T} {T' = everyone} (λ u l h. refl) (λ v l h. refl)

-- a larger group has more vertices
pub card_mono : (g : Graph) {S S' : Group} → Inside g S S' → card g S ≤ card g S'
card_mono g {S} {S'} p = sum_mono g.order (λ u l. if-mono 1 (p u l))

-- only the vertices of the graph count
pub edges-same : {g : Graph} → Closed g → {S S' T T' : Group} → Same g S S' → Same g T T' → edges g S T ≡ edges g S' T'
edges-same {g} k p q = sum-ext g.size (λ e l. rw (p _ (k.source-below e l), q _ (k.target_below e l)))

-- nor do others count in its size
pub card-same : (g : Graph) {S S' : Group} → Same g S S' → card g S ≡ card g S'
card-same g p = sum-ext g.order (λ u l. rw (p u l))

-- E(S,T) is the sum of the degrees of S into T
pub edges-out : {g : Graph} → Closed g → (S T : Group) → edges g S T ≡ sum (λ u. if (S u) (out_degree g T u)) g.order
edges-out {g} k S T = sym (
    sum-ext g.order (λ u l. if-sum (S u) (link u) g.size)
    ∙ sum-swap (λ u e. if (S u) (link u e)) g.size g.order
    ∙ sum-ext g.size (λ e l. sum-ext g.order (λ u h. if-turn (S u) (eqb (g.source e) u) (T (g.target e)) (g.weight e))
    ∙ sum-pick (λ u. if (S u && T (g.target e)) (g.weight e)) g.order (g.source e) (k.source-below e l))
    )
  where
    link : ℕ → ℕ → ℕ
    link u e = if (eqb (g.source e) u && T (g.target e)) (g.weight e)

-- and of those of T from S
pub edges-in : {g : Graph} → Closed g → (S T : Group) → edges g S T ≡ sum (λ v. if (T v) (in_degree g S v)) g.order
edges-in {g} k S T = sym (edges-reverse g S T) ∙ edges-out (closed-reverse k) T S ∙ sum-ext g.order (λ v l. rw (edges-reverse g S (only v)))

-- a vertex taken out of a group takes its term out of a sum over the group
pub sum-without : (f : ℕ → ℕ) (S : Group) (n u : ℕ) → u < n → S u ≡ true → sum (λ w. if (S w) (f w)) n ≡ sum (λ w. if (without S u w) (f w)) n + f u
sum-without f S n u l h =
    sum-ext n (λ w k. if-split (eqb w u) (S w) (f w) (λ e. rw (eqb-true w u e) h) ∙ rw (eqb-sym w u))
    ∙ sum-add (λ w. if (without S u w) (f w)) (λ w. if (eqb u w) (f w)) n
    ∙ rw (sum-pick f n u l)

-- so the group has one vertex less,
pub card-without : (g : Graph) (S : Group) (u : ℕ) → u < g.order → S u ≡ true → card g S ≡ card g (without S u) + 1
card-without g S u l h = sum-without (λ w. 1) S g.order u l h

-- and the links out of it lose the vertex's degree
pub edges-without : {g : Graph} → Closed g → (S T : Group) (u : ℕ) → u < g.order → S u ≡ true → edges g S T ≡ edges g (without S u) T + out_degree g T u
edges-without {g} k S T u l h = edges-out k S T ∙ sum-without (out_degree g T) S g.order u l h ∙ rw (edges-out k (without S u) T)

-- in the mirrored graph those into it
pub edges-without-in : {g : Graph} → Closed g → (S T : Group) (v : ℕ) → v < g.order → T v ≡ true → edges g S T ≡ edges g S (without T v) + in_degree g S v
edges-without-in {g} k S T v l h =
    sym (edges-reverse g S T) ∙ edges-without (closed-reverse k) T S v l h ∙ rw (edges-reverse g S (without T v), edges-reverse g S (only v))

-- a smaller group that lacks the vertex is in what is left
pub inside-without : (g : Graph) {R S : Group} (u : ℕ) → Inside g R S → R u ≢ true → Inside g R (without S u)
inside-without g {R} {S} u p h w l k = rw (ne_eqb w u (λ e. h (rw e at k)), p w l k)

-- what is left of a group is in whatever holds the group
pub without-inside : (g : Graph) {S R : Group} (u : ℕ) → Inside g S R → Inside g (without S u) R
without-inside g {S} u p w l h = p w l (and_right (not (eqb w u)) (S w) h)

-- a group of at least one vertex has one
pub card-some : (g : Graph) (S : Group) → 1 ≤ card g S → (u : ℕ) × (u < g.order) × (S u ≡ true)
card-some g S h = let (u, l, k) = sum-some (λ u. if (S u) 1) g.order h in (u, l, (if_some (S u) 1 k).0)

-- and a group that has a vertex is no empty one
pub some-card : (g : Graph) (S : Group) (u : ℕ) → u < g.order → S u ≡ true → 1 ≤ card g S
some-card g S u l h = omega (arith, card-without g S u l h)

-- links from S to T leave a vertex of S
pub edges_some : {g : Graph} → Closed g → (S T : Group) → 1 ≤ edges g S T → 1 ≤ card g S
edges_some {g} k S T h =
    let (e, l, p) = sum-some (λ e. if (S (g.source e) && T (g.target e)) (g.weight e)) g.size h in
    some-card g S (g.source e) (k.source-below e l) (and_left _ _ (if_some (S (g.source e) && T (g.target e)) (g.weight e) p).0)

-- and reach one of T
pub edges-other : {g : Graph} → Closed g → (S T : Group) → 1 ≤ edges g S T → 1 ≤ card g T
edges-other {g} k S T h = edges_some (closed-reverse k) T S (rw (edges-reverse g S T) h)

-- x links from each of a group are in all x times its size
pub times-card : (g : Graph) (S : Group) (x : ℕ) (f : ℕ → ℕ) → ((u : ℕ) → u < g.order → S u ≡ true → x ≤ f u) → x * card g S ≤ sum (λ u. if (S u) (f u)) g.order
times-card g S x f h = rw (← sum-times x (λ u. if (S u) 1) g.order) (sum_mono g.order (λ u l. each (S u) (h u l)))
  where
    each : {w : ℕ} (b : Bool) → (b ≡ true → x ≤ w) → x * if b 1 ≤ if b w
    each true k = omega (arith, k refl)
    each false k = omega arith
