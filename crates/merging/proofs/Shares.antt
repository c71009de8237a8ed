-- Links of two networks that are one link, and the totals of those that are shared.
use Prim.Native.Nat.{ℕ, ◌+◌, ◌<◌, ◌≤◌}
use mathlib.Core.Bool.{Bool, true, false, not}
use mathlib.Core.List.{List}
use mathlib.Core.Logic.{◌↔◌}
use mathlib.Core.Path.{◌≡◌, refl, sym, ap, ◌∙◌}
use native.Mathlib.Omega.{arith}
use borrow.Author.Tests.{ltb-true, lt-ltb}
use lib.Dec.{eqb}
use Rattle.std.proofs.lemmas.Bool.Decides.{nat_tests}
use Rattle.graph.specs.Range.{if, first}
use Rattle.graph.specs.Graph.{Graph}
use Rattle.graph.proofs.Tests.{eqb-sym}
use Rattle.graph.proofs.Sums.{sum-add, sum-ext, sum_ones, sum-tests}
use Rattle.graph.proofs.Ranges.{first_passes, first_some}
use Rattle.network.specs.File.{kind_at, weight_of, graph_of}
use Rattle.merging.specs.Merging.{mark_of}
use Rattle.merging.specs.Calls.{InBoth}
use Rattle.merging.specs.Shared.{is_one, is_shared, shared, unshared}

-- two edges are one link exactly where they have the same ends and weigh the same,
pub one-ends : (g h : Graph) (d e : ℕ) → (is_one g h d e ≡ true) ↔ ((g.source d ≡ h.source e) × (g.target d ≡ h.target e) × (g.weight d ≡ h.weight e))
one-ends g h d e = (λ t. grind (arith, nat_tests), λ (p, q, r). grind (arith, nat_tests))

-- and so they have the same mark,
pub one-mark : (g h : Graph) (d e : ℕ) → is_one g h d e ≡ true → mark_of g d ≡ mark_of h e
one-mark g h d e t = let (p, q, r) = (one-ends g h d e).0 t in rw (p, q, r)

-- which where targets and weights are small no others have
pub mark-one : (g h : Graph) (d e : ℕ) → g.target d < 65536 → h.target e < 65536 → g.weight d < 16 → h.weight e < 16 → eqb (mark_of g d) (mark_of h e) ≡ is_one g h d e
mark-one g h d e p q r s = grind (arith, nat_tests)

-- they are one from either side
pub one-turned : (g h : Graph) (d e : ℕ) → is_one g h d e ≡ is_one h g e d
one-turned g h d e = rw (eqb-sym (g.source d) (h.source e), eqb-sym (g.target d) (h.target e), eqb-sym (g.weight d) (h.weight e))

-- an edge is shared exactly when it is one link with an edge of the other network
pub shared-holds : (g h : Graph) (d : ℕ) → (is_shared g h d ≡ true) ↔ ((e : ℕ) × (e < h.size) × (is_one g h d e ≡ true))
unfolding is_shared
shared-holds g h d = (
  λ t. let l = ltb-true (first (is_one g h d) h.size) h.size t in (first (is_one g h d) h.size, l, first_passes (is_one g h d) h.size l),
  λ (e, l, t). lt-ltb _ _ (first_some (is_one g h d) h.size e l t),
)

-- no more are shared than there are
pub shared-few : (g h : Graph) → shared g h ≤ g.size
shared-few g h = sum-tests (is_shared g h) g.size

-- 02: the edges of a network are those that are shared and its own
pub total-first : (g h : Graph) → shared g h + unshared g h ≡ g.size
total-first g h =
    sym (sum-add (λ d. if (is_shared g h d) 1) (λ d. if (not (is_shared g h d)) 1) g.size) ∙ sum-ext g.size (λ d l. one (is_shared g h d)) ∙ sum_ones g.size
  where
    one : (b : Bool) → if b 1 + if (not b) 1 ≡ 1
    one true = refl
    one false = refl

-- the links of both are the edges of the one that are shared
pub shared-linked : (f f' : List ℕ) (u v k : ℕ)
    → ((e : ℕ) × (e < (graph_of f).size) × (is_shared (graph_of f) (graph_of f') e ≡ true) × ((graph_of f).source e ≡ u) × ((graph_of f).target e ≡ v) × (kind_at f e ≡ k)) ↔ InBoth f f' u v k
shared-linked f f' u v k = (
  λ (e, l, t, s, q, i).
      let (d, m, o) = (shared-holds g h e).0 t in
      let (p, r, w) = (one-ends g h e d).0 o in
      ((e, l, s, q, i), (d, m, sym p ∙ s, sym r ∙ q, sym w ∙ ap weight_of i)),
  λ ((e, l, s, q, i), (d, m, p, r, w)). (e, l, (shared-holds g h e).1 (d, m, (one-ends g h e d).1 (s ∙ sym p, q ∙ sym r, ap weight_of i ∙ sym w)), s, q, i),
)
  where
    g : Graph
    g = graph_of f

    h : Graph
    h = graph_of f'
