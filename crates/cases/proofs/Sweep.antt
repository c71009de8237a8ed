-- A core inside A and B computed by sweeps over two byte tables, from A and B: each sweep keeps their vertices that are not short, and none
-- cuts a dense pair inside them. The groups stand in tables so that they are computed once.
use Prim.Native.Nat.{ℕ, zero, suc, ◌<◌}
use mathlib.Core.Bool.{Bool, true, false, ◌&&◌}
use mathlib.Core.List.{List}
use mathlib.Core.Path.{◌≡◌, refl, ◌∙◌}
use native.Mathlib.Nat.{le_trans}
use borrow.Author.Tests.{le-leb}
use lib.Dec.{eqb, leb}
use Rattle.graph.specs.Range.{if}
use Rattle.graph.specs.Graph.{Graph, Group, out_degree, in_degree}
use Rattle.graph.specs.Shapes.{Closed}
use Rattle.graph.specs.Core.{CoversInside}
use Rattle.graph.proofs.Tests.{and_both}
use Rattle.graph.proofs.Ranges.{get_or-table}
use Rattle.graph.proofs.Degrees.{only, edges-mono}
use Rattle.network.specs.Groups.{group_of, bytes_of}

-- the bytes of a group give the group back
bytes-group : (n : ℕ) (S : Group) (u : ℕ) → u < n → group_of (bytes_of n S) u ≡ S u
bytes-group n S u l = rw (get_or-table (λ w. if (S w) 1) n u l) (one (S u))
  where
    one : (b : Bool) → eqb (if b 1) 1 ≡ b
    one true = refl
    one false = refl

-- the vertices of A with at least x edges into T
abbrev pub with_out : Graph → Group → ℕ → Group → Group
with_out g A x T u = A u && leb x (out_degree g T u)

-- the vertices of B with at least y edges from S
abbrev pub with_in : Graph → Group → ℕ → Group → Group
with_in g B y S v = B v && leb y (in_degree g S v)

-- A and B, and after each of r sweeps their vertices that were not short before it
abbrev pub sweep : Graph → Group → Group → ℕ → ℕ → ℕ → List ℕ × List ℕ
sweep g A B x y zero = (bytes_of g.order A, bytes_of g.order B)
sweep g A B x y (suc r) =
    let (s, t) = sweep g A B x y r in
    (bytes_of g.order (with_out g A x (group_of t)), bytes_of g.order (with_in g B y (group_of s)))

-- the sources left by as many sweeps as there are vertices
abbrev pub sources_left : Graph → Group → Group → ℕ → ℕ → Group
sources_left g A B x y = group_of (sweep g A B x y g.order).0

-- the targets left by them
abbrev pub targets_left : Graph → Group → Group → ℕ → ℕ → Group
targets_left g A B x y = group_of (sweep g A B x y g.order).1

-- no sweep cuts a dense pair inside A and B
pub covers-sweep : {g : Graph} → Closed g → (A B : Group) (x y r : ℕ)
    → CoversInside g A B x y (group_of (sweep g A B x y r).0) (group_of (sweep g A B x y r).1)
covers-sweep {g} k A B x y zero S T i j d =
    (λ u l h. bytes-group g.order A u l ∙ i u l h, λ v l h. bytes-group g.order B v l ∙ j v l h)
covers-sweep {g} k A B x y (suc r) S T i j d =
    let (p, q) = covers-sweep k A B x y r S T i j d in (
      λ u l h. bytes-group g.order (with_out g A x (group_of (sweep g A B x y r).1)) u l
          ∙ and_both (i u l h) (le-leb _ _ (le_trans (d.out u l h) (edges-mono k {S = only u} {S' = only u} (λ w i e. e) q))),
      λ v l h. bytes-group g.order (with_in g B y (group_of (sweep g A B x y r).0)) v l
          ∙ and_both (j v l h) (le-leb _ _ (le_trans (d.inn v l h) (edges-mono k {T = only v} {T' = only v} p (λ w i e. e)))),
    )
