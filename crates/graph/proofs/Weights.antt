-- How large x and y of a non-empty core can be, by the weights of the edges.
use Prim.Native.Nat.{ℕ, ◌<◌, ◌≤◌}
use mathlib.Core.Bool.{true}
use mathlib.Core.Logic.{◌↔◌}
use native.Mathlib.Nat.{le_trans}
use Rattle.graph.specs.Graph.{Graph, Group, edges}
use Rattle.graph.specs.Shapes.{Closed, total}
use Rattle.graph.specs.Core.{NonemptyInside, Nonempty}
use Rattle.graph.proofs.Sums.{sum-some, term-le-sum}
use Rattle.graph.proofs.Degrees.{closed-reverse, only, edges-everyone, card-some}
use Rattle.graph.proofs.Exists.{nonempty-nested, nonempty-reverse}
use Rattle.graph.proofs.Within.{closed-within, nonempty-within}
use Rattle.graph.proofs.Density.{bounded}

-- x is at most the whole weight
pub nonempty-x : {g : Graph} → Closed g → {A B : Group} {x y : ℕ} → NonemptyInside g A B x y → x ≤ total g
nonempty-x {g} k n = let (u, l, s) = card-some g n.S n.some in le_trans (n.core.dense.out u l s) (edges-everyone k (only u) n.T)

-- and so is y
pub nonempty-y : {g : Graph} → Closed g → {A B : Group} {x y : ℕ} → NonemptyInside g A B x y → y ≤ total g
nonempty-y k n = nonempty-x (closed-reverse k) (nonempty-reverse n)

-- the [1,1]-core is not empty exactly when some edge has weight
pub nonempty-one : {g : Graph} → Closed g → Nonempty g 1 1 ↔ ((e : ℕ) × (e < g.size) × (1 ≤ g.weight e))
nonempty-one {g} k = (some, one)
  where
    some : Nonempty g 1 1 → (e : ℕ) × (e < g.size) × (1 ≤ g.weight e)
    some n = sum-some g.weight g.size (nonempty-x k n)

    one : (e : ℕ) × (e < g.size) × (1 ≤ g.weight e) → Nonempty g 1 1
    one (e, l, p) =
        let b = bounded k (λ u. true) (λ v. true) (le_trans p (term-le-sum g.weight g.size e l)) in
        nonempty-nested k b.x-positive b.y-positive b.nonempty

-- so where there is a link
pub linked-one : {g : Graph} → Closed g → 1 ≤ total g → Nonempty g 1 1
linked-one {g} k p = (nonempty-one k).1 (sum-some g.weight g.size p)

-- and where a core inside A and B is not empty, for x and y of at least 1, a link goes from A to B
pub nonempty-linked : {g : Graph} → Closed g → {A B : Group} {x y : ℕ} → 1 ≤ x → 1 ≤ y → NonemptyInside g A B x y → 1 ≤ edges g A B
nonempty-linked k {A} {B} {x} {y} p q n = le_trans p (nonempty-x (closed-within k A B) ((nonempty-within k A B x y p q).1 n))
