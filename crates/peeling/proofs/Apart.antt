-- No edge joins two places of one side. So the edges of a place are those to the places of the other side, and a place that is dropped leaves
-- the degrees of its own side as they are.
use Prim.Native.Nat.{ℕ, ◌+◌, ◌-◌, ◌*◌, ◌<◌}
use mathlib.Core.List.{List}
use mathlib.Core.Logic.{◌⊎◌, inl, inr, ⊎_elim}
use mathlib.Core.Path.{◌≡◌, sym, ap, ◌∙◌}
use native.Mathlib.Omega.{arith}
use native.Mathlib.Nat.{two-mul, zero-add}
use Rattle.graph.specs.Range.{sum, if}
use Rattle.graph.specs.Graph.{Graph, Group}
use Rattle.graph.specs.Linkage.{degree}
use Rattle.graph.proofs.Tests.{if-zero}
use Rattle.graph.proofs.Sums.{sum-ext, sum-none, sum-after}
use Rattle.graph.proofs.Cover.{joined-sources, joined-targets}
use Rattle.peeling.specs.Peeling.{between, Tabled}
use Rattle.peeling.specs.Recounts.{SideAt, OnSide}

-- the other side is a side
pub side-other : {n first : ℕ} → SideAt n first → SideAt n (n - first)
side-other s = grind arith

-- a place of a side is a place
pub side-place : {n first : ℕ} → SideAt n first → {p : ℕ} → OnSide n first p → p < 2 * n
side-place s o = grind arith

-- and every place is on one of the two
pub side-either : {n first : ℕ} → SideAt n first → (p : ℕ) → p < 2 * n → OnSide n first p ⊎ OnSide n (n - first) p
side-either s p l = grind arith

-- what counts nothing on the other side adds up over this one
side-sum : {n first : ℕ} → SideAt n first → (f : ℕ → ℕ) → ((q : ℕ) → OnSide n (n - first) q → f q ≡ 0) → sum f (2 * n) ≡ sum (λ i. f (first + i)) n
side-sum {n} (inl e) f none =
    rw (two-mul n, e) (sum-after f n n ∙ omega (arith, sum-none (λ i. f (n + i)) n (λ i l. none (n + i) (omega arith, omega arith)), sum-ext n (λ i l. ap f (zero-add i))))
side-sum {n} (inr e) f none =
    rw (two-mul n, e) (sum-after f n n ∙ omega (arith, sum-none f n (λ i l. none i (omega arith, omega arith))))

-- two places of one side have no edge between them
pub between-apart : {g : Graph} {n m : ℕ} {w : List ℕ} → Tabled g n m w → {first : ℕ} → SideAt n first → (p q : ℕ) → OnSide n first p → OnSide n first q
    → between n w p q ≡ 0
between-apart {g} {w = w} t (inl e) p q a b =
    rw (← t.order) (t.indexed.linked p q (omega (arith, t.order)) (omega (arith, t.order)) ∙ joined-sources g p q (omega (arith, t.order)) (omega (arith, t.order)))
between-apart {g} {w = w} t (inr e) p q a b =
    rw (← t.order) (t.indexed.linked p q (omega (arith, t.order)) (omega (arith, t.order)) ∙ joined-targets t.closed p q (omega (arith, t.order)) (omega (arith, t.order)))

-- the edges of a place are those to the places of the other side
pub degree-across : {g : Graph} {n m : ℕ} {w : List ℕ} → Tabled g n m w → {first : ℕ} → SideAt n first → (R : Group) (p : ℕ) → OnSide n (n - first) p
    → degree (between n w) (2 * n) R p ≡ sum (λ i. if (R (first + i)) (between n w p (first + i))) n
unfolding degree
degree-across {n = n} {w = w} t s R p o =
    side-sum s (λ q. if (R q) (between n w p q)) (λ q u. rw (between-apart t (side-other s) p q o u) (if-zero (R q)))

-- so they stay where only places of its own side go
pub degree-own : {g : Graph} {n m : ℕ} {w : List ℕ} → Tabled g n m w → {first : ℕ} → SideAt n first → {Q R : Group}
    → ((q : ℕ) → OnSide n (n - first) q → Q q ≡ R q) → (p : ℕ) → OnSide n first p
    → degree (between n w) (2 * n) Q p ≡ degree (between n w) (2 * n) R p
unfolding degree
degree-own {n = n} t s {Q} {R} e p o =
    sum-ext (2 * n) (λ q l.
    ⊎_elim (λ u. rw (between-apart t s p q o u) (if-zero (Q q) ∙ sym (if-zero (R q)))) (λ u. rw (e q u)) (side-either s q l))
