-- The parts of the work table: rows lie inside theirs, and a store to the degrees or to the queue changes that one entry.
use Prim.Native.Nat.{ℕ, ◌+◌, ◌*◌, ◌<◌, ◌≤◌}
use mathlib.Core.List.{List}
use mathlib.Core.Logic.{◌≢◌}
use mathlib.Core.Path.{◌≡◌}
use native.Mathlib.Nat.{le_refl}
use native.Mathlib.Omega.{arith}
use lib.ListN.{length}
use lib.Seq.{get_or-set_same, get_or-set_other}
use Rattle.graph.proofs.Monotone.{monotone}
use Rattle.peeling.specs.Peeling.{start_of, row_length, degree_of, queue_of, Rows, with_queued, with_degree}

-- no start is past the rows
pub start-last : {n m : ℕ} {w : List ℕ} → Rows n m w → (p : ℕ) → p ≤ 2 * n → start_of w p ≤ 2 * m
start-last {n} {m} {w} r p l = omega (arith, monotone (start_of w) (2 * n) r.ascending p (2 * n) l (le_refl _), r.last)

-- so an entry of a row is one of the rows
pub row_inside : {n m : ℕ} {w : List ℕ} → Rows n m w → (p i : ℕ) → p < 2 * n → i < row_length w p → start_of w p + i < 2 * m
row_inside r p i l h = omega (arith, start-last r (p + 1) (omega arith))

-- a place was put at the queue's entry t
pub with-queued-same : (n m : ℕ) (w : List ℕ) (t v : ℕ) → 4 * n + 1 + 2 * m + t < length w → queue_of n m (with_queued n m w t v) t ≡ v
with-queued-same n m w t v l = get_or-set_same w _ v 0 l

-- its other entries are as they were
pub with-queued-other : (n m : ℕ) (w : List ℕ) (t v i : ℕ) → i ≢ t → queue_of n m (with_queued n m w t v) i ≡ queue_of n m w i
with-queued-other n m w t v i h = get_or-set_other w _ _ v 0 (λ e. h (omega arith))

-- and so are the degrees
pub with-queued-degree : (n m : ℕ) (w : List ℕ) (t v p : ℕ) → p < 2 * n → degree_of n m (with_queued n m w t v) p ≡ degree_of n m w p
with-queued-degree n m w t v p l = get_or-set_other w _ _ v 0 (λ e. omega arith)

-- a degree was set
pub with-degree-same : (n m : ℕ) (w : List ℕ) (q d : ℕ) → 2 * n + 1 + 2 * m + q < length w → degree_of n m (with_degree n m w q d) q ≡ d
with-degree-same n m w q d l = get_or-set_same w _ d 0 l

-- the others are as they were
pub with-degree-other : (n m : ℕ) (w : List ℕ) (q d p : ℕ) → p ≢ q → degree_of n m (with_degree n m w q d) p ≡ degree_of n m w p
with-degree-other n m w q d p h = get_or-set_other w _ _ d 0 (λ e. h (omega arith))

-- and so is the queue
pub with-degree-queue : (n m : ℕ) (w : List ℕ) (q d i : ℕ) → q < 2 * n → queue_of n m (with_degree n m w q d) i ≡ queue_of n m w i
with-degree-queue n m w q d i l = get_or-set_other w _ _ d 0 (λ e. omega arith)
