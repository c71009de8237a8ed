-- The places that are not among the first of a queue.
use Prim.Native.Nat.{ℕ, zero, suc, ◌+◌, ◌<◌, ◌≤◌}
use mathlib.Core.Bool.{true, not}
use mathlib.Core.Path.{◌≡◌, refl}
use native.Mathlib.Omega.{arith}
use lib.Dec.{eqb}
use Rattle.graph.specs.Range.{sum, if}
use Rattle.graph.proofs.Tests.{and_right}
use Rattle.graph.proofs.Sums.{sum_ones, below_suc, term-le-sum}
use Rattle.graph.proofs.Degrees.{without, sum-without}
use Rattle.peeling.specs.Peeling.{live}

-- with one place more in the queue, that place is taken out
pub live-suc : (queue : ℕ → ℕ) (h p : ℕ) → live queue (suc h) p ≡ without (live queue h) (queue h) p
unfolding live
live-suc queue h p = refl

-- queues that agree so far leave the same places
pub live-ext : {queue queue' : ℕ → ℕ} (h : ℕ) → ((i : ℕ) → i < h → queue i ≡ queue' i) → (p : ℕ) → live queue h p ≡ live queue' h p
unfolding live
live-ext zero e p = refl
live-ext (suc h) e p = rw (e h (omega arith), live-ext h (λ i l. e i (omega arith)) p)

-- what is live was live before
pub live-before : (queue : ℕ → ℕ) {h : ℕ} (t : ℕ) → h ≤ t → (p : ℕ) → live queue t p ≡ true → live queue h p ≡ true
unfolding live
live-before queue {h} zero l p e = let none : h ≡ 0 = omega arith in rw none e
live-before queue {h} (suc t) l p e =
    below_suc {i = h} {n = suc t} (omega arith) (λ q. rw q e) (λ k. live-before queue {h = h} t (omega arith) p (and_right (not (eqb p (queue t))) _ e))

-- of N places, t distinct ones in the queue leave N less t
pub live-count : (queue : ℕ → ℕ) (N t : ℕ) → ((i : ℕ) → i < t → queue i < N) → ((i : ℕ) → i < t → live queue i (queue i) ≡ true)
    → sum (λ p. if (live queue t p) 1) N + t ≡ N
unfolding live
live-count queue N zero inside distinct = omega (arith, sum_ones N)
live-count queue N (suc t) inside distinct =
    omega (
      arith,
      live-count queue N t (λ i l. inside i (omega arith)) (λ i l. distinct i (omega arith)),
      sum-without (λ p. 1) (live queue t) N (queue t) (inside t (omega arith)) (distinct t (omega arith)),
    )

-- so a place that is left leaves room in the queue
pub live-room : (queue : ℕ → ℕ) (N t p : ℕ) → ((i : ℕ) → i < t → queue i < N) → ((i : ℕ) → i < t → live queue i (queue i) ≡ true)
    → p < N → live queue t p ≡ true → t < N
live-room queue N t p inside distinct l h =
    let one : if (live queue t p) 1 ≡ 1 = rw h in
    omega (arith, live-count queue N t inside distinct, term-le-sum (λ p. if (live queue t p) 1) N p l)
