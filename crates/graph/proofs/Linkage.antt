-- Peeling places: a place that is short among what surrounds every settled set is in none of these, so it can be taken out.
use Prim.Native.Nat.{ℕ, ◌+◌, ◌<◌, ◌≤◌}
use mathlib.Core.Bool.{true}
use mathlib.Core.Logic.{◌≢◌}
use mathlib.Core.Path.{◌≡◌, refl}
use native.Mathlib.Nat.{le_trans}
use native.Mathlib.Omega.{arith}
use Rattle.std.proofs.lemmas.Bool.Decides.{nat_tests}
use Rattle.graph.specs.Graph.{Group}
use Rattle.graph.specs.Linkage.{degree, Settled, Surrounds}
use Rattle.graph.proofs.Tests.{if-mono}
use Rattle.graph.proofs.Sums.{sum-ext, sum_mono}
use Rattle.graph.proofs.Degrees.{without, sum-without}

-- more places are joined to more
pub degree-mono : (L : ℕ → ℕ → ℕ) {N : ℕ} {Q R : Group} → ((p : ℕ) → p < N → Q p ≡ true → R p ≡ true) → (p : ℕ) → degree L N Q p ≤ degree L N R p
unfolding degree
degree-mono L {N} i p = sum_mono N (λ q l. if-mono (L p q) (i q l))

-- the same places are joined to the same
pub degree-same : (L : ℕ → ℕ → ℕ) {N : ℕ} {Q R : Group} → ((p : ℕ) → p < N → Q p ≡ R p) → (p : ℕ) → degree L N Q p ≡ degree L N R p
unfolding degree
degree-same L {N} i p = sum-ext N (λ q l. rw (i q l))

-- a place taken out takes its edges with it
pub degree-without : (L : ℕ → ℕ → ℕ) {N : ℕ} (R : Group) (p q : ℕ) → q < N → R q ≡ true → degree L N R p ≡ degree L N (without R q) p + L p q
unfolding degree
degree-without L {N} R p q l h = sum-without (L p) R N q l h

-- all places surround every settled set
pub surrounds-all : (L : ℕ → ℕ → ℕ) (N : ℕ) (need : ℕ → ℕ) → Surrounds L N need (λ p. true)
surrounds-all L N need = record { inside = λ Q s p l h. refl }

-- so does whatever holds what surrounds them
pub surrounds-more : {L : ℕ → ℕ → ℕ} {N : ℕ} {need : ℕ → ℕ} {Q R : Group} → ((p : ℕ) → p < N → Q p ≡ true → R p ≡ true)
    → Surrounds L N need Q → Surrounds L N need R
surrounds-more i s = record { inside = λ T t p l h. i p l (s.inside T t p l h) }

-- what surrounds every settled set does so where places need more
pub surrounds-nested : {L : ℕ → ℕ → ℕ} {N : ℕ} {need need' : ℕ → ℕ} {R : Group} → ((p : ℕ) → p < N → need p ≤ need' p)
    → Surrounds L N need R → Surrounds L N need' R
surrounds-nested i r = record { inside = λ Q s. r.inside Q (record { enough = λ p l h. le_trans (i p l) (s.enough p l h) }) }

-- a place that is short among what surrounds every settled set is in none of these
pub short-avoided : {L : ℕ → ℕ → ℕ} {N : ℕ} {need : ℕ → ℕ} {R Q : Group} (p : ℕ) → p < N → degree L N R p < need p → Surrounds L N need R
    → Settled L N need Q → Q p ≢ true
short-avoided {L} p l short r s h = omega (arith, s.enough p l h, degree-mono L (r.inside _ s) p)

-- so what surrounds them does so still when that place is taken out
pub surrounds-without : {L : ℕ → ℕ → ℕ} {N : ℕ} {need : ℕ → ℕ} {R S : Group} (p : ℕ) → p < N → degree L N R p < need p → Surrounds L N need R
    → Surrounds L N need S → Surrounds L N need (without S p)
surrounds-without p l short r t = grind (arith, nat_tests, short-avoided)
