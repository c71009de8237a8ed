-- Places that are joined by the same edges have the same degrees, and the same settled sets.
use Prim.Native.Nat.{ℕ, ◌<◌}
use mathlib.Core.Path.{◌≡◌, sym}
use Rattle.graph.specs.Graph.{Group}
use Rattle.graph.specs.Linkage.{degree, Settled, Surrounds}
use Rattle.graph.proofs.Sums.{sum-ext}

-- the same edges have the same degree
pub degree-links : (L L' : ℕ → ℕ → ℕ) {N : ℕ} (R : Group) (p : ℕ) → ((q : ℕ) → q < N → L p q ≡ L' p q) → degree L N R p ≡ degree L' N R p
unfolding degree
degree-links L L' {N} R p e = sum-ext N (λ q l. rw (e q l))

-- they settle the same sets
pub settled-links : {L L' : ℕ → ℕ → ℕ} {N : ℕ} {need : ℕ → ℕ} {R : Group} → ((p q : ℕ) → p < N → q < N → L p q ≡ L' p q)
    → Settled L N need R → Settled L' N need R
settled-links {L} {L'} {R = R} e s = record { enough = λ p l h. rw (← degree-links L L' R p (λ q k. e p q l k)) (s.enough p l h) }

-- so the same sets of places surround these
pub surrounds-links : {L L' : ℕ → ℕ → ℕ} {N : ℕ} {need : ℕ → ℕ} {R : Group} → ((p q : ℕ) → p < N → q < N → L p q ≡ L' p q)
    → Surrounds L N need R → Surrounds L' N need R
surrounds-links e r = record { inside = λ Q s. r.inside Q (settled-links (λ p q k l. sym (e p q k l)) s) }
