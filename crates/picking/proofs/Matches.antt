-- Laws of the tree of matches: the winner of two places, and what a match that is played changes.
use Prim.Native.Nat.{ℕ, zero, suc, ◌+◌, ◌-◌, ◌*◌, ◌/◌, ◌<◌, ◌≤◌}
use mathlib.Core.Logic.{◌⊎◌, inl, inr, ⊎_elim, ◌≢◌}
use mathlib.Core.Path.{◌≡◌, refl, sym, ap, ◌∙◌}
use native.Mathlib.Decide.{ℕ_discrete}
use native.Mathlib.Omega.{arith}
use Rattle.std.proofs.lemmas.Bool.Decides.{nat_tests}
use Rattle.picking.specs.Winners.{winner, Played, Matched}

-- the node that is t levels above node c
unfoldable pub above : ℕ → ℕ → ℕ
above zero c = c
above (suc t) c = above t c / 2

-- all nodes hold places, and each before n holds a winner unless it is node c or above it
pub record Pending (key node : ℕ → ℕ) (n c : ℕ) : Type 0 where
  pub place : (k : ℕ) → 1 ≤ k → k < 2 * n → node k < n
  pub played : (k : ℕ) → 1 ≤ k → k < n → Played key node k ⊎ ((t : ℕ) × (above t c ≡ k))

-- the winner of two is one of them,
pub winner-one : (key : ℕ → ℕ) (a b : ℕ) → (winner key a b ≡ a) ⊎ (winner key a b ≡ b)
unfolding winner
winner-one key a b = grind (arith, nat_tests)

-- it is a place where both are
pub winner-inside : (key : ℕ → ℕ) {n : ℕ} (a b : ℕ) → a < n → b < n → winner key a b < n
winner-inside key a b p q = ⊎_elim (λ e. omega (arith, e)) (λ e. omega (arith, e)) (winner-one key a b)

-- it goes by the keys of the two
pub winner-ext : (key key' : ℕ → ℕ) (a b : ℕ) → key a ≡ key' a → key b ≡ key' b → winner key a b ≡ winner key' a b
unfolding winner
winner-ext key key' a b p q = rw (p, q)

-- a number is twice its half, or one more
pub half : {P : Type 0} (k : ℕ) → (k ≡ 2 * (k / 2) → P) → (k ≡ 2 * (k / 2) + 1 → P) → P
half k f h = elim (ℕ_discrete k (2 * (k / 2))) [ yes e ↦ f e | no e ↦ h (omega arith) ]

-- a node above a half
pub above_half : (t c : ℕ) → above t (c / 2) ≡ above t c / 2
unfolding above
above_half zero c = refl
above_half (suc t) c = ap (◌/ 2) (above_half t c)

-- nothing is above 0
above_zero : (t : ℕ) → above t 0 ≡ 0
unfolding above
above_zero zero = refl
above_zero (suc t) = ap (◌/ 2) (above_zero t)

-- a match is played at node k: the keys stay, and so do the other nodes
pub record Plays (key node key' node' : ℕ → ℕ) (n k : ℕ) : Type 0 where
  pub keys : (q : ℕ) → q < n → key' q ≡ key q
  pub here : node' k ≡ winner key (node (2 * k)) (node (2 * k + 1))
  pub else : (j : ℕ) → j < 2 * n → j ≢ k → node' j ≡ node j

module _ {key node key' node' : ℕ → ℕ} {n k : ℕ} (s : Plays key node key' node' n k) (a : 1 ≤ k) (b : k < n) where
  -- a node that was played and is not above node k is played still, and node k is
  next-played : (j : ℕ) → j < n → j ≢ k / 2 → node (2 * j) < n → node (2 * j + 1) < n → (j ≢ k → Played key node j) → Played key' node' j
  next-played j l u p q e =
      here ∙ winner-ext key key' _ _ (sym (s.keys _ p)) (sym (s.keys _ q))
      ∙ rw (s.else (2 * j) (omega arith) (λ t. u (omega arith)), s.else (2 * j + 1) (omega arith) (λ t. u (omega arith)))
    where
      here : node' j ≡ winner key (node (2 * j)) (node (2 * j + 1))
      here = elim (ℕ_discrete j k) [ yes h ↦ rw (h, s.here) | no h ↦ s.else j (omega arith) h ∙ e h ]

  -- a node that held a place does still, and node k does
  next-place : (j : ℕ) → j < 2 * n → node (2 * k) < n → node (2 * k + 1) < n → (j ≢ k → node j < n) → node' j < n
  next-place j l p q e = elim (ℕ_discrete j k) [ yes h ↦ rw (h, s.here) (winner-inside key _ _ p q) | no h ↦ rw (s.else j l h) (e h) ]

  -- then the nodes from there on are as they should be
  pub matched-next : Matched key node n k → Matched key' node' n (k - 1)
  matched-next m =
      record {
        place = λ j l h. next-place j h (m.place (2 * k) (omega arith) (omega arith)) (m.place (2 * k + 1) (omega arith) (omega arith)) (λ e. m.place j (omega arith) h);
        played = λ j l h.
            next-played j h (λ t. omega arith) (m.place (2 * j) (omega arith) (omega arith)) (m.place (2 * j + 1) (omega arith) (omega arith)) (λ e. m.played j (omega arith) h);
      }

  -- and of the nodes that wait those above it are left
  pub pending_next : Pending key node n k → Pending key' node' n (k / 2)
  unfolding above
  pending_next m =
      record {
        place = λ j l h. next-place j h (m.place (2 * k) (omega arith) (omega arith)) (m.place (2 * k + 1) (omega arith) (omega arith)) (λ e. m.place j l h);
        played = played;
      }
    where
      waits : (t j : ℕ) → j ≢ k → above t k ≡ j → (t : ℕ) × (above t (k / 2) ≡ j)
      waits zero j h e = absurd (h (sym e))
      waits (suc t) j h e = (t, above_half t k ∙ e)

      played : (j : ℕ) → 1 ≤ j → j < n → Played key' node' j ⊎ ((t : ℕ) × (above t (k / 2) ≡ j))
      played j l h =
          let next = λ (u : j ≢ k / 2) (p : j ≢ k → Played key node j). next-played j h u (m.place (2 * j) (omega arith) (omega arith)) (m.place (2 * j + 1) (omega arith) (omega arith)) p in
          elim (ℕ_discrete j (k / 2)) [
            | yes u ↦ inr (0, sym u)
            | no u ↦ elim (ℕ_discrete j k) [
              | yes e ↦ inl (next u (λ d. absurd (d e)))
              | no e ↦ ⊎_elim (λ p. inl (next u (λ _. p))) (λ (t, d). inr (waits t j e d)) (m.played j l h)
            ]
          ]

-- where none waits all are as they should be
pub pending-end : {key node : ℕ → ℕ} {n : ℕ} → Pending key node n 0 → Matched key node n 0
pending-end m =
    record { place = λ k a b. m.place k a b; played = λ k a b. ⊎_elim (λ e. e) (λ (t, d). absurd (omega (arith, above_zero t, d))) (m.played k a b) }

-- only the nodes themselves count
pub matched-same : {key node : ℕ → ℕ} (node' : ℕ → ℕ) {n c : ℕ} → ((k : ℕ) → k < 2 * n → node' k ≡ node k) → Matched key node n c → Matched key node' n c
matched-same node' e m = grind (arith, nat_tests)
