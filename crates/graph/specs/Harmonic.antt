-- 02, wish 6: the harmonic finder. The places are dropped one at a time, and of the states met the earliest with the greatest measure is kept. A
-- state is the set of the places not yet dropped. Of two places the smaller is on the voucher side, or on the same side the smaller member.
use Rattle.std.specs.Prelude.{ℕ, zero, suc, ◌+◌, ◌*◌, ◌<◌, ◌≤◌, Bool, false, not, cond, ◌&&◌, ◌≡◌, eqb, ltb}
use Rattle.graph.specs.Range.{sum, if, first}
use Rattle.graph.specs.Graph.{Graph, Group, everyone, card, edges}
use Rattle.graph.specs.Places.{targets, links_to}

-- the first number below n in R that no number below n in R beats
unfoldable pub unbeaten : (ℕ → ℕ → Bool) → Group → ℕ → ℕ
unbeaten beats R n = first (λ p. R p && eqb (sum (λ q. if (R q && beats q p) 1) n) 0) n

-- 02: place q has fewer links to places of R than place p; by wish 13 this is, here and below, by the weights of links
abbrev pub fewer : Graph → Group → ℕ → ℕ → Bool
fewer g R q p = ltb (links_to g R q) (links_to g R p)

-- 02: the place dropped from R: the first of those with the fewest links to places of R
abbrev pub dropped : Graph → Group → ℕ
dropped g R = unbeaten (fewer g R) R (2 * g.order)

-- 02: the state after i drops; at the start everyone is in both groups
unfoldable pub state_after : Graph → ℕ → Group
state_after g zero = everyone
state_after g (suc i) = let R = state_after g i in let d = dropped g R in λ p. not (eqb p d) && R p

-- E of the state after i drops
abbrev pub links_after : Graph → ℕ → ℕ
links_after g i = edges g (state_after g i) (targets g (state_after g i))

-- |S| + |T| of the state after i drops
abbrev pub size_after : Graph → ℕ → ℕ
size_after g i = card g (state_after g i) + card g (targets g (state_after g i))

-- 02: state j has a greater 2 × E / (|S| + |T|) than state i, in whole numbers
abbrev pub denser : Graph → ℕ → ℕ → Bool
denser g j i = ltb (links_after g i * size_after g j) (links_after g j * size_after g i)

-- 02: the best state: after how many drops, fewer than all 2 × n, the measure is at its greatest first
abbrev pub best_state : Graph → ℕ
best_state g = unbeaten (denser g) everyone (2 * g.order)

-- 02: the places found: those of the best state, and none where there are no links
unfoldable pub harmonic_places : Graph → Group
harmonic_places g = cond (eqb (edges g everyone everyone) 0) (λ p. false) (state_after g (best_state g))

-- 02: (S,T) is the pair found
pub record Harmonic (g : Graph) (S T : Group) : Type 0 where
  pub sources : (u : ℕ) → u < g.order → S u ≡ harmonic_places g u
  pub targets : (v : ℕ) → v < g.order → T v ≡ harmonic_places g (g.order + v)

-- 02: no pair of non-empty groups S', T' has more than twice the harmonic measure of S, T
abbrev pub HarmonicBound : Graph → Group → Group → Type 0
HarmonicBound g S T = (S' T' : Group) → 1 ≤ card g S' → 1 ≤ card g T'
    → edges g S' T' * (card g S + card g T) ≤ 2 * edges g S T * (card g S' + card g T')
