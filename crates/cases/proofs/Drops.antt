-- The harmonic finder computed. The places dropped stand in a list, the last of them first, so that each drop is computed once, and a state is the
-- places not in such a list. By induction on the drops these are the states of the definition, so the places found by them are those found.
use Prim.Native.Nat.{ℕ, zero, suc, ◌+◌, ◌-◌, ◌*◌, ◌<◌, ◌≤◌}
use mathlib.Core.Bool.{Bool, true, false, not, cond, ◌&&◌, ◌||◌}
use mathlib.Core.List.{List, [], ◌∷◌}
use mathlib.Core.Path.{◌≡◌, refl, sym, ap, ◌∙◌}
use native.Mathlib.Nat.{add-zero, add-suc}
use native.Mathlib.Omega.{arith}
use lib.Dec.{eqb}
use lib.ListN.{get_or, drop}
use Rattle.graph.specs.Range.{table}
use Rattle.graph.specs.Graph.{Graph, Group, everyone, card, edges}
use Rattle.graph.specs.Places.{targets, links_to}
use Rattle.graph.specs.Harmonic.{unbeaten, dropped, state_after, links_after, size_after, denser, best_state, harmonic_places}
use Rattle.graph.specs.Drops.{smaller, higher}
use Rattle.graph.proofs.Ranges.{get_or-table}
use Rattle.graph.proofs.Unbeaten.{unbeaten-below, unbeaten-le}
use Rattle.cases.specs.Cases.{members}

-- the values of f below n, in a table so that each is computed once
abbrev pub kept : ℕ → (ℕ → ℕ) → ℕ → ℕ
kept n f = let t = table f n in λ i. get_or t i 0

-- the places not in the list
abbrev pub left : List ℕ → Group
left D p = not (members D p)

-- the place dropped next when those in the list are gone
abbrev pub next_drop : Graph → List ℕ → ℕ
next_drop g D = let k = kept (2 * g.order) (links_to g (left D)) in unbeaten (smaller k) (left D) (2 * g.order)

-- the place dropped next is the one dropped by the definition
dropped-next : (g : Graph) (D : List ℕ) → dropped g (left D) ≡ next_drop g D
dropped-next g D =
    unbeaten-below _ _ (left D) (2 * g.order)
    (λ q p l m. rw (get_or-table (links_to g (left D)) (2 * g.order) q l, get_or-table (links_to g (left D)) (2 * g.order) p m))

-- the first i drops, the last of them first
abbrev pub drops : Graph → ℕ → List ℕ
drops g zero = []
drops g (suc i) = let D = drops g i in next_drop g D ∷ D

-- a test that one of two holds fails where each of them fails
not-or : (a b : Bool) → not (a || b) ≡ (not a && not b)
not-or true b = refl
not-or false b = refl

-- so a state by the definition is the places that are left
state-left : (g : Graph) (i : ℕ) → state_after g i ≡ left (drops g i)
unfolding state_after
state-left g zero = refl
state-left g (suc i) =
    ap (λ R. λ p. not (eqb p (dropped g R)) && R p) (state-left g i)
    ∙ (λ k p. (ap (λ d. not (eqb p d) && left (drops g i) p) (dropped-next g (drops g i)) ∙ sym (not-or (eqb p (next_drop g (drops g i))) (members (drops g i) p))) k)

-- the earlier of two lists of drops is the end of the later
drops-end : (g : Graph) (i j : ℕ) → drop j (drops g (i + j)) ≡ drops g i
drops-end g i zero = ap (drops g) (add-zero i)
drops-end g i (suc j) = ap (λ k. drop (suc j) (drops g k)) (add-suc i j) ∙ drops-end g i j

-- the first i of all drops
abbrev pub first_drops : Graph → List ℕ → ℕ → List ℕ
first_drops g D i = drop (2 * g.order - i) D

-- they are as they were after i drops
first-drops : (g : Graph) (i : ℕ) → i ≤ 2 * g.order → first_drops g (drops g (2 * g.order)) i ≡ drops g i
first-drops g i l =
    let e : 2 * g.order ≡ i + (2 * g.order - i) = omega arith in
    ap (λ k. drop (2 * g.order - i) (drops g k)) e ∙ drops-end g i (2 * g.order - i)

-- E of the places that are left
abbrev pub links_left : Graph → List ℕ → ℕ
links_left g D = edges g (left D) (targets g (left D))

-- their number, |S| + |T|
abbrev pub size_left : Graph → List ℕ → ℕ
size_left g D = card g (left D) + card g (targets g (left D))

-- the best state, of the list of all drops
abbrev pub best_of : Graph → List ℕ → ℕ
best_of g D =
    let a = kept (2 * g.order) (λ i. links_left g (first_drops g D i)) in
    let b = kept (2 * g.order) (λ i. size_left g (first_drops g D i)) in
    unbeaten (higher a b) everyone (2 * g.order)

-- it is the best state by the definition
best-state : (g : Graph) → best_state g ≡ best_of g (drops g (2 * g.order))
best-state g =
    unbeaten-below _ _ everyone (2 * g.order) (λ j i l m. rw (links j l, links i m, size j l, size i m))
  where
    -- all drops
    D : List ℕ
    D = drops g (2 * g.order)

    -- E of the state after i of them
    links : (i : ℕ) → i < 2 * g.order → kept (2 * g.order) (λ i. links_left g (first_drops g D i)) i ≡ links_after g i
    links i l =
        get_or-table (λ i. links_left g (first_drops g D i)) (2 * g.order) i l
        ∙ ap (links_left g) (first-drops g i (omega arith))
        ∙ ap (λ R. edges g R (targets g R)) (sym (state-left g i))

    -- and its number of places
    size : (i : ℕ) → i < 2 * g.order → kept (2 * g.order) (λ i. size_left g (first_drops g D i)) i ≡ size_after g i
    size i l =
        get_or-table (λ i. size_left g (first_drops g D i)) (2 * g.order) i l
        ∙ ap (size_left g) (first-drops g i (omega arith))
        ∙ ap (λ R. card g R + card g (targets g R)) (sym (state-left g i))

-- the places found, of the list of all drops: those left in its best state, and none where there are no links
abbrev pub found_of : Graph → List ℕ → Group
found_of g D = cond (eqb (edges g everyone everyone) 0) (λ p. false) (left (first_drops g D (best_of g D)))

-- they are the places found by the definition
pub places-found : (g : Graph) → harmonic_places g ≡ found_of g (drops g (2 * g.order))
unfolding harmonic_places
places-found g =
    ap (cond (eqb (edges g everyone everyone) 0) (λ p. false)) (state-left g (best_state g) ∙ ap left before)
  where
    -- the drops before the best state
    before : drops g (best_state g) ≡ first_drops g (drops g (2 * g.order)) (best_of g (drops g (2 * g.order)))
    before =
        sym (first-drops g (best_state g) (unbeaten-le (denser g) everyone (2 * g.order)))
        ∙ ap (first_drops g (drops g (2 * g.order))) (best-state g)
