-- All places are dropped, one in each turn, and before each the state is compared with the best so far. The invariant: the table, E, |S| and |T|
-- are those after so many drops as there are places missing, and the best is that of the states compared, the first of which is compared with itself.
use Prim.Native.Nat.{ℕ, suc, ◌+◌, ◌-◌, ◌*◌, ◌<◌, ◌≤◌}
use mathlib.Core.Bool.{Bool, true, false, cond, false≢true}
use mathlib.Core.List.{List}
use mathlib.Core.Path.{◌≡◌, refl, sym, ◌∙◌}
use native.Mathlib.Decide.{dec_le}
use native.Mathlib.Nat.{le_refl}
use native.Mathlib.Omega.{arith}
use borrow.Author.Tests.{le-ltb}
use lib.Dec.{ltb}
use Rattle.graph.specs.Graph.{Graph}
use Rattle.graph.specs.Shapes.{Closed}
use Rattle.graph.specs.Harmonic.{links_after, size_after, denser}
use Rattle.graph.specs.Drops.{first_mark}
use Rattle.graph.proofs.Unbeaten.{unbeaten-start, unbeaten-keep, unbeaten-take}
use Rattle.graph.proofs.Harmonic.{denser-ranks, size-next}
use Rattle.network.specs.declared.Totals.{Totals}
use Rattle.peeling.specs.Peeling.{degree_of, Tabled, Held, Kept}
use Rattle.peeling.proofs.Kept.{kept_same, kept_next}
use Rattle.harmonic.specs.Walks.{Picks, step_of, totals_after, better, At, Turned, Top, Walked}
use Rattle.harmonic.proofs.Turns.{at_size, all-dropped}

-- the drops of a state are the places that it misses
pub at-step : {g : Graph} {n m : ℕ} {w : List ℕ} {i : ℕ} {c : Totals} → At g n m w i c → step_of n c ≡ i
at-step a = omega (arith, at_size a)

-- so the states are of at most 2 * n places
after-size : {g : Graph} (n i : ℕ) {c : Totals} → Closed g → g.order ≡ n → i ≤ 2 * n → c ≡ totals_after g i → c.sources + c.targets ≤ 2 * n
after-size {g} n i k o l e = rw e (omega (arith, size-next k i (omega arith)))

-- what is compared is the measure
measured : (g : Graph) (i j : ℕ) {c best : Totals} → c ≡ totals_after g i → best ≡ totals_after g j
    → ltb (best.edges * (c.sources + c.targets)) (c.edges * (best.sources + best.targets)) ≡ denser g i j
measured g i j p q = rw (p, q)

-- no state is denser than itself
no-denser : (g : Graph) (i : ℕ) → denser g i i ≡ false
no-denser g i = le-ltb (links_after g i * size_after g i) (links_after g i * size_after g i) (le_refl _)

-- the better of the best so far and the state is the best of these
top-next : {g : Graph} {n i : ℕ} {c best : Totals} → Closed g → i < 2 * g.order → step_of n c ≡ i → c ≡ totals_after g i
    → Top g n (suc (i - 1)) best → Top g n (suc i) (better best c)
top-next {g} {n} {i} {c} {best} k l s e t =
    go (ltb (best.edges * (c.sources + c.targets)) (c.edges * (best.sources + best.targets))) (measured g i (step_of n best) e t.counted)
  where
    alike : i ≡ 0 → denser g i (step_of n best) ≡ false
    alike z =
        let b : step_of n best ≡ i = omega (arith, t.unbeaten.below) in
        rw b (no-denser g i)

    go : (b : Bool) → b ≡ denser g i (step_of n best) → Top g n (suc i) (cond b c best)
    go true d =
        elim (dec_le i 0) [
          | yes h ↦ absurd (false≢true (sym (alike (omega arith)) ∙ sym d))
          | no h ↦
              let z : suc (i - 1) ≡ i = omega arith in
              record {
                unbeaten = rw s (unbeaten-take (denser-ranks k) l refl (rw z at t.unbeaten) (sym d));
                counted = rw s e;
              }
        ]
    go false d =
        elim (dec_le i 0) [
          | yes h ↦ let z : suc (i - 1) ≡ suc i = omega arith in rw z at t
          | no h ↦
              let z : suc (i - 1) ≡ i = omega arith in
              record { unbeaten = unbeaten-keep (rw z at t.unbeaten) (λ _. sym d); counted = t.counted }
        ]

-- the walk on tables of v has come to a state
pub record Going (n m : ℕ) (v w : List ℕ) (c best : Totals) : Type 0 where
  pub held : Held n m v
  pub tree : Picks n m w
  pub kept : Kept n m v w
  pub at : (g : Graph) → Tabled g n m v → At g n m w (step_of n c) c
  pub top : (g : Graph) → Tabled g n m v → Top g n (suc (step_of n c - 1)) best

-- it begins with everyone
pub going-begins : {n m : ℕ} {v : List ℕ} {whole : Totals} → 1 ≤ n → Picks n m v → Held n m v → ((g : Graph) → Tabled g n m v → At g n m v 0 whole)
    → Going n m v v whole whole
going-begins {n} {m} {v} {whole} l tree h start =
    record {
      held = h;
      tree = tree;
      kept = kept_same v;
      at = λ g t. rw none (start g t);
      top = λ g t. rw none (first g t);
    }
  where
    none : step_of n whole ≡ 0
    none = at-step (start h.graph h.tabled)

    first : (g : Graph) → Tabled g n m v → Top g n 1 whole
    first g t =
        record {
          unbeaten = rw none (unbeaten-start (denser-ranks t.closed) (omega (arith, t.order)) refl);
          counted = rw none (start g t).counted;
        }

module _ {n m : ℕ} {v w : List ℕ} {c best : Totals} (d : Going n m v w c best) where
  -- the state has at most 2 * n places, and so has the best
  pub going_size : (best.sources + best.targets ≤ 2 * n) × (c.sources + c.targets ≤ 2 * n)
  going_size =
      let a = d.at d.held.graph d.held.tabled in
      let t = d.top d.held.graph d.held.tabled in
      (after-size n (step_of n best) a.tabled.closed a.tabled.order (omega arith) t.counted, omega (arith, at_size a))

  -- a turn takes it on
  pub going_next : {w' : List ℕ} {r : Totals} → Turned n m c w w' r → Going n m v w' r (better best c)
  going_next {w'} {r} u =
      record {
        held = d.held;
        tree = u.tree;
        kept = kept_next d.kept u.kept;
        at = λ g t. rw further (u.each g (d.at g t));
        top = λ g t.
            let a = d.at g t in
            let b = u.each g a in
            let z : suc (suc (step_of n c) - 1) ≡ suc (step_of n c) = omega arith in
            rw (further, z) (top-next t.closed (omega (arith, b.within, t.order)) refl a.counted (d.top g t));
      }
    where
      further : step_of n r ≡ suc (step_of n c)
      further = at-step (u.each d.held.graph (d.at d.held.graph d.held.tabled))

  -- which is shorter by one place
  pub going_less : {w' : List ℕ} {r : Totals} → Turned n m c w w' r → r.sources + r.targets < c.sources + c.targets
  going_less u =
      let a = d.at d.held.graph d.held.tabled in
      omega (arith, at_size a, at_size (u.each d.held.graph a))

  -- and it ends when each place is dropped
  pub going-ends : 1 ≤ n → ((p : ℕ) → p < 2 * n → first_mark ≤ degree_of n m w p) → Walked n m v w best
  going-ends l h =
      record {
        kept = d.kept;
        keys = λ g t. rw (all-dropped (d.at g t) h) at (d.at g t).keys;
        top = λ g t.
            let e : suc (step_of n c - 1) ≡ 2 * n = omega (arith, all-dropped (d.at g t) h) in
            rw e at (d.top g t);
      }
