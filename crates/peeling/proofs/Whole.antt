-- Before anything is asked of a place no place is short: nothing is queued, each degree is that in the whole graph, and the total is the degrees of
-- the sources together, which is E of everyone.
use Prim.Native.Nat.{ℕ, ◌+◌, ◌-◌, ◌*◌, ◌<◌, ◌≤◌}
use mathlib.Core.List.{List}
use mathlib.Core.Path.{◌≡◌, refl, sym, ap, ◌∙◌}
use native.Mathlib.Omega.{arith}
use Rattle.std.proofs.lemmas.Bool.Decides.{nat_tests}
use borrow.Author.Tests.{le-leb}
use lib.ListN.{get_or}
use Rattle.graph.specs.Range.{sum}
use Rattle.graph.specs.Linkage.{degree}
use Rattle.graph.specs.Graph.{Graph, edges}
use Rattle.graph.specs.Places.{targets}
use Rattle.graph.specs.Cover.{need}
use Rattle.graph.proofs.Sums.{sum-ext, sum_ones}
use Rattle.graph.proofs.Linkage.{surrounds-all}
use Rattle.graph.proofs.Cover.{edges-places}
use Rattle.peeling.specs.Peeling.{start_of, degree_of, queue_of, between, whole_degree, live, Tabled, Weighed, Peeling, Kept}
use Rattle.peeling.proofs.Singles.{all-heavy, single-rows}
use Rattle.peeling.proofs.Kept.{rows-kept}
use Rattle.peeling.proofs.Totals.{held_rows, held_kept, weighed_kept, place-degree}

-- a queue that has not begun leaves all places
whole-live : (n : ℕ) (w : List ℕ) (queue : ℕ → ℕ) (p : ℕ) → degree (between n w) (2 * n) (live queue 0) p ≡ whole_degree n w p
unfolding degree live
whole-live n w queue p = refl

-- where x and y are 0 no place needs an edge
none_needed : (n p : ℕ) → need n 0 0 p ≡ 0
none_needed n p = grind (arith, nat_tests)

-- E of everyone is the degrees of the sources together
whole-edges : {g : Graph} {n m : ℕ} {w : List ℕ} → Tabled g n m w → (queue : ℕ → ℕ) → edges g (live queue 0) (targets g (live queue 0)) ≡ sum (whole_degree n w) n
unfolding live
whole-edges {g} {n} {w = w} t queue =
    edges-places t.closed (live queue 0)
    ∙ sum-ext g.order (λ u l. sym (place-degree t (live queue 0) u (omega (arith, t.order))) ∙ whole-live n w queue u)
    ∙ ap (sum (whole_degree n w)) t.order

-- and a table of these has it
whole-sum : {n m : ℕ} {w w' t : List ℕ} → Weighed n m w t → Kept n m w w' → {d : ℕ} → d ≡ sum (λ p. get_or t p 0) n → d ≡ sum (whole_degree n w') n
whole-sum {n} o k f = f ∙ sum-ext n (λ p l. (weighed_kept o k).degrees p (omega arith))

-- twice that is no less than the number of all entries
pub whole-heavy : {n m : ℕ} {w w' t : List ℕ} → Weighed n m w t → Kept n m w w' → {d : ℕ} → d ≡ sum (λ p. get_or t p 0) n
    → start_of w' (2 * n) ≤ start_of w' 0 + 2 * d
whole-heavy o k f = rw (whole-sum o k f) (all-heavy (held_kept o.held k))

-- so a table with the degrees of the whole graph holds the peel that has not begun
pub whole-peel : {n m : ℕ} {w w' t : List ℕ} → Weighed n m w t → Kept n m w w' → ((p : ℕ) → p < 2 * n → degree_of n m w' p ≡ get_or t p 0)
    → {d : ℕ} → d ≡ sum (λ p. get_or t p 0) n → d < 4294967296 → {c : ℕ} → c ≡ start_of w' 0 + 2 * d - start_of w' (2 * n)
    → Peeling n m (need n 0 0) w' (record { head = 0; tail = 0; sources = n; targets = n; edges = d; excess = c })
unfolding live
whole-peel {n} {m} {w} {w'} o k e f small q =
    record {
      queued =
          record {
            rows = rows-kept (held_rows o.held) k;
            single = λ h. single-rows (held_kept o.held k) (rw (← whole-sum o k f) (sym q ∙ h));
            waiting = omega arith;
            queue =
                record {
                  inside = λ i l. absurd (omega arith);
                  distinct = λ i l. absurd (omega arith);
                  short = λ p l. sym (le-leb (need n 0 0 p) (degree_of n m w' p) (omega (arith, none_needed n p)));
                  surrounds = surrounds-all (between n w') (2 * n) (need n 0 0);
                };
            sizes = record { sources = sym (sum_ones n); targets = sym (sum_ones n) };
          };
      degrees = λ p l. e p l ∙ (weighed_kept o k).degrees p l ∙ sym (whole-live n w' (queue_of n m w') p);
      total =
          record {
            held = held_kept o.held k;
            small = small;
            counted = λ g t. whole-sum o k f ∙ sym (whole-edges t (queue_of n m w'));
          };
    }
