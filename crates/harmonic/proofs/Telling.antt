-- What the finder begins with, and what its keys tell when it is done. Without links nothing is dropped, and no degree is as great as a mark, so that
-- nobody is found. With links the best of all states before the empty one is the best state, whose places are those dropped after it.
use Prim.Native.Nat.{ℕ, ◌+◌, ◌-◌, ◌*◌, ◌<◌, ◌≤◌}
use mathlib.Core.List.{List}
use mathlib.Core.Path.{◌≡◌, sym, subst, ◌∙◌}
use native.Mathlib.Omega.{arith}
use borrow.Author.Tests.{lt-leb}
use Rattle.graph.specs.Graph.{Graph, everyone, edges}
use Rattle.graph.specs.Cover.{need}
use Rattle.graph.specs.Harmonic.{state_after, denser, best_state}
use Rattle.graph.specs.Drops.{Unbeaten, Keys, degree_in, first_mark}
use Rattle.graph.proofs.Sums.{sum-zero, sum_ones}
use Rattle.graph.proofs.Unbeaten.{unbeaten-is}
use Rattle.graph.proofs.Harmonic.{linked-order, places-linked, places-none}
use Rattle.graph.proofs.Keys.{keys-begin, keys-end}
use Rattle.network.specs.declared.Totals.{Totals}
use Rattle.peeling.specs.declared.Peel.{Peel}
use Rattle.peeling.specs.Peeling.{degree_of, live, Tabled, Held, Peeling, Kept}
use Rattle.peeling.proofs.Kept.{kept_next, kept_back, tabled-kept}
use Rattle.peeling.proofs.Totals.{place-degree}
use Rattle.picking.specs.Winners.{Beside}
use Rattle.harmonic.specs.Walks.{keys_at, step_of, At, Walked, Tells, BestIn}
use Rattle.harmonic.proofs.Tables.{kept-nodes}
use Rattle.harmonic.proofs.Turns.{light}

-- a peel that has not begun
module _ {n m : ℕ} {u u' : List ℕ} {s : Peel} (p : Peeling n m (need n 0 0) u' s) (h : s.head ≡ 0) (k : Kept n m u u') where
  -- has all edges of a graph,
  pub whole-links : (g : Graph) → Tabled g n m u → s.edges ≡ edges g everyone everyone
  unfolding live
  whole-links g t = rw h at (p.total.counted g (tabled-kept t k))

  -- and the degrees in it
  whole-degrees : (g : Graph) → Tabled g n m u → (q : ℕ) → q < 2 * n → degree_of n m u' q ≡ degree_in g everyone q
  unfolding live
  whole-degrees g t q l = rw h at (p.degrees q l) ∙ place-degree (tabled-kept t k) everyone q l

  -- where there are edges there are vertices
  pub some-order : Held n m u → 1 ≤ s.edges → 1 ≤ n
  some-order x l =
      let t = x.tabled in
      omega (arith, linked-order t.closed (omega (arith, whole-links x.graph t)), t.order)

  -- without edges nothing is dropped, and nobody found
  pub tells_none : s.edges ≡ 0 → BestIn n m u u' (record { edges = 0; sources = 0; targets = 0 })
  tells_none z = record { kept = k; tells = tells }
    where
      tells : (g : Graph) → Tabled g n m u → Tells g n m u' (record { edges = 0; sources = 0; targets = 0 })
      tells g t =
          let e : edges g everyone everyone ≡ 0 = sym (whole-links g t) ∙ z in
          record {
            places = λ q l.
                rw (places-none g e)
                (sym (lt-leb (first_mark + (2 * n - 0)) (degree_of n m u' q) (omega (arith, whole-degrees g t q l, light t everyone q (omega (arith, t.order))))));
            counted = rw (places-none g e, sum-zero g.size, sum-zero g.order);
          }

  module _ {v : List ℕ} (tree : Beside (keys_at n m) (2 * n) u' v) where
    -- with the tree of matches over the degrees
    pub tree-kept : Kept n m u v
    tree-kept = kept_next k (kept-nodes tree)

    -- the drops begin
    pub drops-begin : (g : Graph) → Tabled g n m v → At g n m v 0 (record { edges = s.edges; sources = n; targets = n })
    unfolding state_after
    drops-begin g t =
        let t₀ = tabled-kept t (kept_back tree-kept) in
        record {
          tabled = t;
          within = omega arith;
          keys =
              keys-begin g (degree_of n m v) (λ q l.
              tree.before (keys_at n m + q) (omega (arith, t.order)) ∙ whole-degrees g t₀ q (omega (arith, t.order)));
          counted = rw (whole-links g t₀, sum_ones g.order, t.order);
        }

    -- and when they are done the keys tell the best state
    pub tells-best : {w : List ℕ} {best : Totals} → 1 ≤ s.edges → Walked n m v w best → BestIn n m u w best
    tells-best {w} {best} l d = record { kept = kept_next tree-kept d.kept; tells = tells }
      where
        tells : (g : Graph) → Tabled g n m u → Tells g n m w best
        tells g t =
            let c = t.closed in
            let e : 1 ≤ edges g everyone everyone = omega (arith, whole-links g t) in
            let t₁ = tabled-kept t tree-kept in
            let o : 2 * n ≡ 2 * g.order = omega (arith, t.order) in
            let b : best_state g ≡ step_of n best = unbeaten-is (subst (λ i. Unbeaten (denser g) everyone i (step_of n best)) o (d.top g t₁).unbeaten) in
            let keys : Keys g (2 * g.order) (degree_of n m w) = rw o at (d.keys g t₁) in
            record {
              places = λ q l. rw (places-linked g e, b) (keys-end c keys (step_of n best) q (omega arith));
              counted = rw (places-linked g e, b) (d.top g t₁).counted;
            }
