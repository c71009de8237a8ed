-- Two networks whose edges ascend, walked side by side: which edges may be passed, and that they are not shared.
use Prim.Native.Nat.{ℕ, ◌+◌, ◌<◌, ◌≤◌}
use mathlib.Core.Bool.{true, false, false≢true}
use mathlib.Core.List.{List}
use mathlib.Core.Path.{◌≡◌, sym, ◌∙◌}
use native.Mathlib.Decide.{dec_lt, ℕ_discrete}
use native.Mathlib.Omega.{arith}
use lib.Dec.{eqb}
use Rattle.std.proofs.lemmas.Bool.Decides.{nat_tests}
use Rattle.graph.specs.Graph.{Graph}
use Rattle.graph.specs.Order.{ascends}
use Rattle.graph.specs.Sorting.{key_of}
use Rattle.graph.proofs.Tests.{test-fails}
use Rattle.graph.proofs.Ascending.{ascending-later}
use Rattle.network.specs.File.{kind_at, graph_of}
use Rattle.network.specs.Accepted.{Accepted}
use Rattle.network.proofs.Versions.{weight-range}
use Rattle.merging.specs.Shared.{is_one, is_shared}
use Rattle.merging.specs.Merging.{mark_of, Walked}
use Rattle.merging.proofs.Shares.{one-mark, mark-one, one-turned, shared-holds}

-- later edges have greater marks
pub record Rising (g : Graph) : Type 0 where
  pub rises : (d e : ℕ) → d < e → e < g.size → mark_of g d < mark_of g e

module _ {f : List ℕ} (a : Accepted f) where
  -- the targets of an accepted file are small,
  small : (e : ℕ) → e < (graph_of f).size → (graph_of f).target e < 65536
  small e l = omega (arith, a.sound.closed.target_below e l, a.sound.header.order-most)

  -- and so are its weights,
  light : (e : ℕ) → (graph_of f).weight e < 16
  light e = omega (arith, weight-range (kind_at f e))

  -- so its later edges have greater marks
  pub rising : Rising (graph_of f)
  rising =
      record { rises = λ d e l m. omega (arith, less d e (small d (omega arith)) (small e m) (ascending-later (graph_of f) a.ascending d e l m), light d) }
    where
      less : (d e : ℕ) → (graph_of f).target d < 65536 → (graph_of f).target e < 65536 → ascends (graph_of f) d e ≡ true → key_of (graph_of f) d < key_of (graph_of f) e
      less d e p q t = grind (arith, nat_tests)

-- and two of them are one link exactly where their marks are the same
pub marks-one : {f f' : List ℕ} → Accepted f → Accepted f' → {d e first second : ℕ} → d < (graph_of f).size → e < (graph_of f').size → first ≡ mark_of (graph_of f) d → second ≡ mark_of (graph_of f') e
    → eqb first second ≡ is_one (graph_of f) (graph_of f') d e
marks-one {f} {f'} a b {d} {e} l m p q = rw (p, q) (mark-one (graph_of f) (graph_of f') d e (small a d l) (small b e m) (light a d) (light b e))

-- the same from the other side
pub turned : {g h : Graph} {i j : ℕ} → Walked g h i j → Walked h g j i
turned {g} {h} w =
    record {
      first_most = w.second_most;
      second_most = w.first_most;
      first = λ e d l m n. one-turned h g e d ∙ w.second d e m n l;
      second = λ e d l m n. one-turned h g e d ∙ w.first d e n l m;
    }

-- an edge that is one link with none of the other network is not shared
none-shared : (g h : Graph) (d : ℕ) → ((e : ℕ) → e < h.size → is_one g h d e ≡ false) → is_shared g h d ≡ false
none-shared g h d n = test-fails _ (λ t. let (e, l, o) = (shared-holds g h d).0 t in false≢true (sym (n e l) ∙ o))

module _ {g h : Graph} (a : Rising g) (b : Rising h) {i j : ℕ} (w : Walked g h i j) where
  module _ (l : i < g.size) (m : j < h.size) where
    -- an edge that does not come after the other in hand is one link with none that comes after that,
    ahead : mark_of g i ≤ mark_of h j → (e : ℕ) → j < e → e < h.size → is_one g h i e ≡ false
    ahead k e p q = test-fails _ (λ o. omega (arith, one-mark g h i e o, b.rises j e p q))

    -- so where it is not one with that either, it is passed,
    module _ (k : mark_of g i ≤ mark_of h j) (n : is_one g h i j ≡ false) where
      alone : (e : ℕ) → j ≤ e → e < h.size → is_one g h i e ≡ false
      alone e p q = elim (ℕ_discrete e j) [ yes r ↦ rw r n | no r ↦ ahead k e (omega arith) q ]

      pub pass-first : Walked g h (i + 1) j
      pass-first =
          record {
            first_most = omega arith;
            second_most = w.second_most;
            first = λ d e p q r. elim (ℕ_discrete d i) [ yes s ↦ rw s (alone e q r) | no s ↦ w.first d e (omega arith) q r ];
            second = λ d e p q r. w.second d e (omega arith) q r;
          }

      -- and not shared
      pub first-unshared : is_shared g h i ≡ false
      first-unshared = none-shared g h i (λ e q. elim (dec_lt e j) [ yes p ↦ w.second i e (omega arith) l p | no p ↦ alone e (omega arith) q ])

    -- two of the same mark are both passed
    pub pass-both : mark_of g i ≡ mark_of h j → Walked g h (i + 1) (j + 1)
    pass-both k =
        record {
          first_most = omega arith;
          second_most = omega arith;
          first = λ d e p q r. elim (ℕ_discrete d i) [ yes s ↦ rw s (ahead (omega arith) e (omega arith) r) | no s ↦ w.first d e (omega arith) (omega arith) r ];
          second = λ d e p q r. elim (ℕ_discrete e j) [ yes s ↦ rw s (behind d (omega arith) q) | no s ↦ w.second d e (omega arith) q (omega arith) ];
        }
      where
        behind : (d : ℕ) → i < d → d < g.size → is_one g h d j ≡ false
        behind d p q = test-fails _ (λ o. omega (arith, one-mark g h d j o, a.rises i d p q))

  -- where one of the two is passed whole, no edge that is left is shared
  pub rest-unshared : (i < g.size → j < h.size → ⊥) → (d : ℕ) → i ≤ d → d < g.size → is_shared g h d ≡ false
  rest-unshared over d l m = none-shared g h d (λ e q. elim (dec_lt e j) [ yes p ↦ w.second d e l m p | no p ↦ absurd (over (omega arith) (omega arith)) ])
