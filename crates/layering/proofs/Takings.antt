-- One layer taken from a list: the finding of the links in no layer makes the next layer, and what is sifted is again the links in no layer. The
-- links are those of a graph in which only some edges count.
use Prim.Native.Nat.{ℕ, suc, ◌+◌, ◌*◌, ◌<◌, ◌≤◌}
use mathlib.Core.Bool.{Bool, true, false, ◌&&◌}
use mathlib.Core.List.{List}
use mathlib.Core.Path.{◌≡◌, ap, ◌∙◌}
use native.Mathlib.Nat.{le_trans, mul-le-mul, zero-mul}
use native.Mathlib.Numerals.{add-one}
use native.Mathlib.Omega.{arith}
use lib.Dec.{eqb, leb}
use lib.ListN.{length, get_or}
use Rattle.std.proofs.lemmas.Bool.Decides.{nat_tests}
use Rattle.graph.specs.Range.{if}
use Rattle.graph.specs.Graph.{Graph, Group}
use Rattle.graph.specs.Shapes.{Closed, total}
use Rattle.graph.specs.Core.{Finding}
use Rattle.graph.specs.Layers.{keep, joins}
use Rattle.graph.specs.Layered.{unlayered, Layered}
use Rattle.graph.proofs.Tests.{if_some}
use Rattle.graph.proofs.Sums.{term-le-sum}
use Rattle.graph.proofs.Masks.{closed-weighing, finding-weights}
use Rattle.graph.proofs.Layered.{layered-next}
use Rattle.graph.specs.Listed.{Lists}
use Rattle.filling.specs.Listed.{only, times, ListOf}
use Rattle.filling.proofs.Times.{times-entry, times-some, list-weighs}
use Rattle.layering.specs.Calls.{layer_in}
use Rattle.layering.specs.Takings.{Making, TakenFrom, Sifted}

-- a list that is not empty has an edge that counts
pub lists-some : (g : Graph) (l : List ℕ) → Lists g l → ((e : ℕ) → e < g.size → 1 ≤ g.weight e) → 1 ≤ length l → 1 ≤ total (only g l)
lists-some g l below some p =
    let e = get_or l 0 0 in
    le_trans (mul-le-mul (times-entry l (length l) 0 p) (some e (below 0 p))) (term-le-sum (only g l).weight g.size e (below 0 p))

module _ {g : Graph} (c : Closed g) (p : ℕ → Bool) (t : List ℕ) {l : List ℕ} {k : ℕ} (m : Making (keep g p) t l k (length l)) where
  -- an edge of the list from S to T is a link from S to T that is in no layer, and no other edge is
  listed : (S T : Group) (e : ℕ) → e < g.size → (leb 1 (times l (length l) e) && joins g S T e) ≡ (eqb (layer_in t e) 0 && joins (keep g p) S T e)
  listed S T e h = grind (arith, nat_tests)

  -- and by the list an edge weighs what it does as a link in no layer
  weighs : (e : ℕ) → e < g.size → (only g l).weight e ≡ (unlayered (keep g p) (layer_in t)).weight e
  weighs e h = rw (m.left.once e h) (either (eqb (layer_in t e) 0))
    where
      either : (z : Bool) → if (leb 1 (if z (if (p e) (g.weight e)))) 1 * g.weight e ≡ if z (if (p e) (g.weight e))
      either true = list-weighs (p e) (g.weight e)
      either false = zero-mul (g.weight e)

  module _ {d : ℕ} {S T : Group} {t' : List ℕ} (h : TakenFrom g S T d l (length l) t t') (new : d ≡ suc k) where
    -- so what is taken from it, between the groups of its finding, is the next layer
    taken-layered : {x y : ℕ} → Finding (only g l) x y S T → Layered (keep g p) (layer_in t') (k + 1)
    taken-layered f =
        rw (add-one k)
        (layered-next (closed-weighing c _) m.layered (finding-weights g (only g l).weight (unlayered (keep g p) (layer_in t)).weight weighs c f)
        (λ e i. h.taken e ∙ rw (listed S T e i, new)))

    -- an edge that is in no layer then was in none before
    was-in-none : (e w : ℕ) → if (eqb (layer_in t' e) 0) (if (leb 1 (if (eqb (layer_in t e) 0) w)) 1) ≡ if (leb 1 (if (eqb (layer_in t' e) 0) w)) 1
    was-in-none e w = grind (arith, nat_tests)

    -- and what is sifted from the list is the links that are in none then
    sifted-left : {l' : List ℕ} {r : ℕ} → Sifted t' l l' (length l) r → ListOf (unlayered (keep g p) (layer_in t')) l' r
    sifted-left {l'} {r} s =
        record {
          below = λ i n.
              let (q, some) = if_some (eqb (layer_in t' (get_or l' i 0)) 0) (times l (length l) (get_or l' i 0)) (rw (s.kept (get_or l' i 0)) at (times-entry l' r i n)) in
              let (j, o, e) = times-some l (length l) (get_or l' i 0) some in
              rw (← e) (m.left.below j o);
          once = λ e n. s.kept e ∙ ap (if (eqb (layer_in t' e) 0)) (m.left.once e n) ∙ was-in-none e ((keep g p).weight e);
        }

    -- together one layer more
    pub taken-making : {x y : ℕ} {l' : List ℕ} {r : ℕ} → Finding (only g l) x y S T → Sifted t' l l' (length l) r → Making (keep g p) t' l' (k + 1) r
    taken-making f s = record { layered = taken-layered f; left = sifted-left s }
