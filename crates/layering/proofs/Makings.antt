-- Layer after layer: at first no edge has one and the list has every link, each turn makes one layer more, and once the list is empty all are made.
use Prim.Native.Nat.{ℕ, ◌+◌, ◌≤◌}
use mathlib.Core.Bool.{Bool}
use mathlib.Core.List.{List, ◌++◌}
use mathlib.Core.Path.{◌≡◌, sym, ◌∙◌}
use native.Mathlib.Omega.{arith}
use lib.Dec.{leb}
use lib.ListN.{length, take, drop, length-append, length-drop, get_or-append}
use lib.Seq.{length-take-le}
use Rattle.std.proofs.lemmas.Bool.Decides.{nat_tests}
use Rattle.graph.specs.Range.{if}
use Rattle.graph.specs.Graph.{Graph}
use Rattle.graph.specs.Shapes.{Closed}
use Rattle.graph.specs.Layers.{keep, Layering}
use Rattle.graph.proofs.Sums.{sum-empty, sum-none}
use Rattle.graph.proofs.Layered.{layered-size, layered-ends}
use Rattle.network.specs.File.{most_links}
use Rattle.filling.specs.Listed.{times}
use Rattle.filling.proofs.Times.{list_same, list-front, list_once}
use Rattle.layering.specs.Calls.{layer_in}
use Rattle.layering.specs.Takings.{Making, OneMore}

-- between two turns: k layers are made, r links are left, and the tables are as long as they were
pub record Turn (g : Graph) (t l : List ℕ) (k r : ℕ) : Type 0 where
  pub making : Making g t l k r
  pub few : r ≤ g.size
  pub table-length : length t ≡ g.size
  pub list_length : length l ≡ most_links

module _ (g : Graph) (p : ℕ → Bool) (small : g.size ≤ most_links) {t l : List ℕ} {k r : ℕ} (a : Turn (keep g p) t l k r) {s : ℕ} (e : s ≡ r) where
  -- the front of the list has as many entries as links are left,
  turn-front : length (take s l) ≡ r
  turn-front = length-take-le s l (omega (arith, a.few, a.list_length)) ∙ e

  -- and is these links,
  turn-making : Making (keep g p) t (take s l) k (length (take s l))
  turn-making = record { layered = a.making.layered; left = list-front e (omega (arith, a.few, a.list_length)) a.making.left }

  -- of which none stands there twice;
  pub turn-once : (d : ℕ) → times (take s l) (length (take s l)) d ≤ 1
  turn-once = list_once turn-making.left

  -- then one layer more is made of it
  pub turn-next : {t' q : List ℕ} {n : ℕ} → OneMore g k t t' (take s l) q n → Turn (keep g p) t' (q ++ drop s l) (k + 1) n
  turn-next {q = q} b =
      let next = b.made p turn-making in
      record {
        making = record {
          layered = next.layered;
          left = list_same (λ i h. sym (get_or-append q (drop s l) 0 i (omega (arith, b.few, b.list_length)))) next.left;
        };
        few = omega (arith, b.few, turn-front, a.few);
        table-length = b.layers-length ∙ a.table-length;
        list_length = omega (arith, length-append q (drop s l), length-drop s l, b.list_length, turn-front, a.few, a.list_length);
      }

-- there are no more layers than edges
pub turn-few : {g : Graph} {t l : List ℕ} {k r : ℕ} → Turn g t l k r → Closed g → k ≤ g.size
turn-few a c = layered-size c a.making.layered

-- what does not count as an edge weighs 0
none-weighs : (w : ℕ) → if (leb 1 w) 1 ≡ 0 → w ≡ 0
none-weighs w z = grind (arith, nat_tests)

-- and once the list is empty all are made
pub turn-ends : {g : Graph} {t l : List ℕ} {k : ℕ} → Closed g → Turn g t l k 0 → Layering g (layer_in t) k
turn-ends {g} c a = layered-ends c a.making.layered (sum-none _ g.size (λ e h. none-weighs _ (sym (a.making.left.once e h) ∙ sum-empty _)))
