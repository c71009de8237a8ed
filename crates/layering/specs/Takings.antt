-- The steps of the layers: a list of the links in no layer, and how one layer is taken from it.
use Rattle.std.specs.Prelude.{ℕ, ◌+◌, ◌≤◌, Bool, ◌&&◌, cond, List, ◌≡◌, eqb, leb, length, get_or}
use Rattle.graph.specs.Range.{if}
use Rattle.graph.specs.Graph.{Graph, Group}
use Rattle.graph.specs.Layers.{keep, joins}
use Rattle.graph.specs.Layered.{unlayered, Layered}
use Rattle.filling.specs.Listed.{times, ListOf}
use Rattle.layering.specs.Calls.{layer_in}

-- k layers are made, and the first r entries of the list are the links in no layer
pub record Making (g : Graph) (t l : List ℕ) (k r : ℕ) : Type 0 where
  pub layered : Layered g (layer_in t) k
  pub left : ListOf (unlayered g (layer_in t)) l r

-- those of the first k edges of a list that go from S to T are put into layer c
pub record TakenFrom (g : Graph) (S T : Group) (c : ℕ) (l : List ℕ) (k : ℕ) (t t' : List ℕ) : Type 0 where
  pub taken : (e : ℕ) → layer_in t' e ≡ cond (leb 1 (times l k e) && joins g S T e) c (layer_in t e)
  pub same_length : length t' ≡ length t

-- of the first k entries of a list those in no layer are moved to its front, where they are r; the others past the first k are unchanged
pub record Sifted (t l l' : List ℕ) (k r : ℕ) : Type 0 where
  pub few : r ≤ k
  pub kept : (e : ℕ) → times l' r e ≡ if (eqb (layer_in t e) 0) (times l k e)
  pub ahead : (i : ℕ) → k ≤ i → get_or l' i 0 ≡ get_or l i 0
  pub same_length : length l' ≡ length l

-- One layer more than k is made, and the first r entries of the list are the links that are left: of every graph in which only some edges of g
-- count, and of which the list had those that were left.
pub record OneMore (g : Graph) (k : ℕ) (t t' l l' : List ℕ) (r : ℕ) : Type 0 where
  pub made : (p : ℕ → Bool) → Making (keep g p) t l k (length l) → Making (keep g p) t' l' (k + 1) r
  pub few : r ≤ length l
  pub layers-length : length t' ≡ length t
  pub list_length : length l' ≡ length l
