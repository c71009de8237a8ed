-- 02, wishes 1 and 5: layers inside A and B. Layer 1 holds the links between the two groups of the finding, layer 2 those between the groups of
-- the finding of what remains without them, and so on until no link from A to B remains. L e is the layer of edge e, counted from 1; an edge that
-- is in no layer has 0.
use Rattle.std.specs.Prelude.{ℕ, ◌+◌, ◌*◌, ◌<◌, ◌≤◌, Bool, true, ◌&&◌, ◌||◌, ◌↔◌, ◌≡◌, eqb, leb}
use Rattle.graph.specs.Range.{sum, if}
use Rattle.graph.specs.Graph.{Graph, Group, everyone, edges}
use Rattle.graph.specs.Core.{FindingInside, BoundsInside}

-- the graph in which only the edges that pass a test count: every other one is absent, with weight 0
abbrev pub keep : Graph → (ℕ → Bool) → Graph
keep g p = record { order = g.order; size = g.size; source = g.source; target = g.target; weight = λ e. if (p e) (g.weight e) }

-- at the start of layer l an edge of layer a is still in: it is in no layer, in l, or in a later one
abbrev pub is_in : ℕ → ℕ → Bool
is_in l a = eqb a 0 || leb l a

-- 02: the links still in at the start of layer l
abbrev pub still_in : Graph → (ℕ → ℕ) → ℕ → Graph
still_in g L l = keep g (λ e. is_in l (L e))

-- edge e is a link from S to T
abbrev pub joins : Graph → Group → Group → ℕ → Bool
joins g S T e = leb 1 (g.weight e) && (S (g.source e) && T (g.target e))

-- 02: E of layer l: the weights of its links (wish 13)
abbrev pub edges_in : Graph → (ℕ → ℕ) → ℕ → ℕ
edges_in g L l = sum (λ e. if (eqb (L e) l) (g.weight e)) g.size

-- Layer l: x, y, S and T are the finding inside A and B of the links still in at its start. It has exactly those of them from S to T, which
-- weigh E(S,T), and condition 3 holds over the links still in.
pub record LayerInside (g : Graph) (A B : Group) (L : ℕ → ℕ) (l : ℕ) : Type 0 where
  pub x : ℕ
  pub y : ℕ
  pub S : Group
  pub T : Group
  pub finding : FindingInside (still_in g L l) A B x y S T
  pub taken : (e : ℕ) → e < g.size → eqb (L e) l ≡ joins (still_in g L l) S T e
  pub counted : edges (still_in g L l) S T ≡ edges_in g L l
  pub bounds : BoundsInside (still_in g L l) A B x y S T

-- K layers: each link from A to B has one, from 1 to K, and every other edge has none; x * y never rises from a layer to the next
pub record LayeringInside (g : Graph) (A B : Group) (L : ℕ → ℕ) (K : ℕ) : Type 0 where
  pub every : (e : ℕ) → e < g.size → (1 ≤ L e) ↔ (joins g A B e ≡ true)
  pub most : (e : ℕ) → e < g.size → L e ≤ K
  pub layer : (l : ℕ) → 1 ≤ l → l ≤ K → LayerInside g A B L l
  pub falls : (l : ℕ) (a : LayerInside g A B L l) (b : LayerInside g A B L (l + 1)) → b.x * b.y ≤ a.x * a.y

-- a layer among everyone,
abbrev pub Layer : Graph → (ℕ → ℕ) → ℕ → Type 0
Layer g = LayerInside g everyone everyone

-- and the layers among everyone
abbrev pub Layering : Graph → (ℕ → ℕ) → ℕ → Type 0
Layering g = LayeringInside g everyone everyone
