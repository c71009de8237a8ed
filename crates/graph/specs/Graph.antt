-- A weighted directed graph, its edges numbered, and what is counted between two groups of its vertices.
use Rattle.std.specs.Prelude.{ℕ, ◌<◌, Bool, true, ◌&&◌, ◌↔◌, ◌≡◌, eqb}
use Rattle.graph.specs.Range.{sum, if}

-- n vertices (01: members) and m edges (01: links): edge e goes from source e (01: voucher) to target e (01: vouched).
-- Each link of a network weighs 1 to 12, by its kind (02, wish 13); an edge of weight 0 counts as absent.
pub record Graph : Type 0 where
  pub order : ℕ
  pub size : ℕ
  pub source : ℕ → ℕ
  pub target : ℕ → ℕ
  pub weight : ℕ → ℕ

-- an edge goes from u to v
abbrev pub Linked : Graph → ℕ → ℕ → Type 0
Linked g u v = (e : ℕ) × (e < g.size) × (g.source e ≡ u) × (g.target e ≡ v)

-- condition 2: the two hold the same links
abbrev pub SameLinks : Graph → Graph → Type 0
SameLinks g h = (u v : ℕ) → Linked g u v ↔ Linked h u v

-- every edge turned round
abbrev pub reverse : Graph → Graph
reverse g = record { order = g.order; size = g.size; source = g.target; target = g.source; weight = g.weight }

-- 01: a group, as a test on vertices; only the vertices of the graph count
abbrev pub Group : Type 0
Group = ℕ → Bool

-- the group of everyone
abbrev pub everyone : Group
everyone u = true

-- 01: |S|
abbrev pub card : Graph → Group → ℕ
card g S = sum (λ u. if (S u) 1) g.order

-- 01: E(S,T); 02, wish 13: the sum of the weights
abbrev pub edges : Graph → Group → Group → ℕ
edges g S T = sum (λ e. if (S (g.source e) && T (g.target e)) (g.weight e)) g.size

-- 01: the links of u into T; 02, wish 13: the sum of their weights, and so in what follows
abbrev pub out_degree : Graph → Group → ℕ → ℕ
out_degree g T u = sum (λ e. if (eqb (g.source e) u && T (g.target e)) (g.weight e)) g.size

-- 01: the links of v from S, in the same way
abbrev pub in_degree : Graph → Group → ℕ → ℕ
in_degree g S v = sum (λ e. if (S (g.source e) && eqb (g.target e) v) (g.weight e)) g.size
