-- The bytes of a written file.
use Rattle.std.specs.Prelude.{ℕ, ◌/◌, ◌%◌, cond, List, [], ◌∷◌, ◌++◌, eqb}
use Rattle.graph.specs.Range.{flat}
use Rattle.graph.specs.Graph.{Graph}
use Rattle.graph.specs.Order.{edge_at}
use Rattle.network.specs.File.{version_of, kind_at, graph_of, mark}

-- 01: a number of 16 bits, low byte first
abbrev pub u16 : ℕ → List ℕ
u16 k = k % 256 ∷ k / 256 ∷ []

-- 01: mark, version, n and m
abbrev pub header : ℕ → ℕ → ℕ → List ℕ
header v n m = mark ++ u16 v ++ u16 n ++ u16 m

-- 01: the ends of a link: voucher, then vouched
abbrev pub edge_bytes : ℕ → ℕ → List ℕ
edge_bytes u v = u16 u ++ u16 v

-- 02, wish 13: after them its kind, in version 2
unfoldable pub kind_bytes : ℕ → ℕ → List ℕ
kind_bytes v k = cond (eqb v 2) (k ∷ []) []

-- link e of a network with these kinds
abbrev pub link_bytes : ℕ → (ℕ → ℕ) → Graph → ℕ → List ℕ
link_bytes v kind g e = edge_bytes (g.source e) (g.target e) ++ kind_bytes v (kind e)

-- the links of a network, one after the other
abbrev pub edges_bytes : ℕ → (ℕ → ℕ) → Graph → List ℕ
edges_bytes v kind g = flat (link_bytes v kind g) g.size

-- the file, of version v, of a network with its links as they stand
abbrev pub standing : ℕ → (ℕ → ℕ) → Graph → List ℕ
standing v kind g = header v g.order g.size ++ edges_bytes v kind g

-- the network with its links by rank: ascending by voucher, then vouched
abbrev pub ranked : Graph → Graph
ranked g = record { order = g.order; size = g.size; source = λ i. g.source (edge_at g i); target = λ i. g.target (edge_at g i); weight = λ i. g.weight (edge_at g i) }

-- 01: the file with its links ascending by voucher, then vouched, each with its kind
abbrev pub written : ℕ → (ℕ → ℕ) → Graph → List ℕ
written v kind g = standing v (λ i. kind (edge_at g i)) (ranked g)

-- 01, and 02, wish 13: so the links of a file in its own version
abbrev pub ordered : List ℕ → List ℕ
ordered f = written (version_of f) (kind_at f) (graph_of f)
