-- Links with kinds: links that are the same with their kinds are the same without, and edges that stand alike have the same kinds.
use Prim.Native.Nat.{ℕ, ◌<◌}
use mathlib.Core.List.{List}
use mathlib.Core.Logic.{◌↔◌}
use mathlib.Core.Path.{◌≡◌, refl, sym, ap, ◌∙◌}
use native.Mathlib.Omega.{arith}
use Rattle.graph.specs.Graph.{Graph, Linked, SameLinks}
use Rattle.graph.specs.Shapes.{Simple}
use Rattle.graph.proofs.Ascending.{Alike}
use Rattle.network.specs.File.{kind_at, weight_of, graph_of, LinkedAs, SameKinds}

-- the links of one graph with their kinds are links of another
module _ (g h : Graph) (kind kind' : ℕ → ℕ) (same : (u v k : ℕ) → LinkedAs g kind u v k → LinkedAs h kind' u v k) where
  -- so they are without
  pub linked-plain : (u v : ℕ) → Linked g u v → Linked h u v
  linked-plain u v (e, l, p, q) = let (d, m, s, t, k) = same u v (kind e) (e, l, p, q, refl) in (d, m, s, t)

  -- and where they stand alike in both, and no two are the same, each has the same kind in both
  pub kinds-alike : Alike g h → Simple h → (e : ℕ) → e < g.size → kind e ≡ kind' e
  kinds-alike a s e l =
      let (d, m, p, q, k) = same _ _ _ (e, l, refl, refl, refl) in
      sym k ∙ ap kind' (s d e m (omega (arith, a.size)) (p ∙ a.source e l) (q ∙ a.target e l))

-- two graphs that hold the same links with their kinds hold the same without
pub linked-same : (g h : Graph) (kind kind' : ℕ → ℕ) → ((u v k : ℕ) → LinkedAs g kind u v k ↔ LinkedAs h kind' u v k) → SameLinks g h
linked-same g h kind kind' s u v = (linked-plain g h kind kind' (λ a b k. (s a b k).0) u v, linked-plain h g kind' kind (λ a b k. (s a b k).1) u v)

-- two files hold the same links, of the same weights
abbrev pub SameWeights : List ℕ → List ℕ → Type 0
SameWeights f f' = (u v w : ℕ) → LinkedAs (graph_of f) (graph_of f).weight u v w ↔ LinkedAs (graph_of f') (graph_of f').weight u v w

-- as where these are of the same kinds
pub kinds-weighed : (f f' : List ℕ) → SameKinds f f' → SameWeights f f'
kinds-weighed f f' s u v w = (
  λ (e, l, p, q, i). let (d, m, r, t, k) = (s u v (kind_at f e)).0 (e, l, p, q, refl) in (d, m, r, t, ap weight_of k ∙ i),
  λ (e, l, p, q, i). let (d, m, r, t, k) = (s u v (kind_at f' e)).1 (e, l, p, q, refl) in (d, m, r, t, ap weight_of k ∙ i),
)
