-- What the layers call promises: 02, wishes 1 and 5, as one statement.
use Rattle.std.specs.Prelude.{ℕ, suc, List, [], ◌∷◌, ◌≡◌, Result, length, get_or, drop}
use Rattle.graph.specs.Range.{sum}
use Rattle.graph.specs.Graph.{edges}
use Rattle.graph.specs.Layers.{edges_in, LayeringInside}
use Rattle.network.specs.declared.Refusal.{Refusal}
use Rattle.network.specs.File.{graph_of}
use Rattle.network.specs.Groups.{group_of, Among}
use Rattle.network.specs.Refusals.{layers_refusal}
use Rattle.network.specs.Calls.{Call}
use Rattle.cores.specs.Calls.{WorkKept}

-- 02: the layer that a table has for link e
abbrev pub layer_in : List ℕ → ℕ → ℕ
layer_in t e = get_or t e 0

-- the first m entries are the layers of the links inside A and B, K in number, and E of the layers add up to the weights of the links from A to B
-- (02, wish 13); the later entries are unchanged, and so is the work table past the entries that it needs
pub record LayersTold (f a b t t' w w' : List ℕ) (K : ℕ) : Type 0 where
  pub layering : Among (graph_of f).order a b (λ A B. LayeringInside (graph_of f) A B (layer_in t') K)
  pub links : sum (λ i. edges_in (graph_of f) (layer_in t') (suc i)) K ≡ edges (graph_of f) (group_of a) (group_of b)
  pub same_length : length t' ≡ length t
  pub past : drop (graph_of f).size t' ≡ drop (graph_of f).size t
  pub work : WorkKept f w w'

-- the layers
abbrev pub LayersCall : (f a b t t' w w' : List ℕ) → Result ℕ Refusal → Type 0
LayersCall f a b t t' w w' =
    Call (layers_refusal f a b (length t) (length w)) (t ∷ w ∷ []) (t' ∷ w' ∷ [])
    (LayersTold f a b t t' w w')
