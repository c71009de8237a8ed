-- What the finding call promises: condition 3 as one statement, inside any A and B (02, wish 5) and in any month (02, wish 3).
use Rattle.std.specs.Prelude.{ℕ, ◌*◌, ◌≤◌, true, List, [], ◌∷◌, ◌↔◌, ◌≡◌, None, Result, Ok, length}
use Rattle.graph.specs.Graph.{edges}
use Rattle.graph.specs.Core.{EqualLevelInside, BoundsInside}
use Rattle.graph.specs.Quiet.{OutcomeInside}
use Rattle.network.specs.declared.Refusal.{Refusal}
use Rattle.network.specs.File.{graph_of, file_refusal}
use Rattle.network.specs.Groups.{group_of, is_group, Among}
use Rattle.network.specs.Refusals.{work_length, core_refusal}
use Rattle.network.specs.Calls.{Call}
use Rattle.cores.specs.Calls.{GroupsTold}
use Rattle.searching.specs.declared.Ring.{Ring}

-- the groups are the finding inside A and B, or empty where no link goes from A to B, with x, y and the equal level; the bounds hold over all pairs
-- inside A and B, and x × y is 0 exactly when no link goes from A to B
pub record FindingTold (f a b s s' t t' w w' : List ℕ) (r : Ring) : Type 0 where
  pub outcome : Among (graph_of f).order a b (λ A B. OutcomeInside (graph_of f) A B r.x r.y (group_of s') (group_of t'))
  pub equal : Among (graph_of f).order a b (λ A B. EqualLevelInside (graph_of f) A B r.equal)
  pub bounds : Among (graph_of f).order a b (λ A B. BoundsInside (graph_of f) A B r.x r.y (group_of s') (group_of t'))
  pub linkless : (r.x * r.y ≡ 0) ↔ (edges (graph_of f) (group_of a) (group_of b) ≡ 0)
  pub groups : GroupsTold f s s' t t' w w' r.totals

-- 01: the lent tables are as required: A and B are groups, and all tables are long enough
pub record AsRequired (f a b s t w : List ℕ) : Type 0 where
  pub a-long : (graph_of f).order ≤ length a
  pub b-long : (graph_of f).order ≤ length b
  pub a-group : is_group (graph_of f).order a ≡ true
  pub b-group : is_group (graph_of f).order b ≡ true
  pub sources : (graph_of f).order ≤ length s
  pub targets : (graph_of f).order ≤ length t
  pub work : work_length (graph_of f).order (graph_of f).size ≤ length w

-- the finding, which is not refused for an accepted file where the lent tables are as required
pub record FindingCall (f a b s s' t t' w w' : List ℕ) (r : Result Ring Refusal) : Type 0 where
  pub call :
      Call (core_refusal f a b (length s) (length t) (length w)) (s ∷ t ∷ w ∷ []) (s' ∷ t' ∷ w' ∷ [])
      (FindingTold f a b s s' t t' w w') r
  pub answered : file_refusal f ≡ None → AsRequired f a b s t w → (ring : Ring) × (r ≡ Ok ring)
