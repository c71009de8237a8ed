-- What the calls on a file alone promise: check, count, write and order; and that links have one order.
use Rattle.std.specs.Prelude.{ℕ, List, [], ◌∷◌, ◌++◌, ◌↔◌, ◌≡◌, None, Result, length, take, drop}
use Rattle.graph.specs.Graph.{Group, edges}
use Rattle.graph.specs.Order.{Ascending}
use Rattle.network.specs.declared.Refusal.{Refusal}
use Rattle.network.specs.declared.Extent.{Extent}
use Rattle.network.specs.declared.Totals.{Totals}
use Rattle.network.specs.File.{version_of, graph_of, file_length, SameKinds, file_refusal}
use Rattle.network.specs.Groups.{group_of, totals}
use Rattle.network.specs.Bytes.{ordered}
use Rattle.network.specs.Held.{Filed}
use Rattle.network.specs.Refusals.{count_refusal, write_refusal, order_refusal}
use Rattle.network.specs.Calls.{Call}

-- 01: the check: n and m of an accepted file
abbrev pub CheckCall : List ℕ → Result Extent Refusal → Type 0
CheckCall f = Call (file_refusal f) [] [] (λ e. (e.order ≡ (graph_of f).order) × (e.size ≡ (graph_of f).size))

-- 01: the count: E, |S| and |T| of the groups of the two tables
abbrev pub CountCall : List ℕ → List ℕ → List ℕ → Result Totals Refusal → Type 0
CountCall f s t = Call (count_refusal f s t) [] [] (λ c. c ≡ totals (graph_of f) (group_of s) (group_of t))

-- Condition 2, last sentence: file w, read again, holds the links of file f. It is accepted, has the same version, the same members and as many
-- links, the same ones, of the same kinds (02, wish 13), the same E between any two groups, and its links ascend.
pub record ReadAgain (f w : List ℕ) : Type 0 where
  pub accepted : file_refusal w ≡ None
  pub version : version_of w ≡ version_of f
  pub order : (graph_of w).order ≡ (graph_of f).order
  pub size : (graph_of w).size ≡ (graph_of f).size
  pub linked : SameKinds w f
  pub counted : (S T : Group) → edges (graph_of w) S T ≡ edges (graph_of f) S T
  pub ascending : Ascending (graph_of w)

-- m, the ordered file in the first bytes of the output and the later ones as they were; and the file in the output holds the same links
pub record Rewritten (f out out' : List ℕ) (m : ℕ) : Type 0 where
  pub size : m ≡ (graph_of f).size
  pub file : out' ≡ ordered f ++ drop (file_length f) out
  pub again : ReadAgain f (take (file_length f) out')

-- 01: the writer
abbrev pub WriteCall : List ℕ → List ℕ → List ℕ → Result ℕ Refusal → Type 0
WriteCall f out out' = Call (write_refusal f (length out)) (out ∷ []) (out' ∷ []) (Rewritten f out out')

-- 02, wish 7: the conversion: it takes a file by the old rule, of version 1, and the file in the output is accepted by the new one
abbrev pub OrderCall : List ℕ → List ℕ → List ℕ → Result ℕ Refusal → Type 0
OrderCall f out out' = Call (order_refusal f (length out)) (out ∷ []) (out' ∷ []) (Rewritten f out out')

-- 02, wishes 7 and 13: within one version, with the same n and no empty input, two accepted files hold the same links, of the same kinds, exactly
-- when their bytes are equal
abbrev pub OneOrder : Type 0
OneOrder = (f f' : List ℕ) → Filed f → Filed f' → version_of f ≡ version_of f' → (graph_of f).order ≡ (graph_of f').order → SameKinds f f' ↔ (f ≡ f')
