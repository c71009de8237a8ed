-- What the call on two files promises (02, wish 11).
use Rattle.std.specs.Prelude.{ℕ, ◌+◌, ◌≤◌, cond, List, [], ◌∷◌, ◌++◌, ◌↔◌, ◌≡◌, Option, None, Some, Result, Ok, eqb, length, take, drop}
use Rattle.network.specs.declared.Refusal.{Refusal}
use Rattle.network.specs.declared.Refusal.TheVariants.{Mismatch}
use Rattle.network.specs.File.{version_of, stride, link_at, kind_at, weight_of, graph_of, LinkedAs, or_else, file_refusal}
use Rattle.network.specs.Bytes.{written}
use Rattle.network.specs.Refusals.{out_refusal}
use Rattle.network.specs.Held.{Filed, FileWritten}
use Rattle.network.specs.Calls.{Call}
use Rattle.merging.specs.declared.CommonTotals.{CommonTotals}
use Rattle.merging.specs.Shared.{shared, unshared}

-- 02: every number of the first file, then every one of the second, then 21 where the two n differ
unfoldable pub pair_refusal : List ℕ → List ℕ → Option Refusal
pair_refusal f f' = or_else (file_refusal f) (or_else (file_refusal f') (cond (eqb (graph_of f).order (graph_of f').order) None (Some Mismatch)))

-- 02, wishes 11 and 13: the length of the file of the links in both, which is of version 2
abbrev pub common_length : List ℕ → List ℕ → ℕ
common_length f f' = link_at (stride 2) (shared (graph_of f) (graph_of f'))

-- 02: the two files and the length of the output, which is to hold the links in both
abbrev pub common_refusal : List ℕ → List ℕ → ℕ → Option Refusal
common_refusal f f' = out_refusal (pair_refusal f f') (common_length f f')

-- 02, wishes 11 and 13: both files hold a link from u to v, the first one of kind k, and the second one of equal weight
abbrev pub InBoth : List ℕ → List ℕ → ℕ → ℕ → ℕ → Type 0
InBoth f f' u v k = LinkedAs (graph_of f) (kind_at f) u v k × LinkedAs (graph_of f') (graph_of f').weight u v (weight_of k)

-- 02: the three totals, and that each file's m is the first and its own; and a file of the links in both, of version 2 with the first file's kinds (wish 13),
-- over the same n, in the first bytes of the output, with the later ones as they were: in it a ring for the committee is sought
pub record CommonTold (f f' out out' : List ℕ) (c : CommonTotals) : Type 0 where
  pub both : c.both ≡ shared (graph_of f) (graph_of f')
  pub first_only : c.first_only ≡ unshared (graph_of f) (graph_of f')
  pub second_only : c.second_only ≡ unshared (graph_of f') (graph_of f)
  pub first_size : (graph_of f).size ≡ c.both + c.first_only
  pub second_size : (graph_of f').size ≡ c.both + c.second_only
  pub file : FileWritten 2 (graph_of f).order (InBoth f f') out out' c.both

-- the call
abbrev pub CommonCall : (f f' out out' : List ℕ) → Result CommonTotals Refusal → Type 0
CommonCall f f' out out' = Call (common_refusal f f' (length out)) (out ∷ []) (out' ∷ []) (CommonTold f f' out out')

-- 02: with the files exchanged, and an output as long, the file written has the same network, and the totals are the same but that the two others are
-- exchanged; where one link has the same kind in both files it is the same file
pub record Exchanged (f f' out' o' : List ℕ) (c : CommonTotals) (r : Result CommonTotals Refusal) : Type 0 where
  pub totals : r ≡ Ok (record { both = c.both; first_only = c.second_only; second_only = c.first_only })
  pub network : graph_of (take (common_length f f') o') ≡ graph_of (take (common_length f f') out')
  pub file : ((u v k : ℕ) → InBoth f f' u v k ↔ InBoth f' f u v k) → take (common_length f f') o' ≡ take (common_length f f') out'

abbrev pub FilesExchanged : Type 0
FilesExchanged = (f f' out out' o o' : List ℕ) (c : CommonTotals) (r : Result CommonTotals Refusal) → CommonCall f f' out out' (Ok c) → length o ≡ length out → CommonCall f' f o o' r
    → Exchanged f f' out' o' c r

-- 02: of a file with itself, which is not empty, it is the file of its links in version 2, which of a file of version 2 is the file itself; and no link is in
-- one only
pub record WithItself (f out out' : List ℕ) (r : Result CommonTotals Refusal) : Type 0 where
  pub totals : r ≡ Ok (record { both = (graph_of f).size; first_only = 0; second_only = 0 })
  pub file : out' ≡ written 2 (kind_at f) (graph_of f) ++ drop (link_at (stride 2) (graph_of f).size) out
  pub itself : version_of f ≡ 2 → written 2 (kind_at f) (graph_of f) ≡ f

abbrev pub FileWithItself : Type 0
FileWithItself = (f out out' : List ℕ) (r : Result CommonTotals Refusal) → Filed f → link_at (stride 2) (graph_of f).size ≤ length out → CommonCall f f out out' r → WithItself f out out' r
