-- Groups as tables of bytes, and what is counted between two of them.
use Rattle.std.specs.Prelude.{ℕ, ◌<◌, Bool, List, ◌++◌, ◌≡◌, eqb, ltb, get_or, drop}
use Rattle.graph.specs.Range.{if, first, table}
use Rattle.graph.specs.Graph.{Graph, Group, everyone, card, edges}
use Rattle.network.specs.declared.Totals.{Totals}

-- 01: the group of a table of bytes: 1 in, 0 out
abbrev pub group_of : List ℕ → Group
group_of s u = eqb (get_or s u 0) 1

-- 01: every byte among the first n of a group is 0 or 1
abbrev pub is_group : ℕ → List ℕ → Bool
is_group n s = eqb (first (λ u. ltb 1 (get_or s u 0)) n) n

-- 02, wish 5: everyone is in the group of a table: each of the first n bytes is 1
abbrev pub AllIn : ℕ → List ℕ → Type 0
AllIn n a = (u : ℕ) → u < n → get_or a u 0 ≡ 1

-- 02, wish 5: what holds inside A and B, the groups of two tables; with everyone in both it is the former answer, among everyone
pub record Among (n : ℕ) (a b : List ℕ) (holds : Group → Group → Type 0) : Type 0 where
  pub inside : holds (group_of a) (group_of b)
  pub former : AllIn n a → AllIn n b → holds everyone everyone

-- the bytes of a group over n members
abbrev pub bytes_of : ℕ → Group → List ℕ
bytes_of n S = table (λ u. if (S u) 1) n

-- 01: a group stands in the first n bytes of a table, and the later ones are as they were
abbrev pub GroupIn : ℕ → List ℕ → List ℕ → Type 0
GroupIn n s s' = s' ≡ bytes_of n (group_of s') ++ drop n s

-- 01: E, |S| and |T|
abbrev pub totals : Graph → Group → Group → Totals
totals g S T = record { edges = edges g S T; sources = card g S; targets = card g T }
