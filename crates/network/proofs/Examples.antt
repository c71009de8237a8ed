-- Files, network W and calls, with what the definitions say of them: each number beside those that it comes before.
use Prim.Native.Nat.{ℕ}
use mathlib.Core.List.{List, [], ◌∷◌, map}
use mathlib.Core.Path.{◌≡◌, refl}
use Rattle.graph.specs.Range.{sum, first, flat}
use Rattle.graph.specs.Graph.{reverse}
use Rattle.graph.specs.Order.{rank_by, nth_by, starts, rows}
use Rattle.std.specs.Prelude.{Option}
use Rattle.network.specs.declared.Refusal.{Refusal}
use Rattle.network.specs.File.{version_of, stride, kind_at, weight_of, graph_of, number_told, link_told, any_order, old_refusal, file_refusal}
use Rattle.network.specs.Refusals.{index_refusal, row_refusal, count_refusal, core_refusal, level_refusal, equal_level_refusal, layers_refusal, harmonic_refusal, out_refusal, write_refusal, order_refusal}
use Rattle.network.specs.Bytes.{kind_bytes, ordered}

-- the bytes of links between members below 256
abbrev pub links : List (ℕ × ℕ) → List ℕ
links [] = []
links ((u, v) ∷ l) = u ∷ 0 ∷ v ∷ 0 ∷ links l

-- a file of version 1 with n members and m links, both below 256, and these bytes after them
abbrev pub small : ℕ → ℕ → List ℕ → List ℕ
small n m rest = 0x56 ∷ 0x43 ∷ 0x48 ∷ 1 ∷ 0 ∷ n ∷ 0 ∷ m ∷ 0 ∷ rest

-- the bytes of links, each with its kind
abbrev pub kinded : List (ℕ × ℕ × ℕ) → List ℕ
kinded [] = []
kinded ((u, v, k) ∷ l) = u ∷ 0 ∷ v ∷ 0 ∷ k ∷ kinded l

-- a file of version 2, in the same way
abbrev pub small2 : ℕ → ℕ → List ℕ → List ℕ
small2 n m rest = 0x56 ∷ 0x43 ∷ 0x48 ∷ 2 ∷ 0 ∷ n ∷ 0 ∷ m ∷ 0 ∷ rest

-- network W
abbrev pub W : List ℕ
W = small 6 8 (links ((0, 3) ∷ (0, 4) ∷ (1, 3) ∷ (1, 4) ∷ (2, 3) ∷ (2, 4) ∷ (4, 5) ∷ (5, 5) ∷ []))

-- W's links in another order
abbrev pub mixed_w : List ℕ
mixed_w = small 6 8 (links ((5, 5) ∷ (2, 4) ∷ (0, 4) ∷ (1, 3) ∷ (4, 5) ∷ (2, 3) ∷ (0, 3) ∷ (1, 4) ∷ []))

-- links of which two come before the one preceding them, the first by its vouched member
abbrev pub two_descents : List ℕ
two_descents = small 3 5 (links ((0, 1) ∷ (0, 2) ∷ (0, 0) ∷ (2, 0) ∷ (1, 2) ∷ []))

-- 01's two numbers of a refusal
abbrev pub numbers : Option Refusal → ℕ × ℕ
numbers r = (number_told r, link_told r)

-- those of none, of one by its number alone, and of one that names a link
abbrev pub none : ℕ × ℕ
none = (0, 0)

abbrev pub plain : ℕ → ℕ × ℕ
plain k = (k, 0)

abbrev pub at : ℕ → ℕ → ℕ × ℕ
at k e = (k, e)

-- a file and what is given for it
pub record Case : Type 0 where
  pub file : List ℕ
  pub refusal : ℕ × ℕ

-- a file for each number, with every later fault that it can have too, and accepted ones; 2,049 is 1 + 256 × 8 and 8,193 is 1 + 256 × 32
abbrev pub cases : List Case
cases =
    record { file = []; refusal = none }
    ∷ record { file = 0x56 ∷ []; refusal = plain 1 }
    ∷ record { file = 0 ∷ 0 ∷ 0 ∷ 0 ∷ 1 ∷ 1 ∷ 8 ∷ 1 ∷ []; refusal = plain 1 }
    ∷ record { file = 0x56 ∷ 0x43 ∷ 0x49 ∷ 0 ∷ 1 ∷ 1 ∷ 8 ∷ 1 ∷ 32 ∷ []; refusal = plain 2 }
    ∷ record { file = 0x56 ∷ 0x43 ∷ 0x48 ∷ 0 ∷ 1 ∷ 1 ∷ 8 ∷ 1 ∷ 32 ∷ []; refusal = plain 3 }
    ∷ record { file = 0x56 ∷ 0x43 ∷ 0x48 ∷ 1 ∷ 0 ∷ 1 ∷ 8 ∷ 1 ∷ 32 ∷ []; refusal = plain 4 }
    ∷ record { file = 0x56 ∷ 0x43 ∷ 0x48 ∷ 1 ∷ 0 ∷ 0 ∷ 8 ∷ 1 ∷ 32 ∷ []; refusal = plain 5 }
    ∷ record { file = 0x56 ∷ 0x43 ∷ 0x48 ∷ 1 ∷ 0 ∷ 0 ∷ 8 ∷ 0 ∷ 32 ∷ []; refusal = plain 6 }
    ∷ record { file = small 1 2 (links ((0, 1) ∷ (0, 1) ∷ (0, 0) ∷ [])); refusal = plain 6 }
    ∷ record { file = small 2 5 (links ((0, 1) ∷ (0, 1) ∷ (0, 2) ∷ (2, 0) ∷ (2, 0) ∷ [])); refusal = at 7 2 }
    ∷ record { file = small 2 3 (links ((1, 0) ∷ (0, 1) ∷ (0, 2) ∷ [])); refusal = at 7 2 }
    ∷ record { file = small 2 4 (links ((0, 1) ∷ (1, 0) ∷ (1, 0) ∷ (0, 1) ∷ [])); refusal = at 8 2 }
    ∷ record { file = small 2 3 (links ((1, 0) ∷ (0, 1) ∷ (1, 0) ∷ [])); refusal = at 8 2 }
    ∷ record { file = small 2 2 (links ((1, 0) ∷ (1, 0) ∷ [])); refusal = at 8 1 }
    ∷ record { file = two_descents; refusal = at 15 2 }
    ∷ record { file = mixed_w; refusal = at 15 1 }
    ∷ record { file = small 3 2 (links ((0, 2) ∷ (1, 0) ∷ [])); refusal = none }
    ∷ record { file = 0x56 ∷ 0x43 ∷ 0x48 ∷ 1 ∷ 0 ∷ 0 ∷ 8 ∷ 0 ∷ 0 ∷ []; refusal = none }
    ∷ record { file = small 0 0 []; refusal = none }
    ∷ record { file = W; refusal = none }
    ∷ record { file = 0x56 ∷ 0x43 ∷ 0x48 ∷ 3 ∷ 0 ∷ 1 ∷ 8 ∷ 1 ∷ 32 ∷ []; refusal = plain 3 }
    ∷ record { file = small2 2 2 (links ((0, 1) ∷ (1, 0) ∷ [])); refusal = plain 6 }
    ∷ record { file = small 2 2 (kinded ((0, 1, 0) ∷ (1, 0, 0) ∷ [])); refusal = plain 6 }
    ∷ record { file = small2 2 3 (kinded ((1, 0, 8) ∷ (1, 0, 0) ∷ (2, 0, 0) ∷ [])); refusal = at 7 2 }
    ∷ record { file = small2 2 4 (kinded ((1, 0, 7) ∷ (1, 0, 0) ∷ (0, 1, 8) ∷ (0, 0, 255) ∷ [])); refusal = at 22 2 }
    ∷ record { file = small2 2 3 (kinded ((1, 0, 7) ∷ (0, 1, 0) ∷ (1, 0, 0) ∷ [])); refusal = at 8 2 }
    ∷ record { file = small2 2 2 (kinded ((1, 0, 7) ∷ (0, 1, 0) ∷ [])); refusal = at 15 1 }
    ∷ record { file = small2 2 2 (kinded ((0, 1, 7) ∷ (1, 0, 0) ∷ [])); refusal = none }
    ∷ record { file = small2 0 0 []; refusal = none }
    ∷ []

-- each has its refusal
pub case-refusals : map (λ c. numbers (file_refusal c.file)) cases ≡ map (λ c. c.refusal) cases
unfolding file_refusal any_order version_of stride kind_at first
case-refusals = refl

-- by the old rule links may stand in any order, and none may repeat another
pub old-refusals : map (λ f. numbers (old_refusal f)) (two_descents ∷ mixed_w ∷ small 2 2 (links ((1, 0) ∷ (1, 0) ∷ [])) ∷ []) ≡ none ∷ none ∷ at 8 1 ∷ []
unfolding any_order version_of stride kind_at first
old-refusals = refl

-- the tables of a file
abbrev pub tables : List ℕ → List (List ℕ)
tables f = let g = graph_of f in starts g ∷ rows g ∷ starts (reverse g) ∷ rows (reverse g) ∷ []

-- those of W
abbrev pub W-literal : List (List ℕ)
W-literal =
    (0 ∷ 2 ∷ 4 ∷ 6 ∷ 6 ∷ 7 ∷ 8 ∷ [])
    ∷ (3 ∷ 4 ∷ 3 ∷ 4 ∷ 3 ∷ 4 ∷ 5 ∷ 5 ∷ [])
    ∷ (0 ∷ 0 ∷ 0 ∷ 0 ∷ 3 ∷ 6 ∷ 8 ∷ [])
    ∷ (0 ∷ 1 ∷ 2 ∷ 0 ∷ 1 ∷ 2 ∷ 4 ∷ 5 ∷ [])
    ∷ []

-- whatever the order of its links
pub W-tables : tables W ∷ tables mixed_w ∷ [] ≡ W-literal ∷ W-literal ∷ []
unfolding sum first flat rank_by nth_by version_of stride
W-tables = refl

-- W's links in another order are written as W
pub W-written : ordered mixed_w ≡ W
unfolding sum first flat rank_by nth_by version_of stride kind_bytes
W-written = refl

-- a file of version 2 is written in version 2, each link with its kind
pub kinds-written : ordered (small2 3 3 (kinded ((2, 0, 7) ∷ (0, 2, 1) ∷ (0, 1, 5) ∷ []))) ≡ small2 3 3 (kinded ((0, 1, 5) ∷ (0, 2, 1) ∷ (2, 0, 7) ∷ []))
unfolding sum first flat rank_by nth_by version_of stride kind_at kind_bytes
kinds-written = refl

-- the kinds 0 to 7 weigh 1, 1, 2, 3, 4, 6, 8 and 12, and every link of version 1 weighs 1
pub kinds-weigh : map (graph_of (small2 1 8 (kinded ((0, 0, 0) ∷ (0, 0, 1) ∷ (0, 0, 2) ∷ (0, 0, 3) ∷ (0, 0, 4) ∷ (0, 0, 5) ∷ (0, 0, 6) ∷ (0, 0, 7) ∷ [])))).weight (0 ∷ 1 ∷ 2 ∷ 3 ∷ 4 ∷ 5 ∷ 6 ∷ 7 ∷ [])
    ∷ map (graph_of W).weight (0 ∷ 1 ∷ 2 ∷ 3 ∷ 4 ∷ 5 ∷ 6 ∷ 7 ∷ [])
    ∷ []
    ≡ (1 ∷ 1 ∷ 2 ∷ 3 ∷ 4 ∷ 6 ∷ 8 ∷ 12 ∷ []) ∷ (1 ∷ 1 ∷ 1 ∷ 1 ∷ 1 ∷ 1 ∷ 1 ∷ 1 ∷ []) ∷ []
unfolding version_of stride kind_at weight_of
kinds-weigh = refl

-- the group of five members, and of all six of W
abbrev five : List ℕ
five = 1 ∷ 1 ∷ 1 ∷ 1 ∷ 1 ∷ []

abbrev six : List ℕ
six = 1 ∷ five

-- what is given for a call, and what is to be given
pub record Call : Type 0 where
  pub given : Option Refusal
  pub expected : ℕ × ℕ

-- a call with the file's own fault first, then with two that compete, then with each part of a fault alone, and an accepted one; last, calls on
-- zero bytes
abbrev pub calls : List Call
calls =
    record { given = index_refusal (0 ∷ []) 0 0 0 0; expected = plain 1 }
    ∷ record { given = index_refusal W 6 8 7 8; expected = plain 9 }
    ∷ record { given = index_refusal W 7 7 7 8; expected = plain 9 }
    ∷ record { given = index_refusal W 7 8 6 8; expected = plain 9 }
    ∷ record { given = index_refusal W 7 8 7 7; expected = plain 9 }
    ∷ record { given = index_refusal W 7 8 7 8; expected = none }
    ∷ record { given = row_refusal [] [] 0; expected = plain 9 }
    ∷ record { given = row_refusal (5 ∷ []) [] 0; expected = plain 10 }
    ∷ record { given = row_refusal (2 ∷ 1 ∷ []) (0 ∷ 0 ∷ []) 0; expected = plain 14 }
    ∷ record { given = row_refusal (1 ∷ 3 ∷ []) (0 ∷ 0 ∷ []) 0; expected = plain 14 }
    ∷ record { given = row_refusal (1 ∷ 1 ∷ 2 ∷ []) (0 ∷ 0 ∷ []) 1; expected = none }
    ∷ record { given = count_refusal (0 ∷ []) [] []; expected = plain 1 }
    ∷ record { given = count_refusal (small 2 0 []) (2 ∷ []) (2 ∷ 2 ∷ []); expected = plain 9 }
    ∷ record { given = count_refusal (small 2 0 []) (2 ∷ 2 ∷ []) (2 ∷ []); expected = plain 9 }
    ∷ record { given = count_refusal (small 2 0 []) (0 ∷ 2 ∷ []) (0 ∷ 1 ∷ []); expected = plain 11 }
    ∷ record { given = count_refusal (small 2 0 []) (0 ∷ 1 ∷ []) (2 ∷ 0 ∷ []); expected = plain 11 }
    ∷ record { given = count_refusal (small 2 0 []) (0 ∷ 1 ∷ 2 ∷ []) (1 ∷ 0 ∷ []); expected = none }
    ∷ record { given = core_refusal (0 ∷ []) [] [] 0 0 0; expected = plain 1 }
    ∷ record { given = core_refusal W five six 6 6 54; expected = plain 9 }
    ∷ record { given = core_refusal W six five 6 6 54; expected = plain 9 }
    ∷ record { given = core_refusal W six six 5 6 54; expected = plain 9 }
    ∷ record { given = core_refusal W six six 6 5 54; expected = plain 9 }
    ∷ record { given = core_refusal W six six 6 6 53; expected = plain 9 }
    ∷ record { given = core_refusal W (2 ∷ five) six 6 6 53; expected = plain 9 }
    ∷ record { given = core_refusal W (2 ∷ five) six 6 6 54; expected = plain 11 }
    ∷ record { given = core_refusal W six (255 ∷ five) 6 6 54; expected = plain 11 }
    ∷ record { given = core_refusal W (0 ∷ five) (0 ∷ 0 ∷ 1 ∷ 0 ∷ 1 ∷ 0 ∷ 2 ∷ []) 6 6 54; expected = none }
    ∷ record { given = core_refusal W six six 6 6 54; expected = none }
    ∷ record { given = core_refusal (small 1 0 []) (1 ∷ []) (1 ∷ []) 1 1 7; expected = plain 9 }
    ∷ record { given = core_refusal (small 1 0 []) (1 ∷ []) (1 ∷ []) 1 1 8; expected = none }
    ∷ record { given = level_refusal (0 ∷ []) [] [] 0 0; expected = plain 1 }
    ∷ record { given = level_refusal W six five 0 54; expected = plain 9 }
    ∷ record { given = level_refusal W six six 0 53; expected = plain 9 }
    ∷ record { given = level_refusal W six (2 ∷ five) 0 54; expected = plain 11 }
    ∷ record { given = level_refusal W six six 0 54; expected = plain 12 }
    ∷ record { given = level_refusal W six six 1 54; expected = none }
    ∷ record { given = equal_level_refusal (0 ∷ []) [] [] 0; expected = plain 1 }
    ∷ record { given = equal_level_refusal W five six 54; expected = plain 9 }
    ∷ record { given = equal_level_refusal W six six 53; expected = plain 9 }
    ∷ record { given = equal_level_refusal W (2 ∷ five) six 54; expected = plain 11 }
    ∷ record { given = equal_level_refusal W six six 54; expected = none }
    ∷ record { given = layers_refusal (0 ∷ []) [] [] 0 0; expected = plain 1 }
    ∷ record { given = layers_refusal W six five 8 54; expected = plain 9 }
    ∷ record { given = layers_refusal W six six 7 54; expected = plain 9 }
    ∷ record { given = layers_refusal W (2 ∷ five) six 8 53; expected = plain 9 }
    ∷ record { given = layers_refusal W (2 ∷ five) six 8 54; expected = plain 11 }
    ∷ record { given = layers_refusal (small 1 0 []) (1 ∷ []) (1 ∷ []) 0 7; expected = plain 9 }
    ∷ record { given = layers_refusal (small 1 0 []) (1 ∷ []) (1 ∷ []) 0 8; expected = none }
    ∷ record { given = layers_refusal W six six 8 54; expected = none }
    ∷ record { given = harmonic_refusal (0 ∷ []) 0 0 0; expected = plain 1 }
    ∷ record { given = harmonic_refusal W 5 6 54; expected = plain 9 }
    ∷ record { given = harmonic_refusal W 6 5 54; expected = plain 9 }
    ∷ record { given = harmonic_refusal W 6 6 53; expected = plain 9 }
    ∷ record { given = harmonic_refusal W 6 6 54; expected = none }
    ∷ record { given = write_refusal (0 ∷ []) 0; expected = plain 1 }
    ∷ record { given = write_refusal W 40; expected = plain 9 }
    ∷ record { given = write_refusal W 41; expected = none }
    ∷ record { given = write_refusal mixed_w 40; expected = at 15 1 }
    ∷ record { given = core_refusal mixed_w [] [] 0 0 0; expected = at 15 1 }
    ∷ record { given = order_refusal (small 1 2 (links ((0, 0) ∷ (0, 0) ∷ []))) 0; expected = at 8 1 }
    ∷ record { given = order_refusal mixed_w 40; expected = plain 9 }
    ∷ record { given = order_refusal mixed_w 41; expected = none }
    ∷ record { given = order_refusal (0x56 ∷ 0x43 ∷ 0x48 ∷ 2 ∷ 0 ∷ 0 ∷ 0 ∷ 0 ∷ 0 ∷ []) 9; expected = plain 3 }
    ∷ record { given = order_refusal (small2 2 2 (kinded ((1, 0, 9) ∷ (0, 1, 0) ∷ []))) 0; expected = plain 3 }
    ∷ record { given = write_refusal (small2 2 2 (kinded ((0, 1, 7) ∷ (1, 0, 0) ∷ []))) 18; expected = plain 9 }
    ∷ record { given = write_refusal (small2 2 2 (kinded ((0, 1, 7) ∷ (1, 0, 0) ∷ []))) 19; expected = none }
    ∷ record { given = index_refusal [] 1 0 0 0; expected = plain 9 }
    ∷ record { given = index_refusal [] 1 0 1 0; expected = none }
    ∷ record { given = core_refusal [] [] [] 0 0 1; expected = plain 9 }
    ∷ record { given = core_refusal [] [] [] 0 0 2; expected = none }
    ∷ record { given = layers_refusal [] [] [] 0 1; expected = plain 9 }
    ∷ record { given = layers_refusal [] [] [] 0 2; expected = none }
    ∷ record { given = harmonic_refusal [] 0 0 1; expected = plain 9 }
    ∷ record { given = harmonic_refusal [] 0 0 2; expected = none }
    ∷ record { given = write_refusal [] 8; expected = plain 9 }
    ∷ record { given = write_refusal [] 9; expected = none }
    ∷ record { given = order_refusal [] 8; expected = plain 9 }
    ∷ record { given = order_refusal [] 9; expected = none }
    ∷ []

-- each gives what it is to
pub call-refusals : map (λ c. numbers c.given) calls ≡ map (λ c. c.expected) calls
unfolding first any_order version_of stride kind_at file_refusal index_refusal row_refusal count_refusal core_refusal level_refusal equal_level_refusal layers_refusal harmonic_refusal out_refusal
call-refusals = refl
