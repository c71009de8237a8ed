-- How long the texts can be, from the digits of their numbers and their fixed bytes: up to the bounds of the buffers.
use Prim.Native.Nat.{ℕ, zero, suc, ◌+◌, ◌*◌, ◌^◌, ◌<◌, ◌≤◌}
use mathlib.Core.Bool.{Bool, true, false, cond}
use mathlib.Core.List.{List, [], ◌++◌}
use mathlib.Core.Path.{◌≡◌}
use native.Mathlib.Decide.{dec_le}
use native.Mathlib.Omega.{arith}
use lib.ListN.{length, length-append}
use Rattle.graph.specs.Range.{flat}
use Rattle.std.specs.Prelude.{Option, None, Some, IfSome}
use Rattle.network.specs.Groups.{group_of}
use Rattle.report.specs.declared.Numbers.{Numbers}
use Rattle.report.specs.Text.{ascii, decimal, spaced, label, newline, link_text, labels_text, numbers_text, member_text, members_text, group_text, longest_refusal}
use Rattle.report.proofs.Decimal.{decimal-length}

-- a label with a number of 64 bits
label-longest : (word : List ℕ) (n : ℕ) → n < 2 ^ 64 → length (label word n) ≤ length word + 21
label-longest word n l = omega (arith, length-append word (spaced n), decimal-length n 19 (omega arith))

-- a line of three labels
pub labels_length : (first : List ℕ) (a : ℕ) (second : List ℕ) (b : ℕ) (third : List ℕ) (c : ℕ)
    → length (labels_text first a second b third c) ≡ length (label first a) + length (label second b) + length (label third c) + 1
unfolding labels_text
labels_length first a second b third c =
    omega (
      arith,
      length-append (label first a ++ label second b ++ label third c) newline,
      length-append (label first a ++ label second b) (label third c),
      length-append (label first a) (label second b),
    )

-- with numbers of 64 bits
labels-longest : (first : List ℕ) (a : ℕ) (second : List ℕ) (b : ℕ) (third : List ℕ) (c : ℕ) → a < 2 ^ 64 → b < 2 ^ 64 → c < 2 ^ 64
    → length (labels_text first a second b third c) ≤ 64 + length first + length second + length third
labels-longest first a second b third c h k l =
    omega (arith, labels_length first a second b third c, label-longest first a h, label-longest second b k, label-longest third c l)

-- a member below 10,000, if it is one
member-longest : (group : List ℕ) (u : ℕ) → u < 10000 → length (member_text group u) ≤ 5
member-longest group u l = go (group_of group u)
  where
    go : (b : Bool) → length (cond b (spaced u) []) ≤ 5
    go true = omega (arith, decimal-length u 3 l)
    go false = omega arith

-- the members below n
members-longest : (group : List ℕ) (n : ℕ) → n ≤ 10000 → length (members_text group n) ≤ 5 * n
unfolding flat
members-longest group zero l = omega arith
members-longest group (suc n) l =
    omega (arith, length-append (members_text group n) (member_text group n), members-longest group n (omega arith), member-longest group n (omega arith))

-- they are no fewer bytes than those below u
members-mono : (group : List ℕ) (u n : ℕ) → u ≤ n → length (members_text group u) ≤ length (members_text group n)
unfolding flat
members-mono group u zero l = let e : u ≡ 0 = omega arith in rw e (omega arith)
members-mono group u (suc n) l =
    elim (dec_le u n) [
      | yes h ↦ omega (arith, length-append (members_text group n) (member_text group n), members-mono group u n h)
      | no h ↦ let e : u ≡ suc n = omega arith in rw e (omega arith)
    ]

-- so where all have room each has, after those before it
pub member_room : (group : List ℕ) (u n : ℕ) → u < n → length (members_text group u) + length (member_text group u) ≤ length (members_text group n)
unfolding flat
member_room group u n l = omega (arith, length-append (members_text group u) (member_text group u), members-mono group (suc u) n l)

-- the line of a group
pub group_longest : (letter group : List ℕ) (n : ℕ) → n ≤ 10000 → length (group_text letter group n) ≤ length letter + 5 * n + 1
unfolding group_text
group_longest letter group n l = simp length-append (omega (arith, members-longest group n l))

-- the two lines of numbers
pub numbers_longest : (k : Numbers) → k.x < 2 ^ 64 → k.y < 2 ^ 64 → k.equal < 2 ^ 64 → k.edges < 2 ^ 64 → k.sources < 2 ^ 64 → k.targets < 2 ^ 64
    → length (numbers_text k) ≤ 159
unfolding numbers_text
numbers_longest k x y equal edges sources targets =
    simp length-append (omega (
      arith,
      labels-longest (ascii "x") k.x (ascii " y") k.y (ascii " equal") k.equal x y equal,
      labels-longest (ascii "links") k.edges (ascii " vouchers") k.sources (ascii " vouched") k.targets edges sources targets,
    ))

-- the link of a refusal
link-longest : (l : Option ℕ) → IfSome l (λ e. e < 2 ^ 16) → length (link_text l) ≤ 9
unfolding link_text
link-longest None h = omega arith
link-longest (Some e) h = omega (arith, decimal-length e 4 (omega arith))

-- its line: the word, the number, the link and the end
pub refusal_room : (k : ℕ) (l : Option ℕ) → k < 2 ^ 16 → IfSome l (λ e. e < 2 ^ 16) → 9 + length (decimal k) + length (link_text l) ≤ longest_refusal
refusal_room k l h i = omega (arith, decimal-length k 4 (omega arith), link-longest l i)
