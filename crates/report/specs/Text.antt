-- 01, "The report program": the text that it prints, byte for byte.
use Prim.Native.Char.{code}
use Rattle.std.specs.Prelude.{ℕ, zero, suc, ◌+◌, ◌/◌, ◌%◌, ◌≤◌, cond, List, [], ◌∷◌, ◌++◌, ◌≡◌, Option, None, Some, ltb, length, drop}
use Prim.Native.String.{String, [] as []ᵗ, ◌∷◌ as ◌∷ᵗ◌}
use Rattle.graph.specs.Range.{flat}
use Rattle.network.specs.declared.Refusal.{Refusal}
use Rattle.network.specs.File.{number_of, link_of}
use Rattle.network.specs.Groups.{group_of}
use Rattle.report.specs.declared.Numbers.{Numbers}

-- the bytes of a text in ASCII
abbrev pub ascii : String → List ℕ
ascii []ᵗ = []
ascii (c ∷ᵗ text) = code c ∷ ascii text

-- a digit
abbrev pub digit_text : ℕ → List ℕ
digit_text d = (code "0" + d) ∷ []

-- the digits of n with no zeros in front, or the last of them where n has more than `most`
unfoldable pub digits_within : ℕ → ℕ → List ℕ
digits_within zero n = []
digits_within (suc most) n = cond (ltb n 10) [] (digits_within most (n / 10)) ++ digit_text (n % 10)

-- a number in decimal; n never has more than n + 1 digits
unfoldable pub decimal : ℕ → List ℕ
decimal n = digits_within (suc n) n

-- a number with one space before it
abbrev pub spaced : ℕ → List ℕ
spaced n = ascii " " ++ decimal n

-- a word, one space and a number
abbrev pub label : List ℕ → ℕ → List ℕ
label word n = word ++ spaced n

-- the end of a line
abbrev pub newline : List ℕ
newline = ascii "\n"

-- 01: the link of a refusal that names one
unfoldable pub link_text : Option ℕ → List ℕ
link_text None = []
link_text (Some e) = label (ascii " at") e

-- 01: the line of a refusal
unfoldable pub refusal_text : Refusal → List ℕ
refusal_text r = label (ascii "refused") (number_of r) ++ link_text (link_of r) ++ newline

-- a line of three labels; the space between two comes with the second's word
unfoldable pub labels_text : List ℕ → ℕ → List ℕ → ℕ → List ℕ → ℕ → List ℕ
labels_text first a second b third c = label first a ++ label second b ++ label third c ++ newline

-- 01: the first line, x, y and equal level, and the second, E, |S| and |T|
unfoldable pub numbers_text : Numbers → List ℕ
numbers_text k =
    labels_text (ascii "x") k.x (ascii " y") k.y (ascii " equal") k.equal
    ++ labels_text (ascii "links") k.edges (ascii " vouchers") k.sources (ascii " vouched") k.targets

-- u where the byte of u is 1, and nothing where it is not
abbrev pub member_text : List ℕ → ℕ → List ℕ
member_text group u = cond (group_of group u) (spaced u) []

-- 01: the members below n, ascending
abbrev pub members_text : List ℕ → ℕ → List ℕ
members_text group = flat (member_text group)

-- 01: the line of a group; 02, wish 3: its letter alone where it is empty
unfoldable pub group_text : List ℕ → List ℕ → ℕ → List ℕ
group_text letter group n = letter ++ members_text group n ++ newline

-- 01: the four lines, from the numbers and the two groups' bytes
unfoldable pub report_text : Numbers → List ℕ → List ℕ → ℕ → List ℕ
report_text k s t n = numbers_text k ++ group_text (ascii "S") s n ++ group_text (ascii "T") t n

-- no refusal's line is longer: two numbers of five digits
abbrev pub longest_refusal : ℕ
longest_refusal = 23

-- nor any report of up to 2,048 members: six numbers of 20 digits, and each member, of four, in both groups
abbrev pub longest_report : ℕ
longest_report = 20643

-- `after` is the buffer `before` with the text at its start and all else as it was, and r is the length of the text
pub record Begins (before text after : List ℕ) (r : ℕ) : Type 0 where
  pub laid : after ≡ text ++ drop (length text) before
  pub size : r ≡ length text
  -- so r counts bytes of the buffer: for a caller that writes them out
  pub counts : r ≤ length after

-- a text of which this holds stands at the start of the buffer, and r is its length
pub record Rendered (holds : List ℕ → Type 0) (before after : List ℕ) (r : ℕ) : Type 0 where
  pub text : List ℕ
  pub told : holds text
  pub begins : Begins before text after r
