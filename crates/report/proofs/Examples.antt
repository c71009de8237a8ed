-- Texts written out: 01's own output for network W, 02's for a quiet month, and what their words leave to the definitions.
use Prim.Native.Nat.{ℕ}
use Prim.Native.String.{String}
use mathlib.Core.List.{List, [], ◌∷◌, map}
use mathlib.Core.Path.{◌≡◌, refl}
use Rattle.graph.specs.Range.{flat}
use Rattle.network.specs.declared.Refusal.TheVariants.{Short, Repeat, End}
use Rattle.report.specs.Text.{ascii, digits_within, decimal, label, link_text, refusal_text, labels_text, numbers_text, group_text, report_text}

-- a text by its definition, and as it is printed
pub record Example : Type 0 where
  pub text : List ℕ
  pub printed : String

-- the report of W, that of a quiet month, a member of four digits, and refusals
abbrev pub examples : List Example
examples =
    record {
      text = report_text
          (record { x = 2; y = 3; equal = 2; edges = 6; sources = 3; targets = 2 })
          (1 ∷ 1 ∷ 1 ∷ 0 ∷ 0 ∷ 0 ∷ [])
          (0 ∷ 0 ∷ 0 ∷ 1 ∷ 1 ∷ 0 ∷ [])
          6;
      printed = "x 2 y 3 equal 2\nlinks 6 vouchers 3 vouched 2\nS 0 1 2\nT 3 4\n";
    }
    ∷ record {
      text = report_text (record { x = 0; y = 0; equal = 0; edges = 0; sources = 0; targets = 0 }) (0 ∷ 0 ∷ []) (0 ∷ 0 ∷ []) 2;
      printed = "x 0 y 0 equal 0\nlinks 0 vouchers 0 vouched 0\nS\nT\n";
    }
    ∷ record { text = label (ascii "T") 2047; printed = "T 2047" }
    ∷ record { text = refusal_text Short; printed = "refused 1\n" }
    ∷ record { text = refusal_text (Repeat 2); printed = "refused 8 at 2\n" }
    ∷ record { text = refusal_text (End 0); printed = "refused 7 at 0\n" }
    ∷ []

-- each text is what is printed
pub example-texts : map (λ e. e.text) examples ≡ map (λ e. ascii e.printed) examples
unfolding flat digits_within decimal link_text refusal_text labels_text numbers_text group_text report_text
example-texts = refl
