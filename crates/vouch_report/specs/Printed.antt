-- 01, "The report program": what is printed for an input, whatever it is.
use Rattle.std.specs.Prelude.{ℕ, List, ◌≡◌, None, Some}
use Rattle.graph.specs.Graph.{card, edges}
use Rattle.graph.specs.Core.{EqualLevel}
use Rattle.graph.specs.Quiet.{Outcome}
use Rattle.network.specs.declared.Refusal.{Refusal}
use Rattle.network.specs.File.{graph_of, file_refusal}
use Rattle.network.specs.Groups.{group_of}
use Rattle.report.specs.declared.Numbers.{Numbers}
use Rattle.report.specs.Text.{refusal_text, report_text}

-- the text is the report of what is found, of which there is only one, with the equal level, and E and the sizes of the groups
pub record Reports (f text : List ℕ) : Type 0 where
  pub numbers : Numbers
  pub s : List ℕ
  pub t : List ℕ
  pub outcome : Outcome (graph_of f) numbers.x numbers.y (group_of s) (group_of t)
  pub equal : EqualLevel (graph_of f) numbers.equal
  pub counted : (numbers.edges ≡ edges (graph_of f) (group_of s) (group_of t)) × (numbers.sources ≡ card (graph_of f) (group_of s)) × (numbers.targets ≡ card (graph_of f) (group_of t))
  pub same : text ≡ report_text numbers s t (graph_of f).order

-- the line of the refusal that the file gives, or the report
pub record Prints (f text : List ℕ) : Type 0 where
  pub refused : (r : Refusal) → file_refusal f ≡ Some r → text ≡ refusal_text r
  pub accepted : file_refusal f ≡ None → Reports f text
