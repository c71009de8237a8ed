-- 02, wishes 3 and 5: a quiet month. What is found inside A and B in any network, whether a link goes from A to B or none does.
use Rattle.std.specs.Prelude.{ℕ, ◌≡◌}
use Rattle.graph.specs.Graph.{Graph, Group, everyone, card, edges}
use Rattle.graph.specs.Core.{FindingInside}

-- x and y are 0, and both groups are empty
pub record Nothing (g : Graph) (x y : ℕ) (S T : Group) : Type 0 where
  pub x-zero : x ≡ 0
  pub y-zero : y ≡ 0
  pub no_source : card g S ≡ 0
  pub no_target : card g T ≡ 0

-- what is found inside A and B
pub data OutcomeInside (g : Graph) (A B : Group) (x y : ℕ) (S T : Group) : Type 0 where
  -- the finding, which there is only where a link goes from A to B
  ring : FindingInside g A B x y S T → OutcomeInside g A B x y S T
  -- nothing, where no link goes from A to B
  quiet : edges g A B ≡ 0 → Nothing g x y S T → OutcomeInside g A B x y S T

-- what is found among everyone
abbrev pub Outcome : Graph → ℕ → ℕ → Group → Group → Type 0
Outcome g = OutcomeInside g everyone everyone
