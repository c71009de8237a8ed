-- What every public call promises: it is refused and has changed nothing, or it answers and has done its work.
use Rattle.std.specs.Prelude.{ℕ, List, ◌≡◌, Option, None, Some, Result, Ok, Err}
use Rattle.network.specs.declared.Refusal.{Refusal}

-- A call, by the refusal that 01 gives for its input, the lent tables before and after, what it has done where it is accepted, and its answer.
pub data Call {Value : Type 0} (refusal : Option Refusal) (before after : List (List ℕ)) (done : Value → Type 0) (answer : Result Value Refusal) : Type 0 where
  -- it is refused: the answer is the refusal, and every table is unchanged
  refused : (r : Refusal) → refusal ≡ Some r → answer ≡ Err r → after ≡ before → Call refusal before after done answer
  -- there is no refusal: the answer is the values, and of these holds what the call does
  accepted : (values : Value) → refusal ≡ None → answer ≡ Ok values → done values → Call refusal before after done answer
