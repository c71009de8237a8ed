-- 02, wish 7: what `vouch-order` writes for an input, whatever it is.
use Rattle.std.specs.Prelude.{ℕ, List, ◌≡◌, None, Some}
use Rattle.network.specs.declared.Refusal.{Refusal}
use Rattle.network.specs.File.{old_refusal}
use Rattle.network.specs.Bytes as bytes
use Rattle.calls.specs.Calls.{ReadAgain}
use Rattle.report.specs.Text.{refusal_text}

-- the line of the refusal that the old rule gives, or the file with its links in order, which is accepted and holds the same links
pub record Converts (f text : List ℕ) : Type 0 where
  pub refused : (r : Refusal) → old_refusal f ≡ Some r → text ≡ refusal_text r
  pub ordered : old_refusal f ≡ None → text ≡ bytes.ordered f
  pub again : old_refusal f ≡ None → ReadAgain f text
