-- An answer taken apart, as each struct for C is filled.
use Rattle.std.specs.Prelude.{ℕ, Result, Ok, Err, unwrap_or}
use Rattle.network.specs.declared.Refusal.{Refusal}
use Rattle.network.specs.File.{number_of, link_of}

-- the refusal's number, its link's and the values, and zeros for what an answer does not tell
abbrev pub parts : {Value : Type 0} → Result Value Refusal → Value → ℕ × ℕ × Value
parts (Ok v) zeros = (0, 0, v)
parts (Err r) zeros = (number_of r, unwrap_or (link_of r) 0, zeros)
