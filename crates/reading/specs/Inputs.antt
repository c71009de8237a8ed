-- What was read lies within the buffer, and is what the reader had.
use Rattle.std.specs.Prelude.{ℕ, ◌<◌, ◌≤◌, List, Result, Ok, Err, length, take}
use Rattle.std.specs.Io.KnownBytes.{Consumes, IsAtEnd}
use Rattle.std.specs.declared.option.Option.{Option}
use Rattle.reading.specs.declared.Unreadable.{Unreadable}

-- k bytes stand at the start of the buffer: those that the reader gave, where they are known, and all that it had where the buffer is not full
pub record Filled (before after : Option (List ℕ)) (k : ℕ) (buffer : List ℕ) : Type 0 where
  pub within : k ≤ length buffer
  pub given : Consumes before after (take k buffer)
  pub whole : k < length buffer → IsAtEnd after

-- so many bytes stand at the start of the buffer
abbrev pub Fills : Option (List ℕ) → Option (List ℕ) → Result ℕ Unreadable → List ℕ → Type 0
Fills before after (Ok k) buffer = Filled before after k buffer
Fills before after (Err e) buffer = Unit {0}
