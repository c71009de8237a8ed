-- A row that is not refused.
use Rattle.std.specs.Prelude.{ℕ, ◌+◌, ◌<◌, ◌≤◌, List, length, get_or}

-- u has a start and a next start, and the row between them lies in the rows table
pub record Row (starts rows : List ℕ) (u : ℕ) : Type 0 where
  pub next : u + 1 < length starts
  pub ascending : get_or starts u 0 ≤ get_or starts (u + 1) 0
  pub inside : get_or starts (u + 1) 0 ≤ length rows
