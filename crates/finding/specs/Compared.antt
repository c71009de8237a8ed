-- Two tables, compared byte by byte; and the groups of two findings.
use Rattle.std.specs.Prelude.{ℕ, ◌<◌, ◌≤◌, true, List, ◌≡◌, Option, None, length, get_or}
use Rattle.network.specs.declared.Refusal.{Refusal}
use Rattle.network.specs.File.{most_members}
use Rattle.network.specs.Groups.{is_group}
use Rattle.network.specs.Refusals.{in_groups}
use Rattle.finding.specs.declared.compare.Groups.{Groups}
use Rattle.finding.specs.Equality.{SamePeople, equal_refusal}

-- as far as the shorter of two tables goes, each byte of both is 0 or 1
abbrev pub Bits : List ℕ → List ℕ → Type 0
Bits a b = (u : ℕ) → u < length a → u < length b → (get_or a u 0 ≤ 1) × (get_or b u 0 ≤ 1)

-- and the bytes are the same
abbrev pub Alike : List ℕ → List ℕ → Type 0
Alike a b = (u : ℕ) → u < length a → u < length b → get_or a u 0 ≡ get_or b u 0

-- the tables of a finding's groups have a byte for each member
pub record AreLong (g : Groups) : Type 0 where
  pub sources : g.n ≤ length g.s.now
  pub targets : g.n ≤ length g.t.now

-- the refusal of two findings, by their groups
abbrev pub refusal_of : Groups → Groups → Option Refusal
refusal_of one other = equal_refusal one.n one.s.now one.t.now other.n other.s.now other.t.now

-- what is left of it where each n and the lengths of the tables are as required: 11
abbrev pub group_refusal : Groups → Groups → Option Refusal
group_refusal one other = in_groups one.n one.s.now one.t.now (in_groups other.n other.s.now other.t.now None)

-- two findings have the same people, by their groups
abbrev pub SameIn : Groups → Groups → Type 0
SameIn one other = SamePeople one.n one.s.now one.t.now other.n other.s.now other.t.now

-- a finding that is not refused: its n and its groups are as required
pub record Fitting (n : ℕ) (s t : List ℕ) : Type 0 where
  pub most : n ≤ most_members
  pub s_long : n ≤ length s
  pub t_long : n ≤ length t
  pub s_group : is_group n s ≡ true
  pub t_group : is_group n t ≡ true
