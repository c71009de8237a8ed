-- What the calls for C promise: each is a public call of the library, and its struct holds 01's numbers of the answer.
use Rattle.std.specs.Prelude.{ℕ, ◌+◌, ◌-◌, Bool, false, cond, List, ◌≢◌, ◌≡◌, ⊤, None, Result, Ok, Err, unwrap_or, get_or}
use Rattle.network.specs.declared.Side.{Side}
use Rattle.network.specs.declared.Side.TheVariants.{Source, Target}
use Rattle.network.specs.declared.Refusal.{Refusal}
use Rattle.network.specs.declared.Extent.{Extent}
use Rattle.network.specs.declared.Totals.{Totals}
use Rattle.searching.specs.declared.Ring.{Ring}
use Rattle.merging.specs.declared.CommonTotals.{CommonTotals}
use Rattle.network.specs.File.{number_of, link_of, number_told}
use Rattle.network.specs.Refusals.{row_refusal}
use Rattle.cogsplice_c.specs.declared.CheckNumbers.{CheckNumbers}
use Rattle.cogsplice_c.specs.declared.TotalsNumbers.{TotalsNumbers}
use Rattle.cogsplice_c.specs.declared.WriteNumbers.{WriteNumbers}
use Rattle.cogsplice_c.specs.declared.IndexNumbers.{IndexNumbers}
use Rattle.cogsplice_c.specs.declared.RowNumbers.{RowNumbers}
use Rattle.cogsplice_c.specs.declared.LevelNumbers.{LevelNumbers}
use Rattle.cogsplice_c.specs.declared.FindingNumbers.{FindingNumbers}
use Rattle.cogsplice_c.specs.declared.LayersNumbers.{LayersNumbers}
use Rattle.cogsplice_c.specs.declared.EqualNumbers.{EqualNumbers}
use Rattle.cogsplice_c.specs.declared.CommonNumbers.{CommonNumbers}

-- the struct holds the numbers of an answer that keeps the promise of the call
pub record Told {Answer Struct : Type 0} (call : Answer → Type 0) (numbers : Answer → Struct) (given : Struct) : Type 0 where
  pub answer : Answer
  pub kept : call answer
  pub same : given ≡ numbers answer

-- 01's numbers of each answer: the values and no refusal, or the refusal, its link and zeros. Of the check,
abbrev pub check_numbers : Result Extent Refusal → CheckNumbers
check_numbers (Ok e) = record { refusal = 0; link = 0; n = e.order; m = e.size }
check_numbers (Err r) = record { refusal = number_of r; link = unwrap_or (link_of r) 0; n = 0; m = 0 }

-- of the count, of the core and of the harmonic finder,
abbrev pub totals_numbers : Result Totals Refusal → TotalsNumbers
totals_numbers (Ok c) = record { refusal = 0; link = 0; edges = c.edges; sources = c.sources; targets = c.targets }
totals_numbers (Err r) = record { refusal = number_of r; link = unwrap_or (link_of r) 0; edges = 0; sources = 0; targets = 0 }

-- of the calls that write a file, the journal too,
abbrev pub write_numbers : Result ℕ Refusal → WriteNumbers
write_numbers (Ok m) = record { refusal = 0; link = 0; m = m }
write_numbers (Err r) = record { refusal = number_of r; link = unwrap_or (link_of r) 0; m = 0 }

-- of the index,
abbrev pub index_numbers : Result ⊤ Refusal → IndexNumbers
index_numbers (Ok v) = record { refusal = 0; link = 0 }
index_numbers (Err r) = record { refusal = number_of r; link = unwrap_or (link_of r) 0 }

-- of the three level calls,
abbrev pub level_numbers : Result ℕ Refusal → LevelNumbers
level_numbers (Ok k) = record { refusal = 0; link = 0; level = k }
level_numbers (Err r) = record { refusal = number_of r; link = unwrap_or (link_of r) 0; level = 0 }

-- of the finding,
abbrev pub finding_numbers : Result Ring Refusal → FindingNumbers
finding_numbers (Ok r) =
    let c = r.totals in
    record { refusal = 0; link = 0; edges = c.edges; x = r.x; y = r.y; equal = r.equal; sources = c.sources; targets = c.targets }
finding_numbers (Err r) =
    record { refusal = number_of r; link = unwrap_or (link_of r) 0; edges = 0; x = 0; y = 0; equal = 0; sources = 0; targets = 0 }

-- of the layers,
abbrev pub layers_numbers : Result ℕ Refusal → LayersNumbers
layers_numbers (Ok k) = record { refusal = 0; link = 0; layers = k }
layers_numbers (Err r) = record { refusal = number_of r; link = unwrap_or (link_of r) 0; layers = 0 }

-- of the comparison of two findings, whose refusals name no link,
abbrev pub equal_numbers : Result Bool Refusal → EqualNumbers
equal_numbers (Ok b) = record { refusal = 0; equal = b }
equal_numbers (Err r) = record { refusal = number_of r; equal = false }

-- and of the links in both of two files
abbrev pub common_numbers : Result CommonTotals Refusal → CommonNumbers
common_numbers (Ok c) = record { refusal = 0; link = 0; both = c.both; first_only = c.first_only; second_only = c.second_only }
common_numbers (Err r) = record { refusal = number_of r; link = unwrap_or (link_of r) 0; both = 0; first_only = 0; second_only = 0 }

-- the side that a C program names
abbrev pub side_of : Bool → Side
side_of vouched = cond vouched Target Source

-- a row as a part of the rows table: where it starts and its length, or the refusal and zeros
pub record PartOf (starts rows : List ℕ) (u : ℕ) (r : RowNumbers) : Type 0 where
  pub refusal : r.refusal ≡ number_told (row_refusal starts rows u)
  pub refused : row_refusal starts rows u ≢ None → (r.start ≡ 0) × (r.length ≡ 0)
  pub start : row_refusal starts rows u ≡ None → r.start ≡ get_or starts u 0
  pub length : row_refusal starts rows u ≡ None → r.length ≡ get_or starts (u + 1) 0 - get_or starts u 0
