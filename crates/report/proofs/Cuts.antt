-- The texts of groups go by the bytes of their members: of a longer table as many bytes as there are members can stand in its place.
use Prim.Native.Nat.{ℕ}
use mathlib.Core.List.{List}
use mathlib.Core.Path.{◌≡◌}
use lib.ListN.{take}
use lib.Seq.{get_or-take}
use Rattle.graph.proofs.Ranges.{flat-ext}
use Rattle.report.specs.declared.Numbers.{Numbers}
use Rattle.report.specs.Text.{members_text, group_text, report_text}

-- the members below n,
members-cut : (group : List ℕ) (n : ℕ) → members_text (take n group) n ≡ members_text group n
members-cut group n = flat-ext n (λ u l. rw (get_or-take n group u 0 l))

-- so the report
pub report-cut : (k : Numbers) (s t : List ℕ) (n : ℕ) → report_text k (take n s) (take n t) n ≡ report_text k s t n
unfolding report_text group_text
report-cut k s t n = rw (members-cut s n, members-cut t n)
