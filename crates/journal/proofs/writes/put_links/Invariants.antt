-- `put_links` writes the links in order. The invariant: the first i are written.
use Rattle.std.proofs.Common.{◌≡◌}
use Rattle.std.proofs.lemmas.List.Edits.{sets}
use Rattle.graph.specs.Range.{flat}
use Rattle.journal.specs.Listed.{pair_bytes}
use Rattle.journal.proofs.writes.put_links.Given as goal

abbrev pub invariant-loop-i : goal.invariant-loop-i
invariant-loop-i l = l.out ≡ sets l.initial.out 9 (flat (pair_bytes l.set) l.i)
