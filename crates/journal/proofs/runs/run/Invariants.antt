-- `run` follows the entries in order. The invariant: the table and the tally hold the state after the first i entries, whose numbers stand at the
-- front of their table.
use Rattle.std.proofs.Common.{◌≡◌, ◌++◌, drop}
use Rattle.journal.specs.Entries.{members}
use Rattle.journal.specs.Journal.{after, numbers}
use Rattle.journal.specs.Tabled.{Tabled}
use Rattle.journal.proofs.runs.run.Given as goal

abbrev pub invariant-loop-i : goal.invariant-loop-i
invariant-loop-i l =
    record {
      tabled : Tabled (members l.journal) (after l.journal l.i) l.work l.tally;
      numbered : l.results ≡ numbers l.journal l.i ++ drop l.i l.initial.results;
    }
