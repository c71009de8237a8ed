-- `greatest_source` looks at one edge after the other. The invariant: none of those before edge e has a greater key than the one kept.
use Rattle.std.proofs.Common.{ℕ, ◌<◌, ◌≤◌}
use Rattle.graph.specs.Sorting.{key_of}
use Rattle.network.specs.File.{graph_of}
use Rattle.checking.proofs.checks.greatest_source.Given as goal

abbrev pub invariant-loop-e : goal.invariant-loop-e
invariant-loop-e g l = (d : ℕ) → d < l.e → key_of (graph_of l.file.bytes.now) d ≤ l.most
