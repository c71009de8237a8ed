-- `look` looks at one edge after the other. The invariant: of those before edge e it is known whether they ascend, and none has a greater target or a
-- greater kind than those kept.
use Rattle.std.proofs.Common.{◌≡◌, ℕ, suc, ◌-◌, ◌<◌, ◌≤◌, true}
use Rattle.graph.specs.Order.{ascends}
use Rattle.graph.specs.Sorting.{key_of}
use Rattle.network.specs.File.{kind_at, graph_of}
use Rattle.checking.proofs.checks.look.Given as goal

abbrev pub invariant-loop-e : goal.invariant-loop-e
invariant-loop-e g l =
    let graph = graph_of l.file.bytes.now in
    record {
      before : l.before ≡ key_of graph (l.e - 1);
      target_fits : graph.target (l.e - 1) < 65536;
      ascending : l.ascending ≡ true → (d : ℕ) → suc d < l.e → ascends graph d (suc d) ≡ true;
      target : (d : ℕ) → d < l.e → graph.target d ≤ l.target;
      kind : (d : ℕ) → d < l.e → kind_at l.file.bytes.now d ≤ l.kind;
    }
