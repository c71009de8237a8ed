-- Each link is laid as its two ends.
use Rattle.std.proofs.Common.{◌∙◌}
use Rattle.network.specs.File.{stride}
use Rattle.network.proofs.Versions.{link-length}
use Rattle.network.proofs.Puts.{sets-runs}
use Rattle.journal.specs.Listed.{table_graph, pair_bytes}
use Rattle.journal.proofs.writes.put_links.Goals as goal

pub loop-i-preserved : goal.loop-i-preserved
loop-i-preserved c =
    let set = c.args.set.now in
    c.put_link.ensures
    ∙ rw (c.link_at.ensures, c.stride-bytes.ensures.0, c.loop-i.invariant)
    (sets-runs (pair_bytes set) (stride 1) (link-length 1 (λ e. 0) (table_graph 0 set)) c.args.out.now c.loop-i.i)
