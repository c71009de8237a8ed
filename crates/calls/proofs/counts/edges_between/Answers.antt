use Rattle.std.proofs.Common.{◌≡◌, ℕ, List, ◌+◌, ◌*◌, ◌&&◌, sym, ◌∙◌, arith}
use mir.Val.{bool_byte}
use Rattle.graph.specs.Range.{sum}
use Rattle.graph.proofs.Sums.{sum-empty, sum-next}
use Rattle.network.specs.File.{kind_at, graph_of}
use Rattle.network.specs.Groups.{group_of}
use Rattle.network.proofs.Versions.{weights-most}
use Rattle.calls.proofs.Counted.{weighs, weight-taken}
use Rattle.calls.proofs.counts.edges_between.Goals as goal

-- one edge more
more : (f s t : List ℕ) (e u v w total one : ℕ) → u ≡ (graph_of f).source e → v ≡ (graph_of f).target e → w ≡ (graph_of f).weight e → one ≡ bool_byte (group_of s u && group_of t v)
    → total ≡ sum (weighs (graph_of f) (group_of s) (group_of t)) e → total + w * one ≡ sum (weighs (graph_of f) (group_of s) (group_of t)) (e + 1)
more f s t e u v w total one p q r i h =
    let g = graph_of f in
    let S = group_of s in
    let T = group_of t in
    rw (h, r, i, p, q, weight-taken (S (g.source e) && T (g.target e)) (g.weight e)) (sym (sum-next (weighs g S T) e))

pub loop-e-init : goal.loop-e-init
loop-e-init c = sym (sum-empty _)

pub overflow_add-total : goal.overflow_add-total
overflow_add-total c =
    let f = c.args.file.now.bytes.now in
    let g = graph_of f in
    omega (
      arith,
      more f c.args.s.now c.args.t.now c.loop-e.e _ _ _ _ _ c.end_at-source.ensures.0 c.end_at-target.ensures.0 (c.from-weight.ensures ∙ c.weight_at.ensures.0) c.from.ensures c.loop-e.invariant,
      c.size_of-size.ensures,
      c.args.file.now.accepted.sound.header.size-most,
      weights-most (kind_at f) (λ d. group_of c.args.s.now (g.source d) && group_of c.args.t.now (g.target d)) (c.loop-e.e + 1),
    )

pub loop-e-preserved : goal.loop-e-preserved
loop-e-preserved c =
    more c.args.file.now.bytes.now c.args.s.now c.args.t.now c.loop-e.e _ _ _ _ _ c.end_at-source.ensures.0 c.end_at-target.ensures.0 (c.from-weight.ensures ∙ c.weight_at.ensures.0) c.from.ensures c.loop-e.invariant
