use Rattle.std.proofs.Common.{◌≡◌, ℕ, List, suc, ◌<◌, ◌≤◌, ◌+◌, ◌-◌, ◌∙◌, length, drop, get_or, sym, ap, arith}
use Rattle.std.proofs.lemmas.Iterator.{window_more}
use Rattle.std.specs.Slice.Iter.{windows_rest}
use Rattle.graph.specs.Graph.{Graph}
use Rattle.graph.specs.Order.{edge_at}
use Rattle.graph.proofs.Order.{precedes-strict, edge_at-lt}
use Rattle.graph.proofs.Sorting.{sorted-nth}
use Rattle.checking.proofs.Repeats.{least-last, least-taken, least-kept}
use Rattle.network.specs.File.{graph_of}
use Rattle.checking.proofs.checks.least_repeat_by.Goals.{After-from-edge}
use Rattle.checking.proofs.checks.least_repeat_by.Given.{Over}
use Rattle.checking.proofs.checks.least_repeat_by.Goals as goal

-- the pair at hand, of which so many edges and then so many fewer are left: its edges are those of places i and i + 1 in the order
record Pair (g : Graph) (all rest rest' : List ℕ) (i before edge : ℕ) : Type 0 where
  inside : suc i < g.size
  first : before ≡ edge_at g i
  second : edge ≡ edge_at g (suc i)
  next : i + 2 ≡ length all - length rest' + 1
  short : length rest' ≤ length all
  left : rest' ≡ drop (length all - length rest') all

-- each pair is so
pair : (o : Over) (c : After-from-edge o) → let all = c.args.order.now in let rest = windows_rest c.loop-pair.pair-iterator in
    Pair (graph_of c.args.file.now.bytes.now) all rest (windows_rest c.next.new.self) (length all - length rest) c.from-before.result c.from-edge.result
pair o c =
    let all = c.args.order.now in
    let v = c.loop-pair.invariant in
    let i = length all - length (windows_rest c.loop-pair.pair-iterator) in
    let (fewer, left, some, reads) = window_more all c.loop-pair.pair-iterator c.next.new.self _ _ c.in-Some.is c.next.ensures.steps (omega arith) v.short v.left in
    let inside : suc i < (graph_of c.args.file.now.bytes.now).size = omega (arith, some, v.pairs, v.short, c.requires.length) in
    let entry = sorted-nth (precedes-strict (graph_of c.args.file.now.bytes.now)) c.requires.sorted in
    record {
      inside = inside;
      first = c.from-before.ensures ∙ reads 0 0 (omega (arith, v.pairs)) ∙ ap (λ k. get_or all k 0) (omega arith) ∙ entry i (omega arith);
      second = c.from-edge.ensures ∙ reads 1 0 (omega (arith, v.pairs)) ∙ ap (λ k. get_or all k 0) (omega arith) ∙ entry (suc i) inside;
      next = omega (arith, fewer, some, v.pairs, v.short);
      short = omega (arith, fewer, v.short);
      left = left;
    }

pub is_same-requires-clause-edges : goal.is_same-requires-clause-edges
is_same-requires-clause-edges o c =
    let g = graph_of c.args.file.now.bytes.now in
    let p = pair o (goal.at.is_same-requires-clause-edges o c).After-from-edge in
    let i = length (c.args.order.now) - length (windows_rest c.loop-pair.pair-iterator) in
    let inside : i < g.size = omega (arith, p.inside) in
    (omega (arith, p.first, inside, edge_at-lt g i inside), omega (arith, p.second, edge_at-lt g (suc i) p.inside))

pub loop-pair-preserved-then-is_same : goal.loop-pair-preserved-then-is_same
loop-pair-preserved-then-is_same o c =
    let p = pair o (goal.at.loop-pair-preserved-then-is_same o c).After-from-edge in
    record {
      pairs = c.next.ensures.steps.0 ∙ c.loop-pair.invariant.pairs;
      short = p.short;
      left = p.left;
      found = rw (← p.next, c.min-least.ensures) (least-taken _ _ _ _ _ p.inside p.first p.second (sym c.is_same.ensures ∙ c.if-is_same.true) c.loop-pair.invariant.found);
    }

pub loop-pair-preserved : goal.loop-pair-preserved
loop-pair-preserved o c =
    let p = pair o (goal.at.loop-pair-preserved o c).After-from-edge in
    record {
      pairs = c.next.ensures.steps.0 ∙ c.loop-pair.invariant.pairs;
      short = p.short;
      left = p.left;
      found = rw (← p.next) (least-kept _ _ _ _ _ p.first p.second (sym c.is_same.ensures ∙ c.if-is_same.false) c.loop-pair.invariant.found);
    }

pub returns : goal.returns
returns o c =
    let all = c.args.order.now in
    let rest = windows_rest c.loop-pair.pair-iterator in
    least-last (graph_of c.args.file.now.bytes.now) (length all - length rest + 1) c.loop-pair.least (omega (arith, c.in-None.ensures.steps.1.0, c.loop-pair.invariant.pairs, c.requires.length)) c.loop-pair.invariant.found
