-- The layers call: when it is refused, and what it has done where it is not.
use Prim.Native.Nat.{ℕ, ◌<◌, ◌≤◌}
use mathlib.Core.Bool.{◌||◌, or-true, or-false}
use mathlib.Core.List.{List, ◌++◌}
use mathlib.Core.Path.{◌≡◌, sym, ◌∙◌}
use native.Mathlib.Omega.{arith}
use borrow.Author.Tests.{lt-ltb, le-ltb, ltb-false}
use lib.Dec.{ltb}
use lib.ListN.{length, drop, get_or-append}
use Rattle.graph.specs.Layers.{LayeringInside, Layering}
use Rattle.graph.specs.Shapes.{Closed}
use Rattle.graph.specs.Within.{within}
use Rattle.graph.proofs.Stores.{length-past, drop_past}
use Rattle.graph.proofs.Layering.{layering-same}
use Rattle.graph.proofs.Within.{closed-within}
use Rattle.graph.proofs.Inside.{layering-within, layering-inside-edges}
use Rattle.graph.proofs.Groups.{layering-groups}
use Rattle.std.specs.Prelude.{None, Some}
use Rattle.network.specs.declared.Refusal.TheVariants.{Table}
use Rattle.network.specs.File.{graph_of}
use Rattle.network.specs.Groups.{group_of}
use Rattle.network.specs.Refusals.{short_groups, work_length, layers_refusal}
use Rattle.network.specs.Accepted.{Accepted}
use Rattle.network.proofs.Accepted.{cond-none, or-fails, accepted, accepted-or_else}
use Rattle.network.proofs.Groups.{among}
use Rattle.network.proofs.Answers.{or_else-second}
use Rattle.cores.specs.Entries.{later_refusal}
use Rattle.cores.proofs.WayIn.{no-groups}
use Rattle.layering.specs.Calls.{layer_in, LayersTold}

-- the file is accepted, and A, B and both tables are long enough
pub record Enough (f a b : List ℕ) (l w : ℕ) : Type 0 where
  pub accepted : Accepted f
  pub a-long : (graph_of f).order ≤ length a
  pub b-long : (graph_of f).order ≤ length b
  pub layers : (graph_of f).size ≤ l
  pub work : work_length (graph_of f).order (graph_of f).size ≤ w

module _ (f a b : List ℕ) (l w : ℕ) where
  -- where none is given, all is as it has to be
  pub layers_ready : layers_refusal f a b l w ≡ None → Enough f a b l w
  unfolding layers_refusal
  layers_ready e =
      let g = graph_of f in
      let (accept, i) = (accepted-or_else f _).0 e in
      let (c, j) = (cond-none _ Table _).0 i in
      let (d, w-long) = (or-fails (short_groups g.order a b || ltb l g.size) (ltb w (work_length g.order g.size))).0 c in
      let (h, l-long) = (or-fails (short_groups g.order a b) (ltb l g.size)).0 d in
      let (a-long, b-long) = (or-fails (ltb (length a) g.order) (ltb (length b) g.order)).0 h in
      record { accepted = accept; a-long = ltb-false _ _ a-long; b-long = ltb-false _ _ b-long; layers = ltb-false _ _ l-long; work = ltb-false _ _ w-long }

  module _ (h : Accepted f) where
    -- then 9 for a short layer table,
    pub layers-short : l < (graph_of f).size → layers_refusal f a b l w ≡ Some Table
    unfolding layers_refusal
    layers-short k = or_else-second _ ((accepted f).1 h) ∙ rw (lt-ltb l (graph_of f).size k, or-true)

    -- else what comes later on the way into every call on cores
    pub layers-later : (graph_of f).size ≤ l → layers_refusal f a b l w ≡ later_refusal None (graph_of f).order (graph_of f).size a b w w w
    unfolding later_refusal layers_refusal
    layers-later k =
        let g = graph_of f in
        or_else-second _ ((accepted f).1 h) ∙ rw (le-ltb l g.size k, or-false, no-groups g.order g.size w (short_groups g.order a b))

-- layers of the links from A to B in the first m entries of the one table, made in the entries of the other that are needed, are what the call
-- promises
pub layers-told : (f a b t p w q : List ℕ) {n k K : ℕ} → Closed (graph_of f) → n ≡ (graph_of f).size → k ≡ work_length (graph_of f).order (graph_of f).size
    → (n ≤ length t) × (k ≤ length w) → (length p ≡ n) × (length q ≡ k) → Layering (within (graph_of f) (group_of a) (group_of b)) (layer_in p) K
    → LayersTold f a b t (p ++ drop n t) w (q ++ drop k w) K
layers-told f a b t p w q {n} {k} {K} c i j (t-long, w-long) (d, e) h =
    record {
      layering = among (graph_of f) a b (λ A B u v. layering-groups c u v inside);
      links = layering-inside-edges c (group_of a) (group_of b) inside;
      same_length = length-past p t n d t-long;
      past = drop_past p t n (graph_of f).size d (omega arith);
      work = (length-past q w k e w-long, drop_past q w k (work_length (graph_of f).order (graph_of f).size) e (omega arith));
    }
  where
    same : (e : ℕ) → e < (graph_of f).size → layer_in p e ≡ layer_in (p ++ drop n t) e
    same e l = sym (get_or-append p (drop n t) 0 e (omega arith))

    inside : LayeringInside (graph_of f) (group_of a) (group_of b) (layer_in (p ++ drop n t)) K
    inside = (layering-within c (group_of a) (group_of b)).0 (layering-same (closed-within c (group_of a) (group_of b)) same h)
