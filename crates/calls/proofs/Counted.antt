-- The count call: the weights of edges added up, and each refusal under its condition.
use Prim.Native.Nat.{ℕ, ◌-◌, ◌*◌, ◌<◌, ◌≤◌}
use mathlib.Core.Bool.{Bool, true, false, ◌&&◌, or-true}
use mathlib.Core.List.{List}
use mathlib.Core.Path.{◌≡◌, ◌∙◌}
use native.Mathlib.Omega.{arith}
use borrow.Author.Tests.{lt-ltb, le-ltb}
use mir.Val.{bool_byte}
use lib.ListN.{length, take, length-take}
use Rattle.graph.specs.Range.{sum, if}
use Rattle.graph.specs.Graph as graph
use Rattle.graph.specs.Graph.{Graph, edges, card}
use Rattle.graph.specs.Shapes.{Same}
use Rattle.graph.proofs.Degrees.{edges-same, card-same}
use Rattle.std.specs.Prelude.{None, Some}
use Rattle.network.specs.declared.Refusal.TheVariants.{Table, Group}
use Rattle.network.specs.File.{graph_of}
use Rattle.network.specs.Accepted.{Accepted}
use Rattle.network.specs.Groups.{is_group, group_of, totals}
use Rattle.network.specs.Refusals.{count_refusal}
use Rattle.network.proofs.Accepted.{accepted}
use Rattle.network.proofs.Answers.{or_else-second}
use Rattle.network.proofs.Groups.{cut-same, totals-same}

-- what edge e adds to E(S,T)
abbrev pub weighs : Graph → graph.Group → graph.Group → ℕ → ℕ
weighs g S T e = if (S (g.source e) && T (g.target e)) (g.weight e)

-- a weight is taken whole or not at all by a product with a test
pub weight-taken : (b : Bool) (w : ℕ) → w * bool_byte b ≡ if b w
weight-taken true w = omega arith
weight-taken false w = omega arith

module _ (f s t : List ℕ) (a : Accepted f) where
  -- 9 for a short first group,
  pub count-short : length s < (graph_of f).order → count_refusal f s t ≡ Some Table
  unfolding count_refusal
  count-short l = or_else-second _ ((accepted f).1 a) ∙ rw (lt-ltb (length s) (graph_of f).order l)

  -- or a short second one
  pub count-short-other : length t < (graph_of f).order → count_refusal f s t ≡ Some Table
  unfolding count_refusal
  count-short-other l = or_else-second _ ((accepted f).1 a) ∙ rw (lt-ltb (length t) (graph_of f).order l, or-true)

  module _ (p : (graph_of f).order ≤ length s) (q : (graph_of f).order ≤ length t) where
    -- 11 for a byte of either,
    pub count-byte : (is_group (graph_of f).order s && is_group (graph_of f).order t) ≡ false → count_refusal f s t ≡ Some Group
    unfolding count_refusal
    count-byte b = or_else-second _ ((accepted f).1 a) ∙ rw (le-ltb (length s) (graph_of f).order p, le-ltb (length t) (graph_of f).order q, b)

    -- else none
    pub count_none : (is_group (graph_of f).order s && is_group (graph_of f).order t) ≡ true → count_refusal f s t ≡ None
    unfolding count_refusal
    count_none b = or_else-second _ ((accepted f).1 a) ∙ rw (le-ltb (length s) (graph_of f).order p, le-ltb (length t) (graph_of f).order q, b)

-- what is counted between two tables cut to n is what is counted between these
pub totals-cut : {f : List ℕ} → Accepted f → (n : ℕ) (s t : List ℕ) → n ≡ (graph_of f).order → n ≤ length s → n ≤ length t
    → {e i j : ℕ} → e ≡ edges (graph_of f) (group_of (take (n - 0) s)) (group_of (take (n - 0) t))
    → i ≡ sum (λ u. if (group_of (take (n - 0) s) u) 1) (length (take (n - 0) s))
    → j ≡ sum (λ u. if (group_of (take (n - 0) t) u) 1) (length (take (n - 0) t))
    → record { edges = e; sources = i; targets = j } ≡ totals (graph_of f) (group_of s) (group_of t)
totals-cut {f} a n s t is p q e i j = totals-same (e ∙ between) (i ∙ size s p) (j ∙ size t q)
  where
    g : Graph
    g = graph_of f

    same : (s : List ℕ) → Same g (group_of (take (n - 0) s)) (group_of s)
    same s = cut-same g (n - 0) s (omega arith)

    between : edges g (group_of (take (n - 0) s)) (group_of (take (n - 0) t)) ≡ edges g (group_of s) (group_of t)
    between = edges-same a.sound.closed (same s) (same t)

    size : (s : List ℕ) → n ≤ length s → sum (λ u. if (group_of (take (n - 0) s) u) 1) (length (take (n - 0) s)) ≡ card g (group_of s)
    size s l =
        let all : length (take (n - 0) s) ≡ g.order = omega (arith, length-take {A = ℕ}) in
        rw all (card-same g (same s))
