-- A graph with one edge more: its links, and that no edge stands twice where this is so of the graph, which lacks that link.
use Prim.Native.Nat.{ℕ, ◌<◌}
use mathlib.Core.Logic.{inl, inr, ◌↔◌}
use mathlib.Core.Path.{◌≡◌}
use native.Mathlib.Omega.{arith}
use Rattle.std.proofs.lemmas.Bool.Decides.{nat_tests}
use Rattle.graph.specs.Graph.{Graph, Linked}
use Rattle.graph.specs.Shapes.{Closed, Simple}
use Rattle.graph.specs.Rises.{LinkedOr}
use Rattle.graph.specs.Adding.{add, Plain}
use Rattle.graph.proofs.Sums.{below_suc}

module _ (g : Graph) (u v : ℕ) where
  -- its links are those of the graph and the one from u to v,
  pub add-linked : (a b : ℕ) → Linked (add g u v) a b ↔ LinkedOr g u v a b
  add-linked a b = (read, laid)
    where
      read : Linked (add g u v) a b → LinkedOr g u v a b
      read (e, l, s, t) =
          below_suc l (λ i. inr (grind (arith, nat_tests), grind (arith, nat_tests))) (λ i. inl (e, i, grind (arith, nat_tests), grind (arith, nat_tests)))

      laid : LinkedOr g u v a b → Linked (add g u v) a b
      laid (inl (e, l, s, t)) = (e, omega arith, grind (arith, nat_tests), grind (arith, nat_tests))
      laid (inr (s, t)) = (g.size, omega arith, grind (arith, nat_tests), grind (arith, nat_tests))

  -- and it is plain where the graph is, which has no such link between its vertices
  pub add-plain : Plain g → u < g.order → v < g.order → ¬ Linked g u v → Plain (add g u v)
  add-plain p i j absent = record { closed = closed; simple = simple }
    where
      closed : Closed (add g u v)
      closed = record { source-below = λ e l. grind (arith, nat_tests); target_below = λ e l. grind (arith, nat_tests) }

      other : (e : ℕ) → e < g.size → g.source e ≡ u → g.target e ≡ v → ⊥
      other e l s t = absent (e, l, s, t)

      simple : Simple (add g u v)
      simple d e l m s t = grind (arith, nat_tests, other)
