-- What a peel of a graph's rows leaves holds every settled set: where a side of it is empty, the core is. When the peel has run to its end no
-- place that is left is short, and they are the core. Its sizes are those of the core's two groups.
use Prim.Native.Nat.{ℕ, ◌+◌, ◌*◌, ◌<◌, ◌≤◌}
use mathlib.Core.Bool.{true, false}
use mathlib.Core.List.{List}
use mathlib.Core.Path.{◌≡◌, sym, ◌∙◌}
use native.Mathlib.Omega.{arith}
use Rattle.std.proofs.lemmas.Bool.Decides.{nat_tests}
use borrow.Author.Tests.{leb-true}
use lib.Dec.{leb}
use Rattle.graph.specs.Graph.{Graph, Group}
use Rattle.graph.specs.Shapes.{Closed}
use Rattle.graph.specs.Core.{Core, Nonempty}
use Rattle.graph.specs.Linkage.{degree, Settled, Surrounds}
use Rattle.graph.specs.Places.{targets}
use Rattle.graph.specs.Cover.{joined, need}
use Rattle.graph.proofs.Degrees.{card_mono}
use Rattle.graph.proofs.Links.{degree-links, surrounds-links}
use Rattle.graph.proofs.Cover.{surrounds-covers, settled-core, need-source, need-target}
use Rattle.peeling.specs.declared.Peel.{Peel}
use Rattle.peeling.specs.Peeling.{degree_of, between, left, Indexed, Peeling, emptied}

-- a side is empty by the test, or neither is
pub sides-some : (s : Peel) → emptied s ≡ false → (1 ≤ s.sources) × (1 ≤ s.targets)
sides-some s h = grind (arith, nat_tests)

-- where one is, not both have somebody
pub sides-none : (s : Peel) → emptied s ≡ true → ¬ ((1 ≤ s.sources) × (1 ≤ s.targets))
sides-none s h (p, q) = grind (arith, nat_tests)

module _ {g : Graph} (x y : ℕ) {m : ℕ} {w : List ℕ} {s : Peel} (c : Closed g) (i : Indexed g m w) (k : Peeling g.order m (need g.order x y) w s) where
  -- the places that are left
  abbrev rest : Group
  rest = left g.order m w s

  -- they are those with enough edges: x for a source
  pub left-source : (u : ℕ) → u < g.order → rest u ≡ leb x (degree_of g.order m w u)
  left-source u l = rw (need-source g.order x y l) at (k.queued.queue.short u (omega arith))

  -- and y for a target
  pub left-target : (v : ℕ) → v < g.order → rest (g.order + v) ≡ leb y (degree_of g.order m w (g.order + v))
  left-target v l = rw (need-target g.order x y v) at (k.queued.queue.short (g.order + v) (omega arith))

  -- they surround every settled set
  surrounds : Surrounds (joined g) (2 * g.order) (need g.order x y) rest
  surrounds = surrounds-links i.linked k.queued.queue.surrounds

  -- so where the core is not empty, somebody is left on both sides
  pub left_both : Nonempty g x y → (1 ≤ s.sources) × (1 ≤ s.targets)
  left_both h =
      let (p, q) = surrounds-covers c surrounds _ _ h.core.sources h.core.targets h.core.dense in
      (omega (arith, h.some, card_mono g p, k.queued.sizes.sources), omega (arith, h.other, card_mono g q, k.queued.sizes.targets))

  -- no place waits any more
  module _ (e : s.head ≡ s.tail) where
    -- then the table has their degrees among themselves
    pub finished-degree : (p : ℕ) → p < 2 * g.order → degree_of g.order m w p ≡ degree (joined g) (2 * g.order) rest p
    finished-degree p l = rw (← e) (k.degrees p l ∙ degree-links (between g.order w) (joined g) _ p (λ q b. i.linked p q l b))

    -- so they are settled
    settled : Settled (joined g) (2 * g.order) (need g.order x y) rest
    settled = record { enough = λ p l h. rw (← finished-degree p l) (leb-true _ _ (sym (k.queued.queue.short p l) ∙ h)) }

    -- and are the core
    pub finished-core : Core g x y rest (targets g rest)
    finished-core = settled-core c rest settled surrounds
