-- The numbers of a file, each under its condition where no earlier one holds: 1 to 6, what is left when none of them does, and 15.
use Prim.Native.Nat.{ℕ, ◌<◌, ◌≤◌}
use mathlib.Core.Bool.{Bool, true, false, cond}
use mathlib.Core.List.{List, [], ◌∷◌}
use mathlib.Core.Logic.{◌≢◌}
use mathlib.Core.Path.{◌≡◌, refl, ◌∙◌}
use native.Mathlib.Omega.{arith}
use borrow.Author.Tests.{lt-ltb, le-ltb, lt-leb, le-leb, eq-eqb}
use lib.Dec.{ltb}
use lib.ListN.{length}
use Rattle.std.proofs.lemmas.Bool.Decides.{nat_tests}
use Rattle.graph.specs.Range.{first}
use Rattle.graph.specs.Graph.{Graph}
use Rattle.graph.specs.Shapes.{Closed}
use Rattle.std.specs.Prelude.{Some, None, Result, Ok, Err, IfErr}
use Rattle.network.specs.declared.Refusal.{Refusal}
use Rattle.network.specs.declared.Refusal.TheVariants.{Short, Mark, Version, Members, Links, Length, End, Repeat, Order, Kind}
use Rattle.network.specs.File.{most_members, most_links, version_of, graph_of, file_length, mark, marked, outside, unknown, repeat, any_order, file_refusal}
use Rattle.network.specs.Accepted.{Header, Sound, Distinct}
use Rattle.network.proofs.Descents.{descent-is}
use Rattle.network.proofs.Versions.{version-none}
use Rattle.network.proofs.Accepted.{outside-closed, unknown-kinds, repeat-simple, some_bytes, no_bytes, any-accepted}
use Rattle.network.proofs.Answers.{or_else-first, or_else-second}
use Rattle.graph.proofs.Ranges.{first-le}
use Rattle.checking.specs.Headers.{Known, Gives, FallsAt}

-- 1: too short
pub gives-1 : (latest : ℕ) (f : List ℕ) → 1 ≤ length f → length f < 9 → any_order latest f ≡ Some Short
unfolding any_order
gives-1 latest f l a = rw (some_bytes f l, lt-ltb (length f) 9 a)

module _ (latest : ℕ) (f : List ℕ) (long : 9 ≤ length f) where
  -- 2: another mark
  pub gives-2 : marked mark f ≡ false → any_order latest f ≡ Some Mark
  unfolding any_order
  gives-2 b = rw (some_bytes f (omega arith), le-ltb (length f) 9 long, b)

  module _ (is-marked : marked mark f ≡ true) where
    -- 3: another version, one before the first
    pub gives-3 : version_of f < 1 → any_order latest f ≡ Some Version
    unfolding any_order
    gives-3 b = rw (some_bytes f (omega arith), le-ltb (length f) 9 long, is-marked, lt-leb 1 (version_of f) b)

    module _ (least : 1 ≤ version_of f) where
      -- or one past the latest
      pub gives-3-later : latest < version_of f → any_order latest f ≡ Some Version
      unfolding any_order
      gives-3-later b = rw (some_bytes f (omega arith), le-ltb (length f) 9 long, is-marked, le-leb 1 (version_of f) least, lt-leb (version_of f) latest b)

      module _ (most : version_of f ≤ latest) where
        -- 4: too many vertices
        pub gives-4 : most_members < (graph_of f).order → any_order latest f ≡ Some Members
        unfolding any_order
        gives-4 b = rw (
          some_bytes f (omega arith),
          le-ltb (length f) 9 long,
          is-marked,
          le-leb 1 (version_of f) least,
          le-leb (version_of f) latest most,
          lt-ltb most_members (graph_of f).order b,
        )

        module _ (order-most : (graph_of f).order ≤ most_members) where
          -- 5: too many edges
          pub gives-5 : most_links < (graph_of f).size → any_order latest f ≡ Some Links
          unfolding any_order
          gives-5 b = grind (arith, nat_tests)

          -- 6: another length
          pub gives-6 : (graph_of f).size ≤ most_links → length f ≢ file_length f → any_order latest f ≡ Some Length
          unfolding any_order
          gives-6 b d = grind (arith, nat_tests)

-- none of them for zero bytes
pub gives-quiet : (f : List ℕ) → length f ≡ 0 → Header f
gives-quiet [] e = no_bytes.sound.header
gives-quiet (b ∷ r) e = absurd (omega arith)

-- which count as version 1
pub quiet-version : (f : List ℕ) (latest : ℕ) → length f ≡ 0 → 1 ≤ latest → version_of f ≤ latest
quiet-version f latest e l = omega (arith, version-none f e, l)

-- then 7, 22 and 8 are left
pub header-rest : (f : List ℕ) (latest : ℕ) → Header f → version_of f ≤ latest
    → any_order latest f
    ≡ cond (ltb (outside (graph_of f)) (graph_of f).size) (Some (End (outside (graph_of f))))
    (cond (ltb (unknown f) (graph_of f).size) (Some (Kind (unknown f)))
    (cond (ltb (repeat (graph_of f)) (graph_of f).size) (Some (Repeat (repeat (graph_of f)))) None))
unfolding any_order first
header-rest [] latest h l = refl
header-rest (b ∷ r) latest h l =
    let f = b ∷ r in
    let a = h.headed (omega arith) in
    rw (
      some_bytes f (omega arith),
      le-ltb (length f) 9 a.long,
      a.is-marked,
      le-leb 1 (version_of f) h.version-least,
      le-leb (version_of f) latest l,
      le-ltb most_members (graph_of f).order h.order-most,
      le-ltb most_links (graph_of f).size h.size-most,
      eq-eqb (length f) (file_length f) a.exact,
    )

-- the first edge that passes a test is m where it is not below m
first-all-past : (g : Graph) (p : ℕ → Bool) → ¬ (first p g.size < g.size) → first p g.size ≡ g.size
first-all-past g p n = omega (arith, first-le p g.size, n)

-- 7: the first edge outside
pub gives-7 : {f : List ℕ} (k : ℕ) → Header f → outside (graph_of f) < (graph_of f).size → k ≡ outside (graph_of f) → Gives f (End k)
gives-7 {f} k h l e latest v = header-rest f latest h v ∙ rw (lt-ltb (outside (graph_of f)) (graph_of f).size l, e)

-- where there is none, every edge joins two vertices
pub none-outside : (f : List ℕ) → ¬ (outside (graph_of f) < (graph_of f).size) → Closed (graph_of f)
none-outside f n = (outside-closed (graph_of f)).0 (first-all-past (graph_of f) _ n)

-- so that no edge is outside
closed-inside : (g : Graph) → Closed g → ltb (outside g) g.size ≡ false
closed-inside g k = le-ltb (outside g) g.size (omega (arith, (outside-closed g).1 k))

-- 22: the first edge of another kind
pub gives-22 : {f : List ℕ} (k : ℕ) → Header f → Closed (graph_of f) → unknown f < (graph_of f).size → k ≡ unknown f → Gives f (Kind k)
gives-22 {f} k h c l e latest v = header-rest f latest h v ∙ rw (closed-inside (graph_of f) c, lt-ltb (unknown f) (graph_of f).size l, e)

-- where there is none, every edge has a kind
pub none-unknown : (f : List ℕ) → ¬ (unknown f < (graph_of f).size) → Known f
none-unknown f n = (unknown-kinds f).0 (first-all-past (graph_of f) _ n)

-- 8: the first edge that repeats another
pub gives-8 : {f : List ℕ} (k : ℕ) → Sound f → repeat (graph_of f) < (graph_of f).size → k ≡ repeat (graph_of f) → Gives f (Repeat k)
gives-8 {f} k s l e latest v =
    header-rest f latest s.header v
    ∙ rw (
      closed-inside (graph_of f) s.closed,
      le-ltb (unknown f) (graph_of f).size (omega (arith, (unknown-kinds f).1 s.kinds)),
      lt-ltb (repeat (graph_of f)) (graph_of f).size l,
      e,
    )

-- where there is none, no two edges are the same
pub none-repeated : {f : List ℕ} → Sound f → ¬ (repeat (graph_of f) < (graph_of f).size) → Distinct f
none-repeated {f} s n =
    let g = graph_of f in
    record { sound = s; simple = (repeat-simple g).0 (first-all-past g _ n) }

-- by the new rule these refusals come first,
pub gives-earlier : (f : List ℕ) {q : Refusal} → any_order 2 f ≡ Some q → file_refusal f ≡ Some q
unfolding file_refusal
gives-earlier f = or_else-first _

-- of a file that is sound those that are given wherever its version is read
pub gives-sound : {f : List ℕ} {q : Refusal} → Sound f → Gives f q → file_refusal f ≡ Some q
gives-sound {f} s h = gives-earlier f (h 2 s.header.version-most)

-- as where a test answers one
pub gives-told : {Value : Type 0} {f : List ℕ} (answer : Result Value Refusal) → Sound f → IfErr answer (Gives f) → IfErr answer (λ r. file_refusal f ≡ Some r)
gives-told (Ok v) s h = h
gives-told (Err q) s h = gives-sound s h

-- then 15: of edges of which no two are the same, the one at which they stop ascending
pub gives-15 : {f : List ℕ} (k : ℕ) → Distinct f → FallsAt (graph_of f) k → file_refusal f ≡ Some (Order k)
unfolding file_refusal
gives-15 {f} k d h =
    let g = graph_of f in
    or_else-second _ ((any-accepted 2 f (omega arith) (omega arith)).1 (d, d.sound.header.version-most))
    ∙ rw (← descent-is g d.simple k (omega (arith, h.edge)) h.before (λ l. (h.some, h.falls)), lt-ltb k g.size h.edge)

-- what decides the ways out of the tests of a header,
pub ruleset header_ways = (gives-1, gives-2, gives-3, gives-3-later, gives-4, gives-5, gives-6, gives-quiet, quiet-version)

-- of those of the edges,
pub ruleset edge_ways = (gives-7, none-outside, gives-22, none-unknown, gives-8, none-repeated)

-- and of those of their order
pub ruleset order_ways = (gives-earlier, gives-15)
