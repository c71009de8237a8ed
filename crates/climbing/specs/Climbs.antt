-- A climb: k is raised until the core that is asked for at k is empty.
use Rattle.std.specs.Prelude.{ℕ, ◌+◌, ◌*◌, ◌<◌, ◌≤◌, true, ◌&&◌, List, ◌≡◌, leb, ltb}
use Rattle.graph.specs.Graph.{Graph, Group}
use Rattle.graph.specs.Core.{Nonempty, Level, LevelAcross, EqualLevel}
use Rattle.network.specs.declared.Extent.{Extent}
use Rattle.peeling.specs.declared.Scope.{Scope}
use Rattle.peeling.specs.Peeling.{Tabled, Kept, degree_of, need_of}
use Rattle.climbing.specs.declared.Rise.{Rise}
use Rattle.climbing.specs.declared.Rise.TheVariants.{Targets, Sources, Both}

-- what is asked of a source at k
abbrev pub of_sources : Rise → ℕ → ℕ → ℕ
of_sources Targets fixed k = fixed
of_sources Sources fixed k = k
of_sources Both fixed k = k

-- and of a target
abbrev pub of_targets : Rise → ℕ → ℕ → ℕ
of_targets Targets fixed k = k
of_targets Sources fixed k = fixed
of_targets Both fixed k = k

-- so at k [fixed,k], [k,fixed] or [k,k]
abbrev pub asked : Extent → Rise → ℕ → ℕ → Scope
asked e rise fixed k = record { extent = e; x = of_sources rise fixed k; y = of_targets rise fixed k }

-- the core asked for at k is not empty
abbrev pub Reached : Graph → Rise → ℕ → ℕ → Type 0
Reached g rise fixed k = Nonempty g (of_sources rise fixed k) (of_targets rise fixed k)

-- 01: the level that a climb from 1 finds
abbrev pub LevelOf : Graph → Rise → ℕ → ℕ → Type 0
LevelOf g Targets fixed k = Level g fixed k
LevelOf g Sources fixed k = LevelAcross g fixed k
LevelOf g Both fixed k = EqualLevel g k

-- the places of the sides whose need is raised
abbrev pub rising : ℕ → Rise → Group
rising n Targets p = leb n p
rising n Sources p = ltb p n
rising n Both p = true

-- the first of them
abbrev pub first_rising : ℕ → Rise → ℕ
first_rising n Targets = n
first_rising n Sources = 0
first_rising n Both = 0

-- and the place past the last
abbrev pub end_rising : ℕ → Rise → ℕ
end_rising n Targets = 2 * n
end_rising n Sources = n
end_rising n Both = 2 * n

-- those of them that have the edges they need
abbrev pub rests : Scope → Rise → List ℕ → Group
rests c rise w p = rising c.extent.order rise p && leb (need_of c p) (degree_of c.extent.order c.extent.size w p)

-- a number below N passes the test
pub record Some (P : Group) (N : ℕ) : Type 0 where
  pub number : ℕ
  pub below : number < N
  pub passes : P number ≡ true

-- k is the greatest of d p for the numbers p below N that pass the test, or 0 where none of them has more
pub record Heaviest (P : Group) (d : ℕ → ℕ) (N k : ℕ) : Type 0 where
  pub all : (p : ℕ) → p < N → P p ≡ true → d p ≤ k
  pub reached : 1 ≤ k → Some (λ p. P p && leb k (d p)) N

-- k is the least of d p for the numbers p below N that pass the test
pub record Least (P : Group) (d : ℕ → ℕ) (N k : ℕ) : Type 0 where
  pub low : (p : ℕ) → p < N → P p ≡ true → k ≤ d p
  pub reached : Some (λ p. P p && leb (d p) k) N

-- From start on, the cores asked for are not empty up to r, and the next one is; where not even the first has anybody, r is start - 1.
pub record Climbed (n m : ℕ) (rise : Rise) (fixed start : ℕ) (w w' : List ℕ) (r : ℕ) : Type 0 where
  pub from : start ≤ r + 1
  pub fits : start ≤ r → r < 65536
  pub holds : (g : Graph) → Tabled g n m w → start ≤ r → Reached g rise fixed r
  pub stops : (g : Graph) → Tabled g n m w → ¬ Reached g rise fixed (r + 1)
  pub kept : Kept n m w w'
