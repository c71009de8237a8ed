-- The finding: the equal level, and where it is not 0 the best of the search up to it and the core of the best, put together.
use Prim.Native.Nat.{ℕ, ◌≤◌}
use mathlib.Core.List.{List}
use mathlib.Core.Path.{◌≡◌}
use Rattle.graph.specs.Graph.{Graph}
use Rattle.graph.specs.Core.{EqualLevel}
use Rattle.graph.specs.Quiet.{ring, quiet}
use Rattle.graph.proofs.Search.{best-finding}
use Rattle.graph.proofs.Quiet.{equal-level-zero, quiet-core}
use Rattle.network.specs.declared.Extent.{Extent}
use Rattle.network.specs.declared.Totals.{Totals}
use Rattle.peeling.specs.Peeling.{Tabled}
use Rattle.grouping.specs.Groups.{CoreIn}
use Rattle.peeling.proofs.Kept.{kept_next, tabled-kept}
use Rattle.climbing.specs.declared.Rise.TheVariants.{Both}
use Rattle.climbing.specs.Climbs.{Climbed}
use Rattle.climbing.proofs.Levels.{climbed-level}
use Rattle.searching.specs.declared.Best.{Best}
use Rattle.searching.specs.Searches.{Searched, FoundIn}

module _ (e : Extent) {k : ℕ} {w w' : List ℕ} (c : Climbed e.order e.size Both 0 1 w w' k) where
  -- a climb from 1 comes to the equal level
  equal-level : {g : Graph} → Tabled g e.order e.size w → EqualLevel g k
  equal-level t = climbed-level Both 0 1 c (λ h. h) t

  -- where it is 0, the core of any x and y of at least 1 is empty, and nothing is found
  pub quiet-found : {x y : ℕ} {v s s' t t' : List ℕ} {r : Totals} → k ≡ 0 → 1 ≤ x → 1 ≤ y → CoreIn (record { extent = e; x = x; y = y }) w' v s s' t t' r
      → FoundIn e.order e.size w v s s' t t' (record { x = 0; y = 0; equal = 0; totals = r })
  quiet-found z p q i =
      record {
        outcome =
            λ g t.
            let none = (equal-level-zero t.closed (equal-level t)).0 z in
            quiet none (quiet-core t.closed none p q (i.core g (tabled-kept t c.kept)));
        equal = λ g t. rw z at (equal-level t);
        counted = λ g t. i.counted g (tabled-kept t c.kept);
        sources = i.sources;
        targets = i.targets;
        kept = kept_next c.kept i.kept;
      }

  -- and where it is not, the core of the best that a search up to there comes to is the finding
  pub ring-found : {w'' v s s' t t' : List ℕ} {b : Best} {r : Totals} → 1 ≤ k → Searched e.order e.size k w' w'' b
      → CoreIn (record { extent = e; x = b.x; y = b.y }) w'' v s s' t t' r
      → FoundIn e.order e.size w v s s' t t' (record { x = b.x; y = b.y; equal = k; totals = r })
  ring-found {w'' = w''} p h i =
      record {
        outcome =
            λ g t.
            ring (best-finding t.closed p (equal-level t) (h.best g (tabled-kept t c.kept) (equal-level t)) (i.core g (after t)));
        equal = λ g t. equal-level t;
        counted = λ g t. i.counted g (after t);
        sources = i.sources;
        targets = i.targets;
        kept = kept_next (kept_next c.kept h.kept) i.kept;
      }
    where
      after : {g : Graph} → Tabled g e.order e.size w → Tabled g e.order e.size w''
      after t = tabled-kept t (kept_next c.kept h.kept)
