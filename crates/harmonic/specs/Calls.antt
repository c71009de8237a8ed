-- What the harmonic call promises (02, wish 6).
use Rattle.std.specs.Prelude.{ℕ, ◌≤◌, List, [], ◌∷◌, ◌≡◌, Result, length}
use Rattle.graph.specs.Harmonic.{Harmonic, HarmonicBound}
use Rattle.network.specs.declared.Refusal.{Refusal}
use Rattle.network.specs.declared.Totals.{Totals}
use Rattle.network.specs.File.{graph_of}
use Rattle.network.specs.Groups.{group_of}
use Rattle.network.specs.Refusals.{harmonic_refusal}
use Rattle.network.specs.Calls.{Call}
use Rattle.cores.specs.Calls.{GroupsTold}

-- the groups are those that the harmonic finder finds, no other pair has more than twice their measure, and E, |S| and |T| are theirs: zeros in a
-- file without links, and at least one link in every other
pub record HarmonicTold (f s s' t t' w w' : List ℕ) (c : Totals) : Type 0 where
  pub found : Harmonic (graph_of f) (group_of s') (group_of t')
  pub bound : HarmonicBound (graph_of f) (group_of s') (group_of t')
  pub groups : GroupsTold f s s' t t' w w' c
  pub linkless : (graph_of f).size ≡ 0 → c ≡ record { edges = 0; sources = 0; targets = 0 }
  pub linked : 1 ≤ (graph_of f).size → 1 ≤ c.edges

-- the harmonic finder
abbrev pub HarmonicCall : (f s s' t t' w w' : List ℕ) → Result Totals Refusal → Type 0
HarmonicCall f s s' t t' w w' =
    Call (harmonic_refusal f (length s) (length t) (length w)) (s ∷ t ∷ w ∷ []) (s' ∷ t' ∷ w' ∷ []) (HarmonicTold f s s' t t' w w')
