-- How many of a list of links leave a vertex: as many as of the set that it keeps.
use Prim.Native.Nat.{ℕ, ◌<◌}
use mathlib.Core.Bool.{Bool, true, false, ◌&&◌}
use mathlib.Core.Path.{◌≡◌, refl, sym, ap, ◌∙◌}
use lib.Dec.{eqb}
use lib.ListN.{length}
use Rattle.graph.specs.Range.{sum, if}
use Rattle.graph.proofs.Sums.{sum-ext, sum-swap, sum-pick, if-sum}
use Rattle.linkset.specs.Links.{Links}
use Rattle.linkset.specs.Tables.{Pairs, source_at, target_at, Keeps}
use Rattle.linkset.proofs.Sets.{keeps-once}
use Rattle.journal.specs.Journal.{given}
use Rattle.journal.specs.Tabled.{Within}

module _ (n : ℕ) (S : Links) (l : Pairs) (k : Keeps S l) (w : Within n S) where
  -- a link of the list joins two members
  pub ends-below : (e : ℕ) → e < length l → (source_at l e < n) × (target_at l e < n)
  ends-below e h = w _ _ ((k.linked _ _).0 (e, h, refl, refl))

  -- the links of the set that leave u are those of the list whose source it is
  pub given-count : (u : ℕ) → given n S u ≡ sum (λ e. if (eqb (source_at l e) u) 1) (length l)
  given-count u =
      sum-ext n (λ v i. sym (keeps-once S l u v k))
      ∙ sum-swap (λ v e. if (eqb (source_at l e) u && eqb (target_at l e) v) 1) (length l) n
      ∙ sum-ext (length l) (λ e h.
      sum-ext n (λ v i. nest (eqb (source_at l e) u) (eqb (target_at l e) v))
      ∙ sym (if-sum (eqb (source_at l e) u) (λ v. if (eqb (target_at l e) v) 1) n)
      ∙ ap (if (eqb (source_at l e) u)) (sum-pick (λ v. 1) n (target_at l e) (ends-below e h).1))
    where
      nest : (p q : Bool) → if (p && q) 1 ≡ if p (if q 1)
      nest true q = refl
      nest false q = refl
