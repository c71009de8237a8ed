-- The groups that are read off the keys are those that the finder finds, and the numbers are theirs.
use Prim.Native.Nat.{ℕ, ◌+◌, ◌*◌, ◌≤◌}
use mathlib.Core.List.{List, ◌++◌}
use mathlib.Core.Path.{◌≡◌, sym, ap, ◌∙◌}
use native.Mathlib.Nat.{add_assoc}
use native.Mathlib.Omega.{arith}
use lib.Dec.{leb}
use lib.ListN.{get_or, drop}
use Rattle.graph.specs.Graph.{Graph, Group}
use Rattle.graph.specs.Shapes.{Same}
use Rattle.graph.specs.Places.{targets}
use Rattle.graph.specs.Harmonic.{harmonic_places}
use Rattle.graph.specs.Drops.{first_mark}
use Rattle.graph.proofs.Sums.{sum-tests}
use Rattle.graph.proofs.Degrees.{edges-same, card-same}
use Rattle.network.specs.declared.Totals.{Totals}
use Rattle.network.specs.Groups.{group_of, bytes_of}
use Rattle.network.proofs.Groups.{totals-same}
use Rattle.peeling.specs.Peeling.{Tabled, Held}
use Rattle.grouping.specs.Groups.{at_least}
use Rattle.grouping.proofs.Bytes.{written-group, written_in}
use Rattle.harmonic.specs.Walks.{keys_at, step_of, BestIn, HarmonicIn}

-- the numbers are of at most 2 * n places
pub found_size : {n m : ℕ} {w w' : List ℕ} {r : Totals} → Held n m w → BestIn n m w w' r → r.sources + r.targets ≤ 2 * n
found_size {n} h b =
    let R = harmonic_places h.graph in
    rw (b.tells h.graph h.tabled).counted (omega (arith, h.tabled.order, sum-tests R h.graph.order, sum-tests (targets h.graph R) h.graph.order))

module _ {n m : ℕ} {w w' : List ℕ} {r : Totals} (b : BestIn n m w w' r) where
  -- those whose key, from entry i on, is at least the mark of the next drop
  abbrev marked : ℕ → Group
  marked i = at_least w' i (first_mark + step_of n r)

  -- a source is read where its place is found,
  read-source : (s : List ℕ) {s' : List ℕ} → s' ≡ bytes_of n (marked (keys_at n m)) ++ drop n s
      → (g : Graph) → Tabled g n m w → Same g (group_of s') (harmonic_places g)
  read-source s e g k u l =
      written-group n (marked (keys_at n m)) s e u (omega (arith, k.order)) ∙ sym ((b.tells g k).places u (omega (arith, k.order)))

  -- and a target where its own is
  read-target : (t : List ℕ) {t' : List ℕ} → t' ≡ bytes_of n (marked (keys_at n m + n)) ++ drop n t
      → (g : Graph) → Tabled g n m w → Same g (group_of t') (targets g (harmonic_places g))
  read-target t e g k v l =
      written-group n (marked (keys_at n m + n)) t e v (omega (arith, k.order))
      ∙ ap (λ i. leb (first_mark + step_of n r) (get_or w' i 0)) (add_assoc (keys_at n m) n v)
      ∙ sym ((b.tells g k).places (n + v) (omega (arith, k.order)))
      ∙ ap (λ o. harmonic_places g (o + v)) (sym k.order)

  -- so what is written is what is found
  pub harmonic-read : {s s' t t' : List ℕ} → s' ≡ bytes_of n (marked (keys_at n m)) ++ drop n s → t' ≡ bytes_of n (marked (keys_at n m + n)) ++ drop n t
      → HarmonicIn n m w w' s s' t t' r
  harmonic-read {s} {s'} {t} {t'} first second =
      record {
        harmonic = λ g k. record { sources = read-source s first g k; targets = read-target t second g k };
        counted = λ g k.
            let p = read-source s first g k in
            let q = read-target t second g k in
            (b.tells g k).counted ∙ sym (totals-same (edges-same k.closed p q) (card-same g p) (card-same g q));
        sources = written_in n (marked (keys_at n m)) s first;
        targets = written_in n (marked (keys_at n m + n)) t second;
        kept = b.kept;
      }
