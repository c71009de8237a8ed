-- One side counted anew by the places of the other that have enough edges, one place after the other. No place is joined to one of its own
-- side, so the degrees of the places that are counted by stay as they are.
use Rattle.std.proofs.Common.{◌≡◌, ℕ, ◌+◌, ◌-◌, ◌*◌, ◌<◌, ◌≤◌, leb, List, sym, refl, ap, ◌∙◌, ⊎_elim, arith}
use Rattle.graph.specs.Range.{sum, if}
use Rattle.graph.specs.Graph.{Graph, everyone}
use Rattle.graph.proofs.Tests.{if-le, if-zero}
use Rattle.graph.proofs.Sums.{sum-empty, sum-next, sum-ext, sum_mono, sum-front}
use Rattle.peeling.specs.Peeling.{degree_of, between, whole_degree, Tabled}
use Rattle.peeling.specs.Recounts.{SideAt, OnSide, Cleared, Recounted, Roomy, Gained}
use Rattle.peeling.proofs.Kept.{between-kept, tabled-kept}
use Rattle.peeling.proofs.Totals.{tabled-rows}
use Rattle.peeling.proofs.Apart.{side-other, side-place, side-either, between-apart, degree-across}
use Rattle.raising.proofs.Gains.{recounting-same, recounting-next}

-- nothing is counted yet where the degrees of the other side are all set to 0
pub recount-begins : {n m first least : ℕ} {w w' : List ℕ} → SideAt n first → Cleared n m first n w w' → Recounted n m first least 0 w' w'
recount-begins {n} {m} {first} {least} {w} {w'} s c =
    record {
      recounting = recounting-same w';
      same = λ p o. refl;
      counted = λ p o. ap (λ q. degree_of n m w' q) (sym (at p o)) ∙ c.zero (p - (n - first)) (omega arith) ∙ sym (sum-empty _);
    }
  where
    at : (p : ℕ) → OnSide n (n - first) p → n - first + (p - (n - first)) ≡ p
    at p o = omega arith

-- the edges of a place to all of the other side are those to all places
row-most : {g : Graph} {n m first : ℕ} {w : List ℕ} → Tabled g n m w → SideAt n first → {p : ℕ} → OnSide n (n - first) p
    → sum (λ j. between n w (first + j) p) n ≡ whole_degree n w p
row-most {n = n} {first = first} {w = w} t s {p} o =
    sum-ext n (λ j l. (tabled-rows t).symmetric (first + j) p (side-place s (omega arith, omega arith)) (side-place (side-other s) o))
    ∙ sym (degree-across t s everyone p o)

module _ {g : Graph} {n m first least i : ℕ} {w₀ w : List ℕ} (t : Tabled g n m w₀) (s : SideAt n first) (l : i < n) (c : Recounted n m first least i w₀ w) where
  -- the next place is on this side
  next-on : OnSide n first (first + i)
  next-on = (omega arith, omega arith)

  -- the table holds the graph still
  holds : Tabled g n m w
  holds = tabled-kept t c.recounting.kept

  -- and so the edges of the next place
  was : (p : ℕ) → between n w (first + i) p ≡ between n w₀ (first + i) p
  was p = between-kept (tabled-rows t) c.recounting.kept (first + i) p (side-place s next-on)

  -- what a place has gained, and gains from the next place, is not more than its degree in the whole graph
  pub recount-room : Roomy n m w (first + i)
  recount-room =
      record { room = λ p b. ⊎_elim (λ o. omega (arith, between-apart holds s (first + i) p next-on o)) (room p b) (side-either s p b) }
    where
      room : (p : ℕ) → p < 2 * n → OnSide n (n - first) p → between n w (first + i) p ≤ 65535 - degree_of n m w p
      room p b o =
          omega (
            arith,
            c.counted p o,
            sum_mono {h = λ j. between n w₀ (first + j) p} i (λ j k. if-le (leb least (degree_of n m w₀ (first + j))) (between n w₀ (first + j) p)),
            was p,
            sum-next (λ j. between n w₀ (first + j) p) i,
            sum-front (λ j. between n w₀ (first + j) p) (i + 1) n (omega arith),
            row-most t s o,
            (tabled-rows t).light p b,
          )

  -- and so counted by one place more
  pub recount-next : {w' : List ℕ} → Gained n m (first + i) (leb least (degree_of n m w (first + i))) w w' → Recounted n m first least (i + 1) w₀ w'
  recount-next {w'} d =
      record {
        recounting = recounting-next c.recounting d.recounting;
        same = λ p o. d.degrees p (side-place s o) ∙ rw (between-apart holds s (first + i) p next-on o) (omega (arith, if-zero (leb least (degree_of n m w (first + i))), c.same p o));
        counted = λ p o.
            d.degrees p (side-place (side-other s) o)
            ∙ rw (c.same (first + i) next-on, was p) (omega (arith, c.counted p o, sum-next (λ j. if (leb least (degree_of n m w₀ (first + j))) (between n w₀ (first + j) p)) i));
      }

-- a side that is cleared first is counted anew from the table as it was
pub recount-from : {g : Graph} {n m first least i : ℕ} {w w₁ w₂ : List ℕ} → Tabled g n m w → SideAt n first → i ≤ n → Cleared n m first n w w₁
    → Recounted n m first least i w₁ w₂ → Recounted n m first least i w w₂
recount-from {n = n} {first = first} {i = i} t s l c r =
    record {
      recounting = recounting-next c.recounting r.recounting;
      same = λ p o. r.same p o ∙ c.same p o;
      counted = λ p o. r.counted p o ∙ sum-ext i (λ j h.
          let on : OnSide n first (first + j) = (omega arith, omega arith) in
          rw (c.same (first + j) on, between-kept (tabled-rows t) c.recounting.kept (first + j) p (side-place s on)));
    }
