-- Where every edge weighs 1 a degree is the length of the row. That every edge does is told by what all of them weigh: an entry weighs at least 1,
-- so that all rows weigh no less than they are long, and just so much only where each entry weighs 1. All rows weigh twice what those of the
-- sources do, since each edge joins a source and a target.
use Prim.Native.Nat.{ℕ, zero, suc, ◌+◌, ◌-◌, ◌*◌, ◌<◌, ◌≤◌}
use mathlib.Core.List.{List}
use mathlib.Core.Logic.{inl, inr}
use mathlib.Core.Path.{◌≡◌, refl, sym, ap, ◌∙◌}
use native.Mathlib.Nat.{two-mul, zero-add}
use native.Mathlib.Omega.{arith}
use lib.Dec.{eqb}
use Rattle.graph.specs.Range.{sum, if}
use Rattle.graph.specs.Graph.{Graph, everyone}
use Rattle.graph.specs.Linkage.{degree}
use Rattle.graph.proofs.Sums.{below_suc, sum-ext, sum_mono, sum-after, sum-swap, sum-pick, sum_ones}
use Rattle.graph.proofs.Monotone.{sum-steps}
use Rattle.peeling.specs.Peeling.{start_of, row_length, row_place, row_weight, entries, between, whole_degree, Rows, Tabled, Held, SingleRows}
use Rattle.peeling.proofs.Totals.{tabled-rows, held_rows}
use Rattle.peeling.proofs.Apart.{degree-across}

-- the edges of a place to all places are the weights of its row
pub row-degree : {n m : ℕ} {w : List ℕ} → Rows n m w → (p : ℕ) → p < 2 * n
    → whole_degree n w p ≡ sum (λ i. row_weight n w (start_of w p + i)) (row_length w p)
unfolding degree between entries
row-degree {n} {m} {w} r p l =
    sum-swap (λ q i. if (eqb (row_place n w (start_of w p + i)) q) (row_weight n w (start_of w p + i))) (row_length w p) (2 * n)
    ∙ sum-ext (row_length w p) (λ i b. sum-pick (λ q. row_weight n w (start_of w p + i)) (2 * n) (row_place n w (start_of w p + i)) (r.inside p i l b))

-- where every edge weighs 1, they are the entries of its row
pub single-degree : {n m : ℕ} {w : List ℕ} → Rows n m w → SingleRows n w → (p : ℕ) → p < 2 * n → whole_degree n w p ≡ row_length w p
single-degree {w = w} r h p l = row-degree r p l ∙ sum-ext (row_length w p) (λ i b. h p i l b) ∙ sum_ones _

-- numbers that are nowhere less than others, and together no more, are these
sum-tight : {f h : ℕ → ℕ} (n : ℕ) → ((i : ℕ) → i < n → f i ≤ h i) → sum h n ≤ sum f n → (i : ℕ) → i < n → f i ≡ h i
unfolding sum
sum-tight zero l m i b = absurd (omega arith)
sum-tight {f} {h} (suc n) l m i b =
    below_suc b
    (λ e. rw e (omega (arith, l n (omega arith), sum_mono {f = f} {h = h} n (λ j c. l j (omega arith)), m)))
    (λ c. sum-tight {f = f} {h = h} n (λ j d. l j (omega arith)) (omega (arith, l n (omega arith), m)) i c)

-- the rows of the targets weigh what those of the sources do
targets-weigh : {g : Graph} {n m : ℕ} {w : List ℕ} → Tabled g n m w → sum (λ i. whole_degree n w (n + i)) n ≡ sum (whole_degree n w) n
targets-weigh {n = n} {w = w} t =
    sum-ext n (λ i a.
    degree-across t (inl refl) everyone (n + i) (omega arith, omega arith)
    ∙ sum-ext n (λ j b. rw (zero-add j) ((tabled-rows t).symmetric (n + i) j (omega arith) (omega arith))))
    ∙ sum-swap (λ i j. between n w j (n + i)) n n
    ∙ sum-ext n (λ j b. sym (degree-across t (inr refl) everyone j (omega arith, omega arith)))

module _ {n m : ℕ} {w : List ℕ} (h : Held n m w) where
  -- so all rows weigh twice that
  all-weigh : sum (whole_degree n w) (2 * n) ≡ 2 * sum (whole_degree n w) n
  all-weigh = ap (sum (whole_degree n w)) (two-mul n) ∙ sum-after (whole_degree n w) n n ∙ omega (arith, targets-weigh h.tabled)

  -- all of them are as long as there are entries
  all-long : sum (row_length w) (2 * n) + start_of w 0 ≡ start_of w (2 * n)
  all-long = sum-steps (start_of w) (2 * n) (held_rows h).ascending

  -- no row weighs less than it is long
  row-heavy : (p : ℕ) → p < 2 * n → row_length w p ≤ whole_degree n w p
  row-heavy p l =
      omega (
        arith,
        row-degree (held_rows h) p l,
        sum_ones (row_length w p),
        sum_mono {f = λ i. 1} {h = λ i. row_weight n w (start_of w p + i)} (row_length w p) (λ i b. (held_rows h).heavy p i l b),
      )

  -- so there is no entry more than the edges weigh twice
  pub all-heavy : start_of w (2 * n) ≤ start_of w 0 + 2 * sum (whole_degree n w) n
  all-heavy = omega (arith, all-weigh, all-long, sum_mono {f = row_length w} {h = whole_degree n w} (2 * n) row-heavy)

  module _ (e : start_of w 0 + 2 * sum (whole_degree n w) n - start_of w (2 * n) ≡ 0) where
    -- and where there is none less, each row weighs as much as it is long
    row-tight : (p : ℕ) → p < 2 * n → row_length w p ≡ whole_degree n w p
    row-tight = sum-tight (2 * n) row-heavy (omega (arith, e, all-weigh, all-long))

    -- and each entry 1
    pub single-rows : SingleRows n w
    single-rows p i l b =
        sym (
        sum-tight {f = λ i. 1} (row_length w p) (λ i b. (held_rows h).heavy p i l b)
        (omega (arith, row-degree (held_rows h) p l, row-tight p l, sum_ones (row_length w p))) i b
        )
