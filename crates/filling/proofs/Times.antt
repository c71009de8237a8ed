-- How often an edge stands in the front of a list, and the list of the edges of a graph, which grows edge by edge.
use Prim.Native.Nat.{ℕ, ◌+◌, ◌*◌, ◌<◌, ◌≤◌}
use mathlib.Core.Bool.{Bool, true, false, ◌&&◌, and-true, and-false}
use mathlib.Core.List.{List}
use mathlib.Core.Logic.{◌≢◌}
use mathlib.Core.Path.{◌≡◌, refl, sym, ap, ◌∙◌}
use native.Mathlib.Decide.{ℕ_discrete, dec_le, dec_lt}
use native.Mathlib.Nat.{one-mul, zero-mul}
use native.Mathlib.Omega.{arith}
use borrow.Author.Tests.{eq-eqb, eqb-true, le-leb}
use lib.Dec.{eqb, leb}
use lib.ListN.{length, get_or, set, take, length-set}
use lib.Seq.{get_or-set_same, get_or-set_other, length-take-le, get_or-take}
use Rattle.graph.specs.Range.{if}
use Rattle.graph.specs.Graph.{Graph}
use Rattle.graph.specs.Shapes.{Closed}
use Rattle.graph.specs.Within.{within}
use Rattle.graph.proofs.Tests.{if_some, if-le, if-same, if-other, eqb-sym}
use Rattle.graph.proofs.Sums.{sum-ext, sum-next, sum-pick, sum-none, sum-some, term-le-sum}
use Rattle.network.specs.Groups.{group_of, AllIn}
use Rattle.filling.specs.Listed.{times, ListOf}
use Rattle.filling.specs.Layings.{front}

-- lists with the same front have each edge as often in it
pub times-same : (l l' : List ℕ) (k e : ℕ) → ((i : ℕ) → i < k → get_or l i 0 ≡ get_or l' i 0) → times l k e ≡ times l' k e
times-same l l' k e h = sum-ext k (λ i m. rw (h i m))

-- an entry stands there
pub times-entry : (l : List ℕ) (k i : ℕ) → i < k → 1 ≤ times l k (get_or l i 0)
times-entry l k i h = omega (arith, term-le-sum (λ j. if (eqb (get_or l j 0) (get_or l i 0)) 1) k i h, if-same (get_or l i 0) (get_or l i 0) 1 refl)

-- what stands there is an entry
pub times-some : (l : List ℕ) (k e : ℕ) → 1 ≤ times l k e → (i : ℕ) × (i < k) × (get_or l i 0 ≡ e)
times-some l k e h = let (i, m, p) = sum-some _ k h in (i, m, eqb-true _ _ (if_some (eqb (get_or l i 0) e) 1 p).0)

-- and what is no entry does not
times_none : (l : List ℕ) (k e : ℕ) → ((i : ℕ) → i < k → get_or l i 0 ≢ e) → times l k e ≡ 0
times_none l k e h = sum-none _ k (λ i m. if-other (get_or l i 0) e 1 (h i m))

-- an edge put after the front, which is longer by it where a test holds, stands there once more where it does
pub times-put : (l : List ℕ) (r d : ℕ) → r < length l → (a : ℕ) (b : Bool) → times (set l r d) (r + if b 1) a ≡ times l r a + if b (if (eqb d a) 1)
times-put l r d h a = more
  where
    same : times (set l r d) r a ≡ times l r a
    same = times-same (set l r d) l r a (λ i m. get_or-set_other l r i d 0 (λ j. omega arith))

    more : (b : Bool) → times (set l r d) (r + if b 1) a ≡ times l r a + if b (if (eqb d a) 1)
    more true = sum-next (λ i. if (eqb (get_or (set l r d) i 0) a) 1) r ∙ rw (get_or-set_same l r d 0 h) (ap (◌+ if (eqb d a) 1) same)
    more false = ap (λ n. times (set l r d) n a) (omega arith) ∙ same ∙ omega arith

-- a list with the same front is of the same graph,
pub list_same : {g : Graph} {l l' : List ℕ} {k : ℕ} → ((i : ℕ) → i < k → get_or l i 0 ≡ get_or l' i 0) → ListOf g l k → ListOf g l' k
list_same {l = l} {l'} {k} h a = record { below = λ i m. rw (← h i m) (a.below i m); once = λ e m. sym (times-same l l' k e h) ∙ a.once e m }

-- and so is the front by itself
pub list-front : {g : Graph} {l : List ℕ} {k s : ℕ} → s ≡ k → k ≤ length l → ListOf g l k → ListOf g (take s l) (length (take s l))
list-front {l = l} {k} {s} e h a =
    let n : length (take s l) ≡ k = length-take-le s l (omega arith) ∙ e in
    rw n (list_same (λ i m. sym (get_or-take s l i 0 (omega arith))) a)

-- the list of the first e edges, k of its entries
pub record Listing (g : Graph) (l₀ l : List ℕ) (e k : ℕ) : Type 0 where
  pub done : e ≤ g.size
  pub few : k ≤ e
  pub list : ListOf (front g e) l k
  pub same_length : length l ≡ length l₀

-- the next edge is put after the others, and counts there where it does not weigh 0
pub listing-next : {g : Graph} {l₀ l : List ℕ} {e k r : ℕ} (b : Bool) → Listing g l₀ l e k → e < g.size → g.size ≤ length l₀ → leb 1 (g.weight e) ≡ b
    → r ≡ if b 1 → Listing g l₀ (set l k e) (e + 1) (k + r)
listing-next {g} {l₀} {l} {e} {k} b a m long w q = rw q
    record {
      done = omega arith;
      few = omega (arith, a.few, if-le b 1);
      list = record { below = below b; once = λ d n. times-put l k e room d b ∙ once d n (ℕ_discrete e d) };
      same_length = length-set l k e ∙ a.same_length;
    }
  where
    room : k < length l
    room = omega (arith, a.few, a.same_length)

    old : (i : ℕ) → i < k → get_or (set l k e) i 0 < e + 1
    old i n = omega (arith, a.list.below i n, get_or-set_other l k i e 0 (λ j. omega arith))

    below : (b : Bool) (i : ℕ) → i < k + if b 1 → get_or (set l k e) i 0 < e + 1
    below false i n = old i (omega arith)
    below true i n = elim (ℕ_discrete i k) [ yes j ↦ omega (arith, ap (λ n. get_or (set l k e) n 0) j, get_or-set_same l k e 0 room) | no j ↦ old i (omega arith) ]

    once : (d : ℕ) → d < e + 1 → Dec (e ≡ d) → times l k d + if b (if (eqb e d) 1) ≡ if (leb 1 (g.weight d)) 1
    once d n (yes j) =
        omega (arith, times_none l k d (λ i h q. omega (arith, a.list.below i h)), ap (if b) (if-same e d 1 j), ap (λ t. if t 1) (sym w), ap (λ d. if (leb 1 (g.weight d)) 1) j)
    once d n (no j) = omega (arith, a.list.once d (omega arith), ap (if b) (if-other e d 1 j), if-le b 0)

-- the numbers counted up are the list of a graph in which no edge weighs 0
pub list_all : {g : Graph} {l : List ℕ} → ((i : ℕ) → i < g.size → get_or l i 0 ≡ i) → ((e : ℕ) → e < g.size → 1 ≤ g.weight e) → ListOf g l g.size
list_all {g} each some =
    record {
      below = λ i h. omega (arith, each i h);
      once = λ e h. sum-ext g.size (λ i m. rw (each i m, eqb-sym i e)) ∙ sum-pick (λ i. 1) g.size e h ∙ rw (le-leb 1 (g.weight e) (some e h));
    }

-- no edge stands twice in the list of a graph
pub list_once : {g : Graph} {l : List ℕ} {k : ℕ} → ListOf g l k → (e : ℕ) → times l k e ≤ 1
list_once {g} {l} {k} a e =
    elim (dec_lt e g.size) [
      | yes h ↦ omega (arith, a.once e h, if-le (leb 1 (g.weight e)) 1)
      | no h ↦ omega (arith, times_none l k e (λ i m q. omega (arith, a.below i m)))
    ]

-- so by the list it weighs what it does in a graph that keeps some of the edges
pub list-weighs : (b : Bool) (w : ℕ) → if (leb 1 (if b w)) 1 * w ≡ if b w
list-weighs false w = zero-mul w
list-weighs true w = elim (dec_le 1 w) [ yes h ↦ rw (le-leb 1 w h) (one-mul w) | no h ↦ (let e : w ≡ 0 = omega arith in rw e) ]

-- an edge that is kept where it passes a test does not weigh 0 where it passes it, and does not weigh 0 without it
pub keeps-some : (b : Bool) (w : ℕ) → leb 1 (if b w) ≡ (leb 1 w && b)
keeps-some true w = sym (and-true (leb 1 w))
keeps-some false w = sym (and-false (leb 1 w))

-- from everyone to everyone an edge weighs what it does
pub within_all : {g : Graph} → Closed g → (a b : List ℕ) → AllIn g.order a → AllIn g.order b
    → (e : ℕ) → e < g.size → (within g (group_of a) (group_of b)).weight e ≡ g.weight e
within_all {g} c a b p q e h = rw (eq-eqb _ 1 (p (g.source e) (c.source-below e h)), eq-eqb _ 1 (q (g.target e) (c.target_below e h)))
