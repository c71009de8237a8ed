-- Tests that compute on a given network inside two groups A and B, each with the law that what it accepts holds by the definitions; last the
-- test of a claim and of a table of cases.
use Prim.Native.Nat.{ℕ, zero, suc, ◌+◌, ◌*◌, ◌<◌, ◌≤◌}
use mathlib.Core.Bool.{Bool, true, false, not, ◌&&◌, ◌||◌, false≢true}
use mathlib.Core.List.{List, [], ◌∷◌}
use mathlib.Core.Logic.{◌⊎◌, inl, inr, ⊎_elim, ◌↔◌}
use mathlib.Core.Path.{◌≡◌, refl, sym, ap, ◌∙◌}
use native.Mathlib.Nat.{le_refl, le_trans, eq-or-lt_of_le}
use native.Mathlib.Omega.{arith}
use borrow.Author.Tests.{ltb-true, lt-ltb, leb-true, eqb-true, le-leb, eq-eqb, not-true}
use lib.Dec.{eqb, leb, ltb}
use lib.ListN.{length, get_or}
use Rattle.graph.specs.Range.{first}
use Rattle.graph.specs.Graph.{Graph, Group, card, edges, out_degree, in_degree}
use Rattle.graph.specs.Shapes.{Closed, total}
use Rattle.graph.specs.Core.{Inside, Dense, CoreInside, NonemptyInside, Greatest, apart, Before, FindingInside}
use Rattle.graph.specs.Quiet.{OutcomeInside, ring, quiet}
use Rattle.graph.specs.Layers.{still_in, joins, LayerInside, LayeringInside}
use Rattle.graph.specs.Harmonic.{Harmonic}
use Rattle.graph.proofs.Tests.{and_left, and_right, and_both}
use Rattle.graph.proofs.Sums.{below_suc}
use Rattle.graph.proofs.Ranges.{first_passes, first_some}
use Rattle.graph.proofs.Degrees.{card_mono}
use Rattle.graph.proofs.Exists.{nonempty-in, nonempty-nested}
use Rattle.graph.proofs.Search.{greatest-stop}
use Rattle.graph.proofs.Weights.{nonempty-x, nonempty-y}
use Rattle.graph.proofs.Masks.{closed-weighing}
use Rattle.graph.proofs.Layers.{layer-make, layer-product}
use Rattle.network.specs.declared.Refusal.{Refusal}
use Rattle.std.specs.Prelude.{Option, None, Some, is_none}
use Rattle.network.specs.File.{version_of, kind_at, graph_of, LinkedAs, number_told, link_told, old_refusal, file_refusal}
use Rattle.network.specs.Groups.{group_of}
use Rattle.network.specs.Bytes.{ordered}
use Rattle.journal.specs.Entries.{members as members_of, header_refusal}
use Rattle.journal.specs.Journal.{live, due, after}
use Rattle.journal.specs.Calls.{count_of}
use Rattle.finding.specs.Equality.{Found, Agree, Equal, equal_refusal}
use Rattle.network.specs.Held.{FileOf}
use Rattle.merging.specs.Shared.{shared, unshared}
use Rattle.merging.specs.Calls.{pair_refusal, common_refusal, InBoth}
use Rattle.cases.specs.Journals.{numbers_after, pairs_after, SaysJournal, SaysTotals}
use Rattle.cases.specs.Cases.{numbers_of, members, Ring, Counts, Claim, core, level, across, finding, layers, harmonic, has, gives, orders, follows, totals, heads, against, compares, shares, pairs, Rings, SaysRing, found, SaysAgainst, SaysShares, Says, Case, Hold}
use Rattle.cases.proofs.Sweep.{with_out, with_in, sources_left, targets_left, covers-sweep}
use Rattle.cases.proofs.Drops.{drops, found_of, places-found}

-- two tests that hold together each hold
both : (a b : Bool) → (a && b) ≡ true → (a ≡ true) × (b ≡ true)
both a b h = (and_left a b h, and_right a b h)

-- of two tests of which one has to hold one does
either : (a : Bool) {b : Bool} → (a || b) ≡ true → (a ≡ true) ⊎ (b ≡ true)
either true h = inl refl
either false h = inr h

-- the second test holds where the first does
abbrev pub implies : Bool → Bool → Bool
implies a b = not a || b

-- so it holds if the first does
implies_true : {a b : Bool} → implies a b ≡ true → a ≡ true → b ≡ true
implies_true {a = true} h p = h
implies_true {a = false} h p = absurd (false≢true p)

-- two tests are equal
abbrev pub same : Bool → Bool → Bool
same a b = implies a b && implies b a

-- as they are
same_true : {a b : Bool} → same a b ≡ true → a ≡ b
same_true {a = true} {b = true} h = refl
same_true {a = true} {b = false} h = sym h
same_true {a = false} {b = true} h = h
same_true {a = false} {b = false} h = refl

-- and where they are equal
same-holds : {a b : Bool} → a ≡ b → same a b ≡ true
same-holds {a = true} h = rw (← h)
same-holds {a = false} h = rw (← h)

-- every number below n passes the test
abbrev pub every : ℕ → (ℕ → Bool) → Bool
every zero p = true
every (suc n) p = every n p && p n

-- so each does
every-at : (n : ℕ) (p : ℕ → Bool) → every n p ≡ true → (i : ℕ) → i < n → p i ≡ true
every-at zero p h i l = absurd (omega arith)
every-at (suc n) p h i l = let (a, b) = both (every n p) (p n) h in below_suc l (λ e. rw e b) (λ k. every-at n p a i k)

-- and where each does all do
every-all : (n : ℕ) (p : ℕ → Bool) → ((i : ℕ) → i < n → p i ≡ true) → every n p ≡ true
every-all zero p h = refl
every-all (suc n) p h = and_both (every-all n p (λ i l. h i (omega arith))) (h n (omega arith))

-- every vertex of S is in R
abbrev pub is_inside : Graph → Group → Group → Bool
is_inside g S R = every g.order (λ u. implies (S u) (R u))

-- by the definition
inside-sound : (g : Graph) (S R : Group) → is_inside g S R ≡ true → Inside g S R
inside-sound g S R h u l p = implies_true (every-at g.order (λ u. implies (S u) (R u)) h u l) p

-- each edge joins two vertices
abbrev pub is_closed : Graph → Bool
is_closed g = every g.size (λ e. ltb (g.source e) g.order) && every g.size (λ e. ltb (g.target e) g.order)

-- by the definition
closed-sound : (g : Graph) → is_closed g ≡ true → Closed g
closed-sound g h =
    let (p, q) = both (every g.size (λ e. ltb (g.source e) g.order)) _ h in
    record { source-below = λ e l. ltb-true _ _ (every-at g.size _ p e l); target_below = λ e l. ltb-true _ _ (every-at g.size _ q e l) }

-- S is inside A and T inside B, and none of their vertices is short
abbrev pub is_dense : Graph → Group → Group → ℕ → ℕ → Group → Group → Bool
is_dense g A B x y S T = is_inside g S (with_out g A x T) && is_inside g T (with_in g B y S)

-- by the definitions
dense-sound : (g : Graph) (A B : Group) (x y : ℕ) (S T : Group) → is_dense g A B x y S T ≡ true → Inside g S A × Inside g T B × Dense g x y S T
dense-sound g A B x y S T h =
    (λ u l i. (out u l i).0, λ v l i. (inn v l i).0, record { out = λ u l i. leb-true _ _ (out u l i).1; inn = λ v l i. leb-true _ _ (inn v l i).1 })
  where
    -- what is tested of a vertex of S
    out : (u : ℕ) → u < g.order → S u ≡ true → (A u ≡ true) × (leb x (out_degree g T u) ≡ true)
    out u l i = both (A u) _ (inside-sound g S (with_out g A x T) (both (is_inside g S (with_out g A x T)) _ h).0 u l i)

    -- and of one of T
    inn : (v : ℕ) → v < g.order → T v ≡ true → (B v ≡ true) × (leb y (in_degree g S v) ≡ true)
    inn v l i = both (B v) _ (inside-sound g T (with_in g B y S) (both (is_inside g S (with_out g A x T)) _ h).1 v l i)

-- (S,T) is the [x,y]-core inside A and B: it is dense inside them, and what the sweeps leave is inside it
abbrev pub is_core : Graph → Group → Group → ℕ → ℕ → Group → Group → Bool
is_core g A B x y S T = is_dense g A B x y S T && (is_inside g (sources_left g A B x y) S && is_inside g (targets_left g A B x y) T)

-- by the definition
core-sound : {g : Graph} → Closed g → (A B : Group) (x y : ℕ) (S T : Group) → is_core g A B x y S T ≡ true → CoreInside g A B x y S T
core-sound {g} k A B x y S T h =
    let (t, r) = both (is_dense g A B x y S T) _ h in
    let (p, q) = both (is_inside g (sources_left g A B x y) S) _ r in
    let (a, b, d) = dense-sound g A B x y S T t in
    record {
      sources = a;
      targets = b;
      dense = d;
      largest = λ S' T' a' b' d'.
          let (i, j) = covers-sweep k A B x y g.order S' T' a' b' d' in
          (λ u l s. inside-sound g (sources_left g A B x y) S p u l (i u l s), λ v l t. inside-sound g (targets_left g A B x y) T q v l (j v l t));
    }

-- the sweeps leave a voucher
abbrev pub is_left : Graph → Group → Group → ℕ → ℕ → Bool
is_left g A B x y = leb 1 (card g (sources_left g A B x y))

-- they do where the core is not empty
left-sound : {g : Graph} → Closed g → (A B : Group) (x y : ℕ) → NonemptyInside g A B x y → is_left g A B x y ≡ true
left-sound {g} k A B x y n =
    let c = n.core in le-leb _ _ (le_trans n.some (card_mono g (covers-sweep k A B x y g.order n.S n.T c.sources c.targets c.dense).0))

-- the sweeps leave a dense pair with somebody on both sides
abbrev pub is_some : Graph → Group → Group → ℕ → ℕ → Bool
is_some g A B x y =
    is_dense g A B x y (sources_left g A B x y) (targets_left g A B x y) && (is_left g A B x y && leb 1 (card g (targets_left g A B x y)))

-- then the core is not empty
some-sound : {g : Graph} → Closed g → (A B : Group) (x y : ℕ) → is_some g A B x y ≡ true → NonemptyInside g A B x y
some-sound {g} k A B x y h =
    let (t, r) = both (is_dense g A B x y (sources_left g A B x y) (targets_left g A B x y)) _ h in
    let (p, q) = both (is_left g A B x y) _ r in
    let (a, b, d) = dense-sound g A B x y (sources_left g A B x y) (targets_left g A B x y) t in
    nonempty-in k a b d (leb-true _ _ p) (leb-true _ _ q)

-- as x and y rise with a number, k is the last at which the core is not empty, or 0
abbrev pub is_last : Graph → Group → Group → (ℕ → ℕ) → (ℕ → ℕ) → ℕ → Bool
is_last g A B x y k = implies (leb 1 k) (is_some g A B (x k) (y k)) && not (is_left g A B (x (suc k)) (y (suc k)))

-- so it is the level, the level across or the equal level
last-sound : {g : Graph} → Closed g → (A B : Group) (x y : ℕ → ℕ) (k : ℕ) → ((i j : ℕ) → i ≤ j → (x i ≤ x j) × (y i ≤ y j)) → is_last g A B x y k ≡ true
    → Greatest (λ j. NonemptyInside g A B (x j) (y j)) k
last-sound {g} c A B x y k rise h =
    let (p, q) = both (implies (leb 1 k) (is_some g A B (x k) (y k))) _ h in
    greatest-stop k (λ i j l n. let (a, b) = rise i j l in nonempty-nested c a b n)
    (λ l. some-sound c A B (x k) (y k) (implies_true p (le-leb 1 k l)))
    (λ n. false≢true (sym (not-true (is_left g A B (x (suc k)) (y (suc k))) q) ∙ left-sound c A B (x (suc k)) (y (suc k)) n))

-- (x,y) comes before (x',y')
abbrev pub is_before : ℕ → ℕ → ℕ → ℕ → Bool
is_before x y x' y' =
    leb (x' * y') (x * y) && implies (eqb (x' * y') (x * y)) (leb (apart x y) (apart x' y') && implies (eqb (apart x y) (apart x' y')) (leb x x'))

-- by the definition
before-sound : (x y x' y' : ℕ) → is_before x y x' y' ≡ true → Before x y x' y'
before-sound x y x' y' h =
    record {
      product = leb-true _ _ (both (leb (x' * y') (x * y)) _ h).0;
      even = λ e. leb-true _ _ (tied e).0;
      tie = λ e d. leb-true _ _ (implies_true (tied e).1 (eq-eqb _ _ d));
    }
  where
    -- what is tested where the products are equal
    tied : x' * y' ≡ x * y → (leb (apart x y) (apart x' y') ≡ true) × (implies (eqb (apart x y) (apart x' y')) (leb x x') ≡ true)
    tied e = both (leb (apart x y) (apart x' y')) _ (implies_true (both (leb (x' * y') (x * y)) _ h).1 (eq-eqb _ _ e))

-- (x,y) comes before every [x',y'] up to the number of links for which the sweeps leave somebody
abbrev pub is_first : Graph → Group → Group → ℕ → ℕ → Bool
is_first g A B x y = every (total g) (λ i. every (total g) (λ j. implies (is_left g A B (suc i) (suc j)) (is_before x y (suc i) (suc j))))

-- so before every non-empty core
first-sound : {g : Graph} → Closed g → (A B : Group) (x y : ℕ) → is_first g A B x y ≡ true → (x' y' : ℕ) → 1 ≤ x' → 1 ≤ y' → NonemptyInside g A B x' y'
    → Before x y x' y'
first-sound k A B x y h zero y' p q n = absurd (omega arith)
first-sound k A B x y h (suc i) zero p q n = absurd (omega arith)
first-sound {g} k A B x y h (suc i) (suc j) p q n =
    before-sound x y (suc i) (suc j)
    (implies_true (every-at (total g) _ (every-at (total g) _ h i (nonempty-x k n)) j (nonempty-y k n)) (left-sound k A B (suc i) (suc j) n))

-- (S,T) is the finding inside A and B, for [x,y]
abbrev pub is_finding : Graph → Group → Group → ℕ → ℕ → Group → Group → Bool
is_finding g A B x y S T = (leb 1 x && leb 1 y) && ((leb 1 (card g S) && leb 1 (card g T)) && (is_core g A B x y S T && is_first g A B x y))

-- by the definition
finding-sound : {g : Graph} → Closed g → (A B : Group) (x y : ℕ) (S T : Group) → is_finding g A B x y S T ≡ true → FindingInside g A B x y S T
finding-sound {g} k A B x y S T h =
    let (p, r) = both (leb 1 x && leb 1 y) _ h in
    let (q, t) = both (leb 1 (card g S) && leb 1 (card g T)) _ r in
    let (c, f) = both (is_core g A B x y S T) _ t in
    let (i, j) = both (leb 1 x) _ p in
    let (a, b) = both (leb 1 (card g S)) _ q in
    record {
      x-positive = leb-true _ _ i;
      y-positive = leb-true _ _ j;
      core = core-sound k A B x y S T c;
      some = leb-true _ _ a;
      other = leb-true _ _ b;
      before = first-sound k A B x y f;
    }

-- there is no link from A to B, x and y are 0, and S and T are empty
abbrev pub is_quiet : Graph → Group → Group → ℕ → ℕ → Group → Group → Bool
is_quiet g A B x y S T = eqb (edges g A B) 0 && ((eqb x 0 && eqb y 0) && (eqb (card g S) 0 && eqb (card g T) 0))

-- by the definition
quiet-sound : (g : Graph) (A B : Group) (x y : ℕ) (S T : Group) → is_quiet g A B x y S T ≡ true → OutcomeInside g A B x y S T
quiet-sound g A B x y S T h =
    let (e, r) = both (eqb (edges g A B) 0) _ h in
    let (p, q) = both (eqb x 0 && eqb y 0) _ r in
    let (i, j) = both (eqb x 0) _ p in
    let (a, b) = both (eqb (card g S) 0) _ q in
    quiet (eqb-true _ _ e) (record { x-zero = eqb-true _ _ i; y-zero = eqb-true _ _ j; no_source = eqb-true _ _ a; no_target = eqb-true _ _ b })

-- (S,T) is the finding inside A and B, for [x,y], or nothing is found
abbrev pub is_outcome : Graph → Group → Group → ℕ → ℕ → Group → Group → Bool
is_outcome g A B x y S T = is_finding g A B x y S T || is_quiet g A B x y S T

-- by the definition
outcome-sound : {g : Graph} → Closed g → (A B : Group) (x y : ℕ) (S T : Group) → is_outcome g A B x y S T ≡ true → OutcomeInside g A B x y S T
outcome-sound {g} k A B x y S T h = ⊎_elim (λ p. ring (finding-sound k A B x y S T p)) (quiet-sound g A B x y S T) (either (is_finding g A B x y S T) h)

-- the counts between two listed groups
abbrev pub is_counts : Graph → List ℕ → List ℕ → ℕ → Bool
is_counts g S T E = eqb (edges g (members S) (members T)) E && (eqb (card g (members S)) (length S) && eqb (card g (members T)) (length T))

-- by the definition
counts-sound : (g : Graph) (S T : List ℕ) (E : ℕ) → is_counts g S T E ≡ true → Counts g S T E
counts-sound g S T E h =
    let (p, r) = both (eqb (edges g (members S) (members T)) E) _ h in
    let (q, t) = both (eqb (card g (members S)) (length S)) _ r in
    record { between = eqb-true _ _ p; sources = eqb-true _ _ q; targets = eqb-true _ _ t }

-- the ring is the finding inside A and B of the links still in at the start of layer l, and the layer has exactly those from S to T
abbrev pub is_ring : Graph → Group → Group → (ℕ → ℕ) → ℕ → Ring → Bool
is_ring g A B L l r =
    let h = still_in g L l in
    is_finding h A B r.x r.y (members r.S) (members r.T)
    && (is_counts h r.S r.T r.E && every g.size (λ e. same (eqb (L e) l) (joins h (members r.S) (members r.T) e)))

-- by the definition
ring-sound : {g : Graph} → Closed g → (A B : Group) (L : ℕ → ℕ) (l : ℕ) (r : Ring) → is_ring g A B L l r ≡ true
    → LayerInside g A B L l × Rings g A B L l (r ∷ [])
ring-sound {g} k A B L l r h =
    let (f, p) = both (is_finding (still_in g L l) A B r.x r.y (members r.S) (members r.T)) _ h in
    let (c, t) = both (is_counts (still_in g L l) r.S r.T r.E) _ p in
    let found = finding-sound (closed-weighing k (still_in g L l).weight) A B r.x r.y (members r.S) (members r.T) f in
    (layer-make k (still_in g L l).weight found (λ e m. refl) (λ e m. same_true (every-at g.size _ t e m)), (found, counts-sound (still_in g L l) r.S r.T r.E c, tt))

-- each ring of a list is that of its layer, from layer l on
abbrev pub are_rings : Graph → Group → Group → (ℕ → ℕ) → ℕ → List Ring → Bool
are_rings g A B L l [] = true
are_rings g A B L l (r ∷ rings) = is_ring g A B L l r && are_rings g A B L (suc l) rings

-- by the definition
rings-sound : {g : Graph} → Closed g → (A B : Group) (L : ℕ → ℕ) (l : ℕ) (rings : List Ring) → are_rings g A B L l rings ≡ true
    → ((i : ℕ) → l ≤ i → i < l + length rings → LayerInside g A B L i) × Rings g A B L l rings
rings-sound k A B L l [] h = (λ i p q. absurd (omega arith), tt)
rings-sound {g} k A B L l (r ∷ rings) h =
    let (p, q) = both (is_ring g A B L l r) _ h in
    let (a, b) = ring-sound k A B L l r p in
    let (c, d) = rings-sound k A B L (suc l) rings q in
    (λ i m n. ⊎_elim (λ e. rw (← e) a) (λ e. c i e (omega arith)) (eq-or-lt_of_le m), (b.0, b.1, d))

-- each link from A to B has a layer from 1 to K, and every other edge has 0
abbrev pub are_layers : Graph → Group → Group → (ℕ → ℕ) → ℕ → Bool
are_layers g A B L K = every g.size (λ e. leb (L e) K && same (leb 1 (L e)) (joins g A B e))

-- so with its rings it is the layering
layering-sound : {g : Graph} → Closed g → (A B : Group) (L : ℕ → ℕ) (rings : List Ring) → are_layers g A B L (length rings) ≡ true
    → ((i : ℕ) → 1 ≤ i → i < 1 + length rings → LayerInside g A B L i) → LayeringInside g A B L (length rings)
layering-sound {g} k A B L rings h layer =
    record {
      every = λ e l. (λ p. sym (at e l).1 ∙ le-leb _ _ p, λ p. leb-true _ _ ((at e l).1 ∙ p));
      most = λ e l. (at e l).0;
      layer = λ i p q. layer i p (omega arith);
      falls = λ l a b. layer-product k (omega arith) a b;
    }
  where
    -- what is tested of an edge
    at : (e : ℕ) → e < g.size → (L e ≤ length rings) × (leb 1 (L e) ≡ joins g A B e)
    at e l = let (a, b) = both (leb (L e) (length rings)) _ (every-at g.size _ h e l) in (leb-true _ _ a, same_true b)

-- (S,T) is the pair of the places that the drops find
abbrev pub is_harmonic : Graph → Group → Group → Bool
is_harmonic g S T =
    let R = found_of g (drops g (2 * g.order)) in
    every g.order (λ u. same (S u) (R u)) && every g.order (λ v. same (T v) (R (g.order + v)))

-- by the definition
harmonic-sound : (g : Graph) (S T : Group) → is_harmonic g S T ≡ true → Harmonic g S T
harmonic-sound g S T h =
    let R = found_of g (drops g (2 * g.order)) in
    let (p, q) = both (every g.order (λ u. same (S u) (R u))) _ h in
    record {
      sources = λ u l. same_true (every-at g.order _ p u l) ∙ ap (λ P. P u) (sym (places-found g));
      targets = λ v l. same_true (every-at g.order _ q v l) ∙ ap (λ P. P (g.order + v)) (sym (places-found g));
    }

-- a refusal has these two numbers
abbrev pub is_refusal : Option Refusal → ℕ × ℕ → Bool
is_refusal r (k, e) = eqb (number_told r) k && eqb (link_told r) e

-- as a pair
refusal-sound : (r : Option Refusal) (s : ℕ × ℕ) → is_refusal r s ≡ true → numbers_of r ≡ s
refusal-sound r (k, e) h = let (p, q) = both (eqb (number_told r) k) _ h in rw (eqb-true (number_told r) k p, eqb-true (link_told r) e q)

-- there is none
none-sound : (r : Option Refusal) → is_none r ≡ true → r ≡ None
none-sound None h = refl
none-sound (Some q) h = absurd (false≢true h)

-- two lists of bytes are equal
abbrev pub are_equal : List ℕ → List ℕ → Bool
are_equal [] [] = true
are_equal [] (b ∷ m) = false
are_equal (a ∷ l) [] = false
are_equal (a ∷ l) (b ∷ m) = eqb a b && are_equal l m

-- as lists
equal-sound : (l m : List ℕ) → are_equal l m ≡ true → l ≡ m
equal-sound [] [] h = refl
equal-sound [] (b ∷ m) h = absurd (false≢true h)
equal-sound (a ∷ l) [] h = absurd (false≢true h)
equal-sound (a ∷ l) (b ∷ m) h = let (p, q) = both (eqb a b) _ h in rw (eqb-true a b p, equal-sound l m q)

-- the file is accepted, and its network is closed
abbrev pub is_accepted : List ℕ → Bool
is_accepted f = is_none (file_refusal f) && is_closed (graph_of f)

-- by the definitions
accepted-sound : (f : List ℕ) → is_accepted f ≡ true → (file_refusal f ≡ None) × Closed (graph_of f)
accepted-sound f h = let (p, q) = both (is_none (file_refusal f)) _ h in (none-sound (file_refusal f) p, closed-sound (graph_of f) q)

-- the journal is not refused, and of its entries followed the numbers and the links present after them are the listed ones
abbrev pub is_journal : List ℕ → ℕ → List ℕ → List ℕ → Bool
is_journal j asked numbers present =
    is_none (header_refusal j) && (are_equal (numbers_after j asked) numbers && are_equal (pairs_after j asked) present)

-- by the definitions
journal-sound : (j : List ℕ) (asked : ℕ) (numbers present : List ℕ) → is_journal j asked numbers present ≡ true → SaysJournal j asked numbers present
journal-sound j asked numbers present h =
    let (p, r) = both (is_none (header_refusal j)) _ h in
    let (q, t) = both (are_equal (numbers_after j asked) numbers) _ r in
    record {
      header = none-sound (header_refusal j) p;
      numbers = equal-sound (numbers_after j asked) numbers q;
      present = equal-sound (pairs_after j asked) present t;
    }

-- the test of both totals after some of a journal's entries,
abbrev pub is_totals : List ℕ → (asked l d : ℕ) → Bool
is_totals j asked l d =
    let S = (after j (count_of j asked)).present in
    is_none (header_refusal j) && (eqb (live (members_of j) S) l && eqb (due (members_of j) S) d)

-- by the definitions
totals-sound : (j : List ℕ) (asked l d : ℕ) → is_totals j asked l d ≡ true → SaysTotals j asked l d
totals-sound j asked l d h =
    let (p, r) = both (is_none (header_refusal j)) _ h in
    let (q, t) = both (eqb (live (members_of j) (after j (count_of j asked)).present) l) _ r in
    record { header = none-sound (header_refusal j) p; live_is = eqb-true _ l q; due_is = eqb-true _ d t }

-- the finding inside A and B is the ring
abbrev pub has_ring : List ℕ → Group → Group → Ring → Bool
has_ring f A B r = is_accepted f && (is_finding (graph_of f) A B r.x r.y (members r.S) (members r.T) && is_counts (graph_of f) r.S r.T r.E)

-- by the definitions
has_ring-sound : (f : List ℕ) (A B : Group) (r : Ring) → has_ring f A B r ≡ true → SaysRing f A B r
has_ring-sound f A B r h =
    let (a, t) = both (is_accepted f) _ h in
    let (o, k) = accepted-sound f a in
    let (p, q) = both (is_finding (graph_of f) A B r.x r.y (members r.S) (members r.T)) _ t in
    record { accepted = o; finding = finding-sound k A B r.x r.y (members r.S) (members r.T) p; counts = counts-sound (graph_of f) r.S r.T r.E q }

-- two groups agree
abbrev pub do_agree : ℕ → List ℕ → List ℕ → Bool
do_agree n a b = every n (λ u. same (group_of a u) (group_of b u))

-- exactly by the definition
agree_exact : (n : ℕ) (a b : List ℕ) → (do_agree n a b ≡ true) ↔ Agree n a b
agree_exact n a b = (λ h u l. same_true (every-at n _ h u l), λ h. every-all n _ (λ u l. same-holds (h u l)))

-- two findings are equal
abbrev pub are_same : Found → Found → Bool
are_same p q = (eqb p.x q.x && (eqb p.y q.y && eqb p.n q.n)) && (do_agree p.n p.s q.s && do_agree p.n p.t q.t)

-- exactly by the definition
same_exact : (p q : Found) → (are_same p q ≡ true) ↔ Equal p q
same_exact p q = (to, from)
  where
    to : are_same p q ≡ true → Equal p q
    to h =
        let (a, r) = both (eqb p.x q.x && (eqb p.y q.y && eqb p.n q.n)) _ h in
        let (x, b) = both (eqb p.x q.x) _ a in
        let (y, n) = both (eqb p.y q.y) _ b in
        let (s, t) = both (do_agree p.n p.s q.s) _ r in
        record {
          x = eqb-true _ _ x;
          y = eqb-true _ _ y;
          people = record { n = eqb-true _ _ n; sources = (agree_exact p.n p.s q.s).0 s; targets = (agree_exact p.n p.t q.t).0 t };
        }

    from : Equal p q → are_same p q ≡ true
    from e =
        and_both (and_both (eq-eqb _ _ e.x) (and_both (eq-eqb _ _ e.y) (eq-eqb _ _ e.people.n)))
        (and_both ((agree_exact p.n p.s q.s).1 e.people.sources) ((agree_exact p.n p.t q.t).1 e.people.targets))

-- the findings of two files are the rings, and equal or not as it is said
abbrev pub is_against : List ℕ → List ℕ → Group → Group → Ring → Ring → Bool → Bool
is_against f g A B p q equal = has_ring f A B p && (has_ring g A B q && same equal (are_same (found f p) (found g q)))

-- by the definitions
against-sound : (f g : List ℕ) (A B : Group) (p q : Ring) (equal : Bool) → is_against f g A B p q equal ≡ true → SaysAgainst f g A B p q equal
against-sound f g A B p q equal h =
    let (a, r) = both (has_ring f A B p) _ h in
    let (b, t) = both (has_ring g A B q) _ r in
    let e = same_true t in
    let (to, from) = same_exact (found f p) (found g q) in
    record { mine = has_ring-sound f A B p a; theirs = has_ring-sound g A B q b; told = (λ i. to (sym e ∙ i), λ i. e ∙ from i) }

-- edge e goes from u to v and is of kind k
abbrev pub is_of : Graph → (ℕ → ℕ) → ℕ → ℕ → ℕ → ℕ → Bool
is_of g kind u v k e = eqb (g.source e) u && (eqb (g.target e) v && eqb (kind e) k)

-- of links with these kinds, one from u to v is of kind k
abbrev pub is_kinded : Graph → (ℕ → ℕ) → ℕ → ℕ → ℕ → Bool
is_kinded g kind u v k = ltb (first (is_of g kind u v k) g.size) g.size

-- exactly by the definition
kinded_exact : (g : Graph) (kind : ℕ → ℕ) (u v k : ℕ) → (is_kinded g kind u v k ≡ true) ↔ LinkedAs g kind u v k
kinded_exact g kind u v k = (to, from)
  where
    to : is_kinded g kind u v k ≡ true → LinkedAs g kind u v k
    to h =
        let e = first (is_of g kind u v k) g.size in
        let l = ltb-true e g.size h in
        let (s, r) = both (eqb (g.source e) u) _ (first_passes (is_of g kind u v k) g.size l) in
        let (q, i) = both (eqb (g.target e) v) _ r in
        (e, l, eqb-true _ u s, eqb-true _ v q, eqb-true _ k i)

    from : LinkedAs g kind u v k → is_kinded g kind u v k ≡ true
    from (e, l, s, q, i) = lt-ltb _ _ (first_some (is_of g kind u v k) g.size e l (and_both (eq-eqb _ u s) (and_both (eq-eqb _ v q) (eq-eqb _ k i))))

-- of two files a third is a file of the links in both: each link of it is in both, and each that is in both is in it
abbrev pub is_common : List ℕ → List ℕ → List ℕ → Bool
is_common f g w =
    let p = graph_of f in
    let q = graph_of g in
    let r = graph_of w in
    is_none (file_refusal w) && (eqb r.order p.order
    && (every r.size (λ e. is_kinded p (kind_at f) (r.source e) (r.target e) (kind_at w e) && is_kinded q q.weight (r.source e) (r.target e) (r.weight e))
    && every p.size (λ e. implies (is_kinded q q.weight (p.source e) (p.target e) (p.weight e)) (is_kinded r (kind_at w) (p.source e) (p.target e) (kind_at f e)))))

-- by the definitions
common-sound : (f g w : List ℕ) → is_common f g w ≡ true → FileOf (graph_of f).order (InBoth f g) w
common-sound f g w h =
    let p = graph_of f in
    let q = graph_of g in
    let r = graph_of w in
    let (a, t) = both (is_none (file_refusal w)) _ h in
    let (n, u) = both (eqb r.order p.order) _ t in
    let (within, whole) = both (every r.size (λ e. is_kinded p (kind_at f) (r.source e) (r.target e) (kind_at w e) && is_kinded q q.weight (r.source e) (r.target e) (r.weight e))) _ u in
    record {
      accepted = none-sound (file_refusal w) a;
      order = eqb-true _ _ n;
      linked = λ u v k. (
        λ (e, l, s, t, i).
            let (m, o) = both (is_kinded p (kind_at f) (r.source e) (r.target e) (kind_at w e)) _ (every-at r.size _ within e l) in
            rw (← s, ← t, ← i) ((kinded_exact p (kind_at f) _ _ _).0 m, (kinded_exact q q.weight _ _ _).0 o),
        λ ((e, l, s, t, i), o).
            let m : is_kinded q q.weight (p.source e) (p.target e) (p.weight e) ≡ true = (kinded_exact q q.weight _ _ _).1 (rw (s, t, i) o) in
            rw (← s, ← t, ← i) ((kinded_exact r (kind_at w) _ _ _).0 (implies_true (every-at p.size _ whole e l) m)),
      );
    }

-- the links of two files are so many in both and in one only, and those in both are the file
abbrev pub are_shares : List ℕ → List ℕ → List ℕ → ℕ → ℕ → ℕ → Bool
are_shares f g w b i j =
    is_none (pair_refusal f g) && (eqb (shared (graph_of f) (graph_of g)) b
    && (eqb (unshared (graph_of f) (graph_of g)) i && (eqb (unshared (graph_of g) (graph_of f)) j && (eqb (version_of w) 2 && is_common f g w))))

-- by the definitions
shares-sound : (f g w : List ℕ) (b i j : ℕ) → are_shares f g w b i j ≡ true → SaysShares f g w b i j
shares-sound f g w b i j h =
    let (a, r) = both (is_none (pair_refusal f g)) _ h in
    let (p, s) = both (eqb (shared (graph_of f) (graph_of g)) b) _ r in
    let (q, t) = both (eqb (unshared (graph_of f) (graph_of g)) i) _ s in
    let (k, u) = both (eqb (unshared (graph_of g) (graph_of f)) j) _ t in
    let (v, c) = both (eqb (version_of w) 2) _ u in
    record {
      passed = none-sound (pair_refusal f g) a;
      both_is = eqb-true _ _ p;
      mine_is = eqb-true _ _ q;
      theirs_is = eqb-true _ _ k;
      version = eqb-true _ _ v;
      file = common-sound f g w c;
    }

-- the test of a claim on a file inside A and B
abbrev pub holds : List ℕ → Group → Group → Claim → Bool
holds f A B (core x y S T E) = is_accepted f && (is_core (graph_of f) A B x y (members S) (members T) && is_counts (graph_of f) S T E)
holds f A B (level x y) = is_accepted f && is_last (graph_of f) A B (λ j. x) (λ j. j) y
holds f A B (across y x) = is_accepted f && is_last (graph_of f) A B (λ j. j) (λ j. y) x
holds f A B (finding x y k S T E) =
    is_accepted f
    && (is_outcome (graph_of f) A B x y (members S) (members T) && (is_last (graph_of f) A B (λ j. j) (λ j. j) k && is_counts (graph_of f) S T E))
holds f A B (layers l rings) =
    is_accepted f && (are_layers (graph_of f) A B (λ e. get_or l e 0) (length rings) && are_rings (graph_of f) A B (λ e. get_or l e 0) 1 rings)
holds f A B (harmonic S T E) = is_accepted f && (is_harmonic (graph_of f) (members S) (members T) && is_counts (graph_of f) S T E)
holds f A B (has n m) = is_none (file_refusal f) && (eqb (graph_of f).order n && eqb (graph_of f).size m)
holds f A B (gives r) = is_refusal (file_refusal f) r
holds f A B (orders w) = is_none (old_refusal f) && (are_equal (ordered f) w && is_none (file_refusal w))
holds f A B (follows asked numbers present) = is_journal f asked numbers present
holds f A B (totals asked l d) = is_totals f asked l d
holds f A B (heads r) = is_refusal (header_refusal f) r
holds f A B (against g p q equal) = is_against f g A B p q equal
holds f A B (compares n₁ s₁ t₁ n₂ s₂ t₂ r) = is_refusal (equal_refusal n₁ s₁ t₁ n₂ s₂ t₂) r
holds f A B (shares g w b i j) = are_shares f g w b i j
holds f A B (pairs g out r) = is_refusal (common_refusal f g out) r

-- a claim that passes its test holds
holds-sound : (f : List ℕ) (A B : Group) (c : Claim) → holds f A B c ≡ true → Says f A B c
holds-sound f A B (core x y S T E) h =
    let (a, r) = both (is_accepted f) _ h in
    let (o, k) = accepted-sound f a in
    let (p, q) = both (is_core (graph_of f) A B x y (members S) (members T)) _ r in
    record { accepted = o; core = core-sound k A B x y (members S) (members T) p; counts = counts-sound (graph_of f) S T E q }
holds-sound f A B (level x y) h =
    let (a, r) = both (is_accepted f) _ h in
    let (o, k) = accepted-sound f a in
    (o, last-sound k A B (λ j. x) (λ j. j) y (λ i j l. (le_refl x, l)) r)
holds-sound f A B (across y x) h =
    let (a, r) = both (is_accepted f) _ h in
    let (o, k) = accepted-sound f a in
    (o, last-sound k A B (λ j. j) (λ j. y) x (λ i j l. (l, le_refl y)) r)
holds-sound f A B (finding x y j S T E) h =
    let (a, r) = both (is_accepted f) _ h in
    let (o, k) = accepted-sound f a in
    let (p, t) = both (is_outcome (graph_of f) A B x y (members S) (members T)) _ r in
    let (e, q) = both (is_last (graph_of f) A B (λ i. i) (λ i. i) j) _ t in
    record {
      accepted = o;
      outcome = outcome-sound k A B x y (members S) (members T) p;
      level = last-sound k A B (λ i. i) (λ i. i) j (λ i m l. (l, l)) e;
      counts = counts-sound (graph_of f) S T E q;
    }
holds-sound f A B (layers l rings) h =
    let (a, r) = both (is_accepted f) _ h in
    let (o, k) = accepted-sound f a in
    let (p, q) = both (are_layers (graph_of f) A B (λ e. get_or l e 0) (length rings)) _ r in
    let (layer, each) = rings-sound k A B (λ e. get_or l e 0) 1 rings q in
    record { accepted = o; layering = layering-sound k A B (λ e. get_or l e 0) rings p layer; each = each }
holds-sound f A B (harmonic S T E) h =
    let (a, r) = both (is_accepted f) _ h in
    let (p, q) = both (is_harmonic (graph_of f) (members S) (members T)) _ r in
    record { accepted = (accepted-sound f a).0; found = harmonic-sound (graph_of f) (members S) (members T) p; counts = counts-sound (graph_of f) S T E q }
holds-sound f A B (has n m) h =
    let (a, r) = both (is_none (file_refusal f)) _ h in
    let (p, q) = both (eqb (graph_of f).order n) _ r in
    (none-sound (file_refusal f) a, eqb-true _ _ p, eqb-true _ _ q)
holds-sound f A B (gives r) h = refusal-sound (file_refusal f) r h
holds-sound f A B (orders w) h =
    let (a, r) = both (is_none (old_refusal f)) _ h in
    let (p, q) = both (are_equal (ordered f) w) _ r in
    (none-sound (old_refusal f) a, equal-sound (ordered f) w p, none-sound (file_refusal w) q)
holds-sound f A B (follows asked numbers present) h = journal-sound f asked numbers present h
holds-sound f A B (totals asked l d) h = totals-sound f asked l d h
holds-sound f A B (heads r) h = refusal-sound (header_refusal f) r h
holds-sound f A B (against g p q equal) h = against-sound f g A B p q equal h
holds-sound f A B (compares n₁ s₁ t₁ n₂ s₂ t₂ r) h = refusal-sound (equal_refusal n₁ s₁ t₁ n₂ s₂ t₂) r h
holds-sound f A B (shares g w b i j) h = shares-sound f g w b i j h
holds-sound f A B (pairs g out r) h = refusal-sound (common_refusal f g out) r h

-- the test of every case of a table
abbrev pub all_hold : List Case → Bool
all_hold [] = true
all_hold (c ∷ s) = holds c.file c.sources c.targets c.claim && all_hold s

-- a table that passes its test holds
pub all_sound : (s : List Case) → all_hold s ≡ true → Hold s
all_sound [] h = tt
all_sound (c ∷ s) h =
    let (p, q) = both (holds c.file c.sources c.targets c.claim) _ h in
    (holds-sound c.file c.sources c.targets c.claim p, all_sound s q)
