-- Every [x,y] has one core inside two groups: it is what is left of these when short vertices are taken out until none is short.
use Prim.Native.Nat.{ℕ, ◌*◌, ◌<◌, ◌≤◌}
use mathlib.Core.Logic.{◌↔◌}
use mathlib.Core.Path.{refl, sym, ◌∙◌}
use native.Mathlib.Nat.{le_trans, one-le-mul}
use native.Mathlib.Omega.{arith}
use Rattle.std.proofs.lemmas.Bool.Decides.{nat_tests}
use Rattle.graph.specs.Graph.{Graph, reverse, Group, card, edges, out_degree, in_degree}
use Rattle.graph.specs.Shapes.{Closed, Same}
use Rattle.graph.specs.Core.{Inside, Dense, CoversInside, CoreInside, NonemptyInside, Nonempty}
use Rattle.graph.proofs.Tests.{test-ext}
use Rattle.graph.proofs.Degrees.{closed-reverse, only, without, edges-reverse, edges-mono, edges-same, edges-out, edges-other, card_mono, inside-without, without-inside, times-card}
use Rattle.graph.proofs.Peel.{peel}

-- a dense pair turned round is dense
pub dense-reverse : {g : Graph} {x y : ℕ} {S T : Group} → Dense g x y S T → Dense (reverse g) y x T S
dense-reverse {g} {x} {y} {S} {T} d = grind (arith, nat_tests)

-- A and B cover every dense pair inside them
pub covers-all : (g : Graph) (A B : Group) (x y : ℕ) → CoversInside g A B x y A B
covers-all g A B x y S T i j d = (i, j)

-- what covers every dense pair does so turned round
covers-reverse : {g : Graph} {A B : Group} {x y : ℕ} {S T : Group} → CoversInside g A B x y S T → CoversInside (reverse g) B A y x T S
covers-reverse c T' S' j i d = let (p, q) = c S' T' i j (dense-reverse d) in (q, p)

-- what covers every dense pair does so still when a short vertex is taken out of S,
pub covers-without : {g : Graph} → Closed g → {A B : Group} {x y : ℕ} {S T : Group} (u : ℕ) → u < g.order → out_degree g T u < x → CoversInside g A B x y S T
    → CoversInside g A B x y (without S u) T
covers-without {g} k {x = x} {S = S} {T = T} u l s c S' T' i j d =
    let (p, q) = c S' T' i j d in
    (inside-without g u p (λ h. omega (arith, d.out u l h, edges-mono k {S = only u} {S' = only u} (λ w m e. e) q)), q)

-- or out of T
pub covers-without-in : {g : Graph} → Closed g → {A B : Group} {x y : ℕ} {S T : Group} (v : ℕ) → v < g.order → in_degree g S v < y → CoversInside g A B x y S T
    → CoversInside g A B x y S (without T v)
covers-without-in {g} k {S = S} v l s c =
    covers-reverse (covers-without (closed-reverse k) v l (rw (edges-reverse g S (only v)) s) (covers-reverse c))

-- every [x,y] has a core inside A and B
pub core-exists : {g : Graph} → Closed g → (A B : Group) (x y : ℕ) → (S : Group) × (T : Group) × CoreInside g A B x y S T
core-exists {g} k A B x y =
    peel g (λ S T. Inside g S A → Inside g T B → CoversInside g A B x y S T → (S : Group) × (T : Group) × CoreInside g A B x y S T)
    (λ S T. out_degree g T) (λ S T. in_degree g S) (λ S T. x) (λ S T. y)
    (λ S T u l s d rec i j c. rec (without-inside g u i) j (covers-without k u l d c))
    (λ S T v l s d rec i j c. rec i (without-inside g v j) (covers-without-in k v l d c))
    (λ S T p q i j c. (S, T, record { sources = i; targets = j; dense = record { out = p; inn = q }; largest = c }))
    A B (λ u l h. h) (λ v l h. h) (covers-all g A B x y)

-- and only one
pub core_unique : {g : Graph} {A B : Group} {x y : ℕ} {S T S' T' : Group} → CoreInside g A B x y S T → CoreInside g A B x y S' T' → Same g S S' × Same g T T'
core_unique c c' = grind (arith, nat_tests)

-- only the vertices of the graph count
pub dense-same : {g : Graph} → Closed g → {x y : ℕ} {S T S' T' : Group} → Same g S S' → Same g T T' → Dense g x y S T → Dense g x y S' T'
dense-same {g} k {x} {y} {S} {T} {S'} {T'} p q d =
    record {
      out = λ u l h. rw (← edges-same k {S = only u} {S' = only u} (λ w i. refl) q) (d.out u l (p u l ∙ h));
      inn = λ v l h. rw (← edges-same k {T = only v} {T' = only v} p (λ w i. refl)) (d.inn v l (q v l ∙ h));
    }

-- nor does anything else count in what covers
pub covers-same : {g : Graph} {A B : Group} {x y : ℕ} {S T S' T' : Group} → Same g S S' → Same g T T' → CoversInside g A B x y S T → CoversInside g A B x y S' T'
covers-same p q c R Q a b d = let (i, j) = c R Q a b d in (λ u l h. sym (p u l) ∙ i u l h, λ v l h. sym (q v l) ∙ j v l h)

-- so groups with the vertices of a core are a core
pub core-same : {g : Graph} → Closed g → {A B : Group} {x y : ℕ} {S T S' T' : Group} → Same g S S' → Same g T T' → CoreInside g A B x y S T → CoreInside g A B x y S' T'
core-same k p q c = grind (arith, nat_tests, dense-same, covers-same)

-- a core turned round is the core of the reversed graph
pub core-reverse : {g : Graph} {A B : Group} {x y : ℕ} {S T : Group} → CoreInside g A B x y S T → CoreInside (reverse g) B A y x T S
core-reverse c = record { sources = c.targets; targets = c.sources; dense = dense-reverse c.dense; largest = covers-reverse c.largest }

-- a dense pair is dense for smaller x and y
pub dense-nested : {g : Graph} {x y x' y' : ℕ} {S T : Group} → x' ≤ x → y' ≤ y → Dense g x y S T → Dense g x' y' S T
dense-nested p q d = record { out = λ u l h. le_trans p (d.out u l h); inn = λ v l h. le_trans q (d.inn v l h) }

-- so the cores are nested
pub core-nested : {g : Graph} {A B : Group} {x y x' y' : ℕ} {S T S' T' : Group} → x' ≤ x → y' ≤ y → CoreInside g A B x y S T → CoreInside g A B x' y' S' T'
    → Inside g S S' × Inside g T T'
core-nested p q c c' = c'.largest _ _ c.sources c.targets (dense-nested p q c.dense)

-- for x = 0 its S is A,
pub core-zero : {g : Graph} → Closed g → {A B : Group} {y : ℕ} {S T : Group} → CoreInside g A B 0 y S T → Same g S A
core-zero {g} k {A} {y = y} {T = T} c u l = test-ext _ _ (c.sources u l) ((c.largest A T (λ w m h. h) c.targets wider).0 u l)
  where
    wider : Dense g 0 y A T
    wider =
        record {
          out = λ w m h. omega arith;
          inn = λ v m h. le_trans (c.dense.inn v m h) (edges-mono k {T = only v} {T' = only v} c.sources (λ w i e. e));
        }

-- and for y = 0 its T is B
pub core-zero-in : {g : Graph} → Closed g → {A B : Group} {x : ℕ} {S T : Group} → CoreInside g A B x 0 S T → Same g T B
core-zero-in k c = core-zero (closed-reverse k) (core-reverse c)

-- x links from each of S are at most all links
pub dense-edges : {g : Graph} → Closed g → {x y : ℕ} {S T : Group} → Dense g x y S T → x * card g S ≤ edges g S T
dense-edges {g} k {x} {y} {S} {T} d = rw (edges-out k S T) (times-card g S x (out_degree g T) d.out)

-- and so with y links to each of T
pub dense-edges-in : {g : Graph} → Closed g → {x y : ℕ} {S T : Group} → Dense g x y S T → y * card g T ≤ edges g S T
dense-edges-in {g} k {x} {y} {S} {T} d = rw (← edges-reverse g S T) (dense-edges (closed-reverse k) (dense-reverse d))

-- for an x of at least 1 a dense pair with somebody in S has somebody in T,
pub dense-other : {g : Graph} → Closed g → {x y : ℕ} {S T : Group} → 1 ≤ x → Dense g x y S T → 1 ≤ card g S → 1 ≤ card g T
dense-other k {S = S} {T = T} p d h = edges-other k S T (le_trans (one-le-mul p h) (dense-edges k d))

-- so for x and y of at least 1 both groups are empty or neither is
pub dense-both : {g : Graph} → Closed g → {x y : ℕ} {S T : Group} → 1 ≤ x → 1 ≤ y → Dense g x y S T → (1 ≤ card g S) ↔ (1 ≤ card g T)
dense-both k p q d = (dense-other k p d, dense-other (closed-reverse k) q (dense-reverse d))

-- a dense pair inside A and B that is not empty makes the core inside them not empty
pub nonempty-in : {g : Graph} → Closed g → {A B : Group} {x y : ℕ} {S T : Group} → Inside g S A → Inside g T B → Dense g x y S T
    → 1 ≤ card g S → 1 ≤ card g T → NonemptyInside g A B x y
nonempty-in {g} k {A} {B} {x} {y} a b d p q =
    let (S, T, c) = core-exists k A B x y in
    let (i, j) = c.largest _ _ a b d in
    record { S = S; T = T; core = c; some = le_trans p (card_mono g i); other = le_trans q (card_mono g j) }

-- so any dense pair that is not empty makes the core among everyone not empty
pub nonempty : {g : Graph} → Closed g → {x y : ℕ} {S T : Group} → Dense g x y S T → 1 ≤ card g S → 1 ≤ card g T → Nonempty g x y
nonempty k = nonempty-in k (λ u l h. refl) (λ v l h. refl)

-- then those for smaller x and y are not empty
pub nonempty-nested : {g : Graph} → Closed g → {A B : Group} {x y x' y' : ℕ} → x' ≤ x → y' ≤ y → NonemptyInside g A B x y → NonemptyInside g A B x' y'
nonempty-nested k p q n = nonempty-in k n.core.sources n.core.targets (dense-nested p q n.core.dense) n.some n.other

-- nor is the one of the reversed graph
pub nonempty-reverse : {g : Graph} {A B : Group} {x y : ℕ} → NonemptyInside g A B x y → NonemptyInside (reverse g) B A y x
nonempty-reverse n = record { S = n.T; T = n.S; core = core-reverse n.core; some = n.other; other = n.some }

-- and each core has somebody on both sides
pub core-some : {g : Graph} {A B : Group} {x y : ℕ} {S T : Group} → NonemptyInside g A B x y → CoreInside g A B x y S T → (1 ≤ card g S) × (1 ≤ card g T)
core-some {g} n c = grind (arith, nat_tests, le_trans, card_mono)
