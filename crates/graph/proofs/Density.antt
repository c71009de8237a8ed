-- No pair of groups is more than twice as dense as the finding.
use Prim.Native.Nat.{ℕ, suc, ◌+◌, ◌*◌, ◌/◌, ◌<◌, ◌≤◌}
use mathlib.Core.Bool.{true}
use mathlib.Core.Logic.{⊎_elim}
use mathlib.Core.Path.{◌≡◌}
use native.Mathlib.Nat.{lt-suc_self, mul-le-mul, mul-le-mul_left, mul-le-mul_right, le_of_mul-le-mul_right, div-lt_iff_lt-mul, eq-zero-or-pos}
use native.Mathlib.Omega.{arith}
use Rattle.graph.specs.Graph.{Graph, reverse, Group, card, edges, out_degree, in_degree}
use Rattle.graph.specs.Shapes.{Closed}
use Rattle.graph.specs.Core.{Inside, Nonempty, FindingInside, BoundsInside}
use Rattle.graph.proofs.Degrees.{closed-reverse, only, without, edges-reverse, edges_some, edges-other, edges-without, card-without}
use Rattle.graph.proofs.Peel.{Enough, peel}
use Rattle.graph.proofs.Exists.{dense-edges, dense-edges-in, nonempty, nonempty-reverse}
use Rattle.graph.proofs.Within.{closed-within, edges-inside, nonempty-within}

-- some non-empty [x,y]-core has x * y large enough for the bound on the links from S to T
pub record Bounded (g : Graph) (S T : Group) : Type 0 where
  pub x : ℕ
  pub y : ℕ
  pub x-positive : 1 ≤ x
  pub y-positive : 1 ≤ y
  pub nonempty : Nonempty g x y
  pub bound : edges g S T * edges g S T ≤ 4 * (x * y) * (card g S * card g T)

-- and so in the reversed graph
bounded-reverse : {g : Graph} {S T : Group} → Bounded g S T → Bounded (reverse g) T S
bounded-reverse {g} {S} {T} b =
    record {
      x = b.y;
      y = b.x;
      x-positive = b.y-positive;
      y-positive = b.x-positive;
      nonempty = nonempty-reverse b.nonempty;
      bound = rw (edges-reverse g S T) (omega (arith, b.bound));
    }

-- e links from a vertices, and e' when one vertex with d links is taken out: if d is small the density does not sink
keeps : {e a : ℕ} (e' d a' c : ℕ) → e ≡ e' + d → a ≡ a' + 1 → d * (2 * a) ≤ e → 1 ≤ a' → e' * e' ≤ c * a' → e * e ≤ c * a
keeps e' d a' c p q l s h =
    let l' : d * (2 * (a' + 1)) ≤ e' + d = rw (← p, ← q) l in
    rw (p, q) (le_of_mul-le-mul_right {k = a'} (omega (arith, mul-le-mul_left e' l', mul-le-mul_left d l', mul-le-mul_right (a' + 1) h)) s)

-- and some links are left
leaves : {e a : ℕ} (e' d a' : ℕ) → e ≡ e' + d → a ≡ a' + 1 → d * (2 * a) ≤ e → 1 ≤ e → 1 ≤ e'
leaves e' d a' p q l s = let l' : d * (2 * (a' + 1)) ≤ e' + d = rw (← p, ← q) l in omega arith

-- so if the bound holds without the vertex, it holds
lighter : {g : Graph} → Closed g → {S T : Group} (u : ℕ) → u < g.order → S u ≡ true → 1 ≤ edges g S T → out_degree g T u * (2 * card g S) ≤ edges g S T
    → (1 ≤ edges g (without S u) T → Bounded g (without S u) T) → Bounded g S T
lighter {g} k {S} {T} u l s p h rest = go (leaves _ _ _ e c h p)
  where
    e : edges g S T ≡ edges g (without S u) T + out_degree g T u
    e = edges-without k S T u l s

    c : card g S ≡ card g (without S u) + 1
    c = card-without g S u l s

    go : 1 ≤ edges g (without S u) T → Bounded g S T
    go q =
        let b = rest q in
        record {
          x = b.x;
          y = b.y;
          x-positive = b.x-positive;
          y-positive = b.y-positive;
          nonempty = b.nonempty;
          bound = omega (arith, keeps _ _ _ (4 * (b.x * b.y) * card g T) e c h (edges_some k (without S u) T q) (omega (arith, b.bound)));
        }

-- x such that 2 * a * x is just above e
abbrev half : ℕ → ℕ → ℕ
half e a = suc (e / (2 * a))

-- no d with 2 * a * d above e is smaller
half_le : (e a d : ℕ) → 1 ≤ a → e < d * (2 * a) → half e a ≤ d
half_le e a d p h = (div-lt_iff_lt-mul {k = 2 * a} (omega arith)).1 h

-- and it is above e itself
half_lt : (e a : ℕ) → 1 ≤ a → e < half e a * (2 * a)
half_lt e a p = (div-lt_iff_lt-mul {k = 2 * a} (omega arith)).0 (lt-suc_self _)

-- where nobody has so few links the pair itself is dense enough
balanced : {g : Graph} → Closed g → {S T : Group} → 1 ≤ edges g S T → Enough S (λ u. out_degree g T u * (2 * card g S)) (suc (edges g S T)) g.order
    → Enough T (λ v. in_degree g S v * (2 * card g T)) (suc (edges g S T)) g.order → Bounded g S T
balanced {g} k {S} {T} p f h =
    let e = edges g S T in
    let a = edges_some k S T p in
    let b = edges-other k S T p in
    record {
      x = half e (card g S);
      y = half e (card g T);
      x-positive = omega arith;
      y-positive = omega arith;
      nonempty =
          nonempty k (record {
            out = λ u l s. half_le e (card g S) _ a (f u l s);
            inn = λ v l s. half_le e (card g T) _ b (h v l s);
          }) a b;
      bound = omega (arith, mul-le-mul (half_lt e (card g S) a) (half_lt e (card g T) b));
    }

-- every pair with links between it is so bounded
pub bounded : {g : Graph} → Closed g → (S T : Group) → 1 ≤ edges g S T → Bounded g S T
bounded {g} k =
    peel g (λ S T. 1 ≤ edges g S T → Bounded g S T) (λ S T u. out_degree g T u * (2 * card g S)) (λ S T v. in_degree g S v * (2 * card g T))
    (λ S T. suc (edges g S T)) (λ S T. suc (edges g S T)) (λ S T u l s d rec p. lighter k u l s p (omega arith) rec) (λ S T v l s d rec p.
    bounded-reverse (lighter (closed-reverse k) v l s (rw (edges-reverse g S T) p) (rw (edges-reverse g S (only v), edges-reverse g S T) (omega arith))
    (λ q. bounded-reverse (rec (rw (edges-reverse g S (without T v)) at q))))) (λ S T p q e. balanced k e p q)

-- the greatest product bounds every pair
greatest : {g : Graph} → Closed g → (x y : ℕ) (S T : Group) → ((x' y' : ℕ) → 1 ≤ x' → 1 ≤ y' → Nonempty g x' y' → x' * y' ≤ x * y)
    → edges g S T * edges g S T ≤ 4 * (x * y) * (card g S * card g T)
greatest {g} k x y S T h = ⊎_elim none some (eq-zero-or-pos (edges g S T))
  where
    none : edges g S T ≡ 0 → edges g S T * edges g S T ≤ 4 * (x * y) * (card g S * card g T)
    none e = rw e (omega arith)

    some : 1 ≤ edges g S T → edges g S T * edges g S T ≤ 4 * (x * y) * (card g S * card g T)
    some p =
        let b = bounded k S T p in
        omega (arith, b.bound, mul-le-mul_right (card g S * card g T) (h b.x b.y b.x-positive b.y-positive b.nonempty))

-- condition 3: no pair inside A and B is more than twice as dense as the finding there, by the graph in which only their links count
pub finding-bounds : {g : Graph} → Closed g → {A B : Group} {x y : ℕ} {S T : Group} → FindingInside g A B x y S T → BoundsInside g A B x y S T
finding-bounds {g} k {A} {B} {x} {y} {S} {T} f =
    record {
      above = λ S' T' i j p q. above S' T' i j;
      below = below;
      twice = λ S' T' i j p q. omega (arith, mul-le-mul_right (card g S * card g T) (above S' T' i j), mul-le-mul_right (card g S' * card g T') below);
    }
  where
    above : (S' T' : Group) → Inside g S' A → Inside g T' B → edges g S' T' * edges g S' T' ≤ 4 * (x * y) * (card g S' * card g T')
    above S' T' i j =
        rw (← edges-inside k A B i j)
        (greatest (closed-within k A B) x y S' T' (λ x' y' p q n. (f.before x' y' p q ((nonempty-within k A B x' y' p q).0 n)).product))

    below : x * y * (card g S * card g T) ≤ edges g S T * edges g S T
    below = omega (arith, mul-le-mul (dense-edges k f.core.dense) (dense-edges-in k f.core.dense))
