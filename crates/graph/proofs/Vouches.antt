-- What one edge more, from u to v, moves. A dense pair stays dense. And one that is dense with that edge is dense without it for one edge less to each of
-- T, once u is taken out of S: the others of S lose nothing, and each of T loses at most the one edge that u had to it. So a core that is not empty stays so,
-- and one that is not empty with the edge, for y + 1, was not without it, for y of at least 1. In the reversed graph this is said of x.
use Prim.Native.Nat.{ℕ, zero, suc, ◌+◌, ◌<◌, ◌≤◌}
use mathlib.Core.Bool.{true, false, not, Bool-discrete, false≢true}
use mathlib.Core.Logic.{inl, inr, ⊎_elim}
use mathlib.Core.Path.{◌≡◌, refl, sym, ◌∙◌}
use native.Mathlib.Nat.{le_refl, le_trans}
use native.Mathlib.Omega.{arith}
use borrow.Author.Tests.{eq-eqb}
use lib.Dec.{eqb}
use Rattle.std.proofs.lemmas.Bool.Decides.{nat_tests}
use Rattle.graph.specs.Graph.{Graph, reverse, Linked, Group, card, edges}
use Rattle.graph.specs.Core.{Dense, NonemptyInside, Greatest}
use Rattle.graph.specs.Rises.{LinkedOr, Rises, LevelsRise}
use Rattle.graph.specs.Adding.{Plain, Added, Raised}
use Rattle.graph.proofs.Tests.{and_right}
use Rattle.graph.proofs.Degrees.{closed-reverse, only, without, edges-mono, edges-without, inside-without, without-inside}
use Rattle.graph.proofs.Exists.{dense-reverse, dense-other, nonempty-in, nonempty-nested, nonempty-reverse}
use Rattle.graph.proofs.Pairs.{pair-most, linked-le}

-- Where a property is raised, the greatest number that has it rises by 0 or 1
greatest-rises : {P Q : ℕ → Type 0} {k k' : ℕ} → Raised P Q → Greatest P k → Greatest Q k' → Rises k k'
greatest-rises {P} {Q} {k} {k'} r a b = (grind (arith, nat_tests), omega (arith, down k' b))
  where
    down : (i : ℕ) → Greatest Q i → i ≤ k + 1
    down zero c = omega arith
    down (suc j) c = grind (arith, nat_tests)

-- an edge turned round,
linked-reverse : (g : Graph) {a b : ℕ} → Linked g a b → Linked (reverse g) b a
linked-reverse g (e, l, s, t) = (e, l, t, s)

-- one of the graph's or the one more,
or-reverse : (g : Graph) {u v a b : ℕ} → LinkedOr g u v a b → LinkedOr (reverse g) v u b a
or-reverse g i = ⊎_elim (λ l. inl (linked-reverse g l)) (λ (p, q). inr (q, p)) i

-- a plain graph turned round, which is plain,
plain-reverse : {g : Graph} → Plain g → Plain (reverse g)
plain-reverse p = record { closed = closed-reverse p.closed; simple = λ d e l m s t. p.simple d e l m t s }

-- and two of which the second has one edge more
added-reverse : {g h : Graph} {u v : ℕ} → Added g h u v → Added (reverse g) (reverse h) v u
added-reverse {g} {h} o =
    record {
      first = plain-reverse o.first;
      second = plain-reverse o.second;
      first_single = o.first_single;
      second_single = o.second_single;
      order = o.order;
      linked = λ a b. (λ l. or-reverse g ((o.linked b a).0 (linked-reverse (reverse h) l)), λ i. linked-reverse h ((o.linked b a).1 (or-reverse (reverse g) i)));
    }

module _ {g h : Graph} {u v : ℕ} (o : Added g h u v) where
  -- between groups no less is counted,
  no-less : (S T : Group) → edges g S T ≤ edges h S T
  no-less S T = linked-le o.first o.first_single o.second o.second_single o.order S T (λ a b s t l. (o.linked a b).1 (inl l))

  -- and no more where u is not in S
  no-more : (S T : Group) → S u ≡ false → edges h S T ≤ edges g S T
  no-more S T n =
      linked-le o.second o.second_single o.first o.first_single (sym o.order) S T (λ a b s t l.
      ⊎_elim (λ i. i) (λ (p, q). absurd (false≢true (sym n ∙ (rw p at s)))) ((o.linked a b).0 l))

  -- the edge is there
  new : Linked h u v
  new = (o.linked u v).1 (inr (refl, refl))

  -- u is a vertex
  source : u < h.order
  source = let (e, l, s, t) = new in rw s at (o.second.closed.source-below e l)

  -- without u, each of T loses at most one edge
  one-less : (S : Group) (t : ℕ) → edges h S (only t) ≤ edges g (without S u) (only t) + 1
  one-less S t =
      let rest = no-more (without S u) (only t) (rw (eq-eqb u u refl) refl) in
      elim (Bool-discrete (S u) true) [
        | yes s ↦ omega (arith, rest, edges-without o.second.closed S (only t) u source s, pair-most h 1 o.second.simple (λ e l. omega (arith, o.second_single e l)) u t)
        | no s ↦ omega (arith, rest, edges-mono o.second.closed {T = only t} {T' = only t} (inside-without h {R = S} {S = S} u (λ w l i. i) s) (λ w l i. i))
      ]

  -- a dense pair stays dense,
  dense-stays : {x y : ℕ} {S T : Group} → Dense g x y S T → Dense h x y S T
  dense-stays {S = S} {T = T} d =
      record {
        out = λ w l s. omega (arith, o.order, d.out w (omega (arith, o.order)) s, no-less (only w) T);
        inn = λ w l t. omega (arith, o.order, d.inn w (omega (arith, o.order)) t, no-less S (only w));
      }

  -- and without u one is dense for one edge less to each of T
  dense-fewer : {x y : ℕ} {S T : Group} → Dense h x (suc y) S T → Dense g x y (without S u) T
  dense-fewer {S = S} {T = T} d =
      record {
        out = λ w l s. le_trans (d.out w (rw o.order l) (and_right (not (eqb w u)) (S w) s)) (no-more (only w) T (other w s));
        inn = λ w l t. omega (arith, d.inn w (rw o.order l) t, one-less S w);
      }
    where
      other : (w : ℕ) → without S u w ≡ true → only w u ≡ false
      other w s = grind (arith, nat_tests)

  -- so a core that is not empty stays so,
  nonempty-stays : {A B : Group} {x y : ℕ} → NonemptyInside g A B x y → NonemptyInside h A B x y
  nonempty-stays n =
      nonempty-in o.second.closed (λ w l. n.core.sources w (rw o.order at l)) (λ w l. n.core.targets w (rw o.order at l))
      (dense-stays n.core.dense) (rw o.order n.some) (rw o.order n.other)

  -- and one for y + 1 was not empty for y of at least 1, by which somebody is left in S
  nonempty-fewer : {A B : Group} {x y : ℕ} → 1 ≤ y → NonemptyInside h A B x (suc y) → NonemptyInside g A B x y
  nonempty-fewer {x = x} {y = y} l n =
      let d : Dense g x y (without n.S u) n.T = dense-fewer n.core.dense in
      let t : 1 ≤ card g n.T = rw o.order at n.other in
      nonempty-in o.first.closed (without-inside g u (λ w i. n.core.sources w (rw o.order i))) (λ w i. n.core.targets w (rw o.order i))
      d (dense-other (closed-reverse o.first.closed) l (dense-reverse d) t) t

  -- So what holds of y, for one x, is raised,
  raised : (A B : Group) (x : ℕ) → Raised (NonemptyInside g A B x) (NonemptyInside h A B x)
  raised A B x = record { stays = λ y. nonempty-stays; fewer = λ y l. nonempty-fewer (omega arith) }

  -- and what holds of both at once
  raised-equal : (A B : Group) → Raised (λ k. NonemptyInside g A B k k) (λ k. NonemptyInside h A B k k)
  raised-equal A B =
      record { stays = λ k. nonempty-stays; fewer = λ k l n. nonempty-nested o.first.closed {x' = k} (omega arith) (le_refl k) (nonempty-fewer (omega arith) n) }

-- in the reversed graph what holds of x, for one y
raised-across : {g h : Graph} {u v : ℕ} → Added g h u v → (A B : Group) (y : ℕ)
    → Raised (λ x. NonemptyInside g A B x y) (λ x. NonemptyInside h A B x y)
raised-across o A B y =
    let r = raised (added-reverse o) B A y in
    record { stays = λ x. nonempty-stays o; fewer = λ x l n. nonempty-reverse (r.fewer x l (nonempty-reverse n)) }

-- 02, wish 12: so each level rises by 0 or 1
pub levels-rise : {g h : Graph} {u v : ℕ} → Added g h u v → LevelsRise g h
levels-rise o =
    record {
      level = λ A B x k k'. greatest-rises (raised o A B x);
      level_across = λ A B y k k'. greatest-rises (raised-across o A B y);
      equal_level = λ A B k k'. greatest-rises (raised-equal o A B);
    }
