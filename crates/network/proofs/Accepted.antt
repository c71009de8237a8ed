-- When a file is accepted, what that says of its network, and how the refusal of a call is taken apart.
use Prim.Native.Nat.{ℕ, ◌+◌, ◌<◌, ◌≤◌}
use mathlib.Core.Bool.{Bool, true, false, not, cond, ◌&&◌, ◌||◌, false≢true, and-eq-true_iff}
use mathlib.Core.List.{List, [], ◌∷◌}
use mathlib.Core.Logic.Iff
use mathlib.Core.Logic.{◌↔◌, ◌≢◌}
use mathlib.Core.Path.{◌≡◌, refl, sym}
use native.Mathlib.Decide.{dec_le}
use native.Mathlib.Nat.{le_antisymm}
use native.Mathlib.Omega.{arith}
use borrow.Author.Tests.{ltb-false, leb-true, leb-false, eqb-true, not-false, le-ltb, le-leb, lt-leb, eq-eqb, ne_eqb}
use lib.Dec.{eqb, leb, ltb}
use lib.ListN.{length}
use Rattle.graph.specs.Range.{first}
use Rattle.graph.specs.Graph.{Graph}
use Rattle.graph.specs.Shapes.{Closed, Simple}
use Rattle.graph.proofs.Ranges.{first-le, first_passes, first-before, first-least, first-none}
use Rattle.graph.proofs.Ascending.{ascending-simple}
use Rattle.std.specs.Prelude.{Option, None, Some}
use Rattle.std.proofs.lemmas.Option.{none-some}
use Rattle.network.specs.declared.Refusal.{Refusal}
use Rattle.network.specs.declared.Refusal.TheVariants.{Short, Mark, Version, Members, Links, Length, End, Repeat, Table, Member, Group, Zero, Row, Order, Mismatch, Kind}
use Rattle.network.specs.File.{version_of, stride_of, link_at, kind_at, graph_of, outside, unknown, same, repeat, descent, number_of, number_told, or_else, any_order, old_refusal, file_refusal}
use Rattle.network.specs.Accepted.{Distinct, Accepted, Holds}
use Rattle.network.proofs.Descents.{descent-none}
use Rattle.network.proofs.Versions.{version-none, stride-range, link-within}

-- a test for less fails exactly when the other is no greater
pub ltb-fails : (a b : ℕ) → (ltb a b ≡ false) ↔ (b ≤ a)
ltb-fails a b = (ltb-false a b, le-ltb a b)

-- a test for no greater fails exactly when the other is less
pub leb-fails : (a b : ℕ) → (leb a b ≡ false) ↔ (b < a)
leb-fails a b = (leb-false a b, lt-leb a b)

-- a test for no greater holds exactly when it is so
pub leb-holds : (a b : ℕ) → (leb a b ≡ true) ↔ (a ≤ b)
leb-holds a b = (leb-true a b, le-leb a b)

-- a test for equal numbers holds exactly when they are
pub eqb-holds : (a b : ℕ) → (eqb a b ≡ true) ↔ (a ≡ b)
eqb-holds a b = (eqb-true a b, eq-eqb a b)

-- a test that is turned round fails exactly when it holds
pub not-fails : (b : Bool) → (not b ≡ false) ↔ (b ≡ true)
not-fails b = (not-false b, λ h. rw h)

-- two tests of which one has to hold fail exactly when each fails
pub or-fails : (a b : Bool) → ((a || b) ≡ false) ↔ ((a ≡ false) × (b ≡ false))
or-fails true b = (λ h. absurd (false≢true (sym h)), λ (h, i). h)
or-fails false b = (λ h. (refl, h), λ (h, i). i)

-- no number below n passes the test exactly when the first is n
pub first-all : (p : ℕ → Bool) (n : ℕ) → (first p n ≡ n) ↔ ((i : ℕ) → i < n → p i ≡ false)
first-all p n = (λ h i l. first-before p n i (omega arith), first-none p n)

-- the first that passes is not below n exactly when it is n
first-fails : (p : ℕ → Bool) (n : ℕ) → (ltb (first p n) n ≡ false) ↔ (first p n ≡ n)
first-fails p n = (λ h. omega (arith, ltb-false _ n h, first-le p n), λ h. le-ltb _ n (omega arith))

-- a refusal under a test is none exactly when the test fails and what comes after is none
pub cond-none : (b : Bool) (r : Refusal) (s : Option Refusal) → (cond b (Some r) s ≡ None) ↔ ((b ≡ false) × (s ≡ None))
cond-none true r s = (λ h. absurd (none-some r (sym h)), λ (h, i). absurd (false≢true (sym h)))
cond-none false r s = (λ h. (refl, h), λ (h, i). i)

-- two refusals, of which the second counts where the first is none, are none exactly when each is
pub or_else-both : (r s : Option Refusal) → (or_else r s ≡ None) ↔ ((r ≡ None) × (s ≡ None))
or_else-both None s = (λ h. (refl, h), λ (h, i). i)
or_else-both (Some q) s = (λ h. absurd (none-some q (sym h)), λ (h, i). h)

-- no refusal has the number 0,
pub number-some : (q : Refusal) → number_of q ≢ 0
number-some Short h = omega (arith, h)
number-some Mark h = omega (arith, h)
number-some Version h = omega (arith, h)
number-some Members h = omega (arith, h)
number-some Links h = omega (arith, h)
number-some Length h = omega (arith, h)
number-some (End e) h = omega (arith, h)
number-some (Repeat e) h = omega (arith, h)
number-some Table h = omega (arith, h)
number-some Member h = omega (arith, h)
number-some Group h = omega (arith, h)
number-some Zero h = omega (arith, h)
number-some Row h = omega (arith, h)
number-some (Order e) h = omega (arith, h)
number-some Mismatch h = omega (arith, h)
number-some (Kind e) h = omega (arith, h)

-- so that what is told by 0 is none
pub record Proper (r : Option Refusal) : Type 0 where
  pub number-none : number_told r ≡ 0 → r ≡ None

pub proper : (r : Option Refusal) → Proper r
proper None = record { number-none = λ h. refl }
proper (Some q) = record { number-none = λ h. absurd (number-some q h) }

-- as of two refusals the one that counts
pub or_else-proper : {r s : Option Refusal} → Proper r → Proper s → Proper (or_else r s)
or_else-proper {r} {s} p q = proper (or_else r s)

-- no link is outside exactly when each joins two vertices of the graph
pub outside-closed : (g : Graph) → (outside g ≡ g.size) ↔ Closed g
outside-closed g =
    simp (first-all, or-fails, leb-fails)
    (λ h. record { source-below = λ e l. (h e l).0; target_below = λ e l. (h e l).1 }, λ k e l. (k.source-below e l, k.target_below e l))

-- two links are the same exactly when their ends are
pub same_ends : (g : Graph) (d e : ℕ) → (same g d e ≡ true) ↔ ((g.source d ≡ g.source e) × (g.target d ≡ g.target e))
same_ends g d e = simp (and-eq-true_iff, eqb-holds) Iff.rfl

-- no link is repeated exactly when no two are the same
pub repeat-simple : (g : Graph) → (repeat g ≡ g.size) ↔ Simple g
repeat-simple g = simp (first-all, ltb-fails) (simple, distinct)
  where
    none_before : ((e : ℕ) → e < g.size → e ≤ first (λ d. same g d e) e) → (d e : ℕ) → e < g.size → g.source d ≡ g.source e → g.target d ≡ g.target e → e ≤ d
    none_before h d e l s t = omega (arith, h e l, first-least (λ c. same g c e) e d ((same_ends g d e).1 (s, t)))

    simple : ((e : ℕ) → e < g.size → e ≤ first (λ d. same g d e) e) → Simple g
    simple h d e k l s t = le_antisymm (none_before h e d k (sym s) (sym t)) (none_before h d e l s t)

    distinct : Simple g → (e : ℕ) → e < g.size → e ≤ first (λ d. same g d e) e
    distinct s e l =
        elim (dec_le e (first (λ d. same g d e) e)) [
          | yes p ↦ p
          | no p ↦ let (i, j) = (same_ends g _ e).0 (first_passes (λ d. same g d e) e (omega arith)) in absurd (omega (arith, s _ e (omega arith) l i j))
        ]

-- a file of some bytes is not empty
pub some_bytes : (f : List ℕ) → 1 ≤ length f → eqb (length f) 0 ≡ false
some_bytes f l = ne_eqb (length f) 0 (λ e. omega arith)

-- zero bytes are accepted
pub no_bytes : Accepted []
no_bytes =
    record {
      sound = record {
        header = record {
          version-least = omega (arith, version-none [] refl);
          version-most = omega (arith, version-none [] refl);
          order-most = omega arith;
          size-most = omega arith;
          headed = λ h. absurd (omega arith);
        };
        closed = omega arith;
        kinds = λ e h. absurd (omega arith);
      };
      ascending = λ e h. absurd (omega arith);
    }

-- no link has a kind above 7 exactly when the kind of each is at most 7
pub unknown-kinds : (f : List ℕ) → (unknown f ≡ (graph_of f).size) ↔ ((e : ℕ) → e < (graph_of f).size → kind_at f e ≤ 7)
unknown-kinds f = simp (first-all, ltb-fails) Iff.rfl

-- no two links of an accepted file are the same
pub accepted-distinct : {f : List ℕ} → Accepted f → Distinct f
accepted-distinct {f} a = record { sound = a.sound; simple = ascending-simple (graph_of f) a.ascending }

-- a version is read exactly when it is 1 to the latest
version-read : (v latest : ℕ) → ((leb 1 v && leb v latest) ≡ true) ↔ ((1 ≤ v) × (v ≤ latest))
version-read v latest = simp (and-eq-true_iff, leb-holds) Iff.rfl

-- a file passes all tests but that its links ascend exactly when none of these numbers is given, where version 1 or both are read
pub any-accepted : (latest : ℕ) (f : List ℕ) → 1 ≤ latest → latest ≤ 2 → (any_order latest f ≡ None) ↔ (Distinct f × (version_of f ≤ latest))
unfolding any_order
any-accepted latest [] least most = (λ t. (accepted-distinct no_bytes, rw (version-none [] refl) least), λ a. refl)
any-accepted latest (b ∷ r) least most = some (b ∷ r) (omega arith)
  where
    some : (f : List ℕ) → 1 ≤ length f → (any_order latest f ≡ None) ↔ (Distinct f × (version_of f ≤ latest))
    some f l =
        simp (some_bytes f l, cond-none, first-fails, ltb-fails, not-fails, version-read, eqb-holds) (
          λ t. let v : version_of f ≤ 2 = omega arith in
              search ((outside-closed (graph_of f)).0, (unknown-kinds f).0, (repeat-simple (graph_of f)).0),
          λ (a, v). let h = a.sound.header.headed l in
              search ((outside-closed (graph_of f)).1 a.sound.closed, (unknown-kinds f).1 a.sound.kinds, (repeat-simple (graph_of f)).1 a.simple) depth 12,
        )

-- a file is accepted by the old rule exactly when it is of version 1 and passes them
pub old-accepted : (f : List ℕ) → (old_refusal f ≡ None) ↔ (Distinct f × (version_of f ≤ 1))
old-accepted f = any-accepted 1 f (omega arith) (omega arith)

-- so it is of version 1
pub old-version : (f : List ℕ) → old_refusal f ≡ None → version_of f ≡ 1
old-version f e = let (d, v) = (old-accepted f).0 e in omega (arith, d.sound.header.version-least)

-- a file is accepted exactly when none of its own numbers is given
pub accepted : (f : List ℕ) → (file_refusal f ≡ None) ↔ Accepted f
unfolding file_refusal
accepted f = (taken, given)
  where
    g : Graph
    g = graph_of f

    -- 15 is not given exactly when no link comes before the one preceding it
    stands : (cond (ltb (descent g) g.size) (Some (Order (descent g))) None ≡ None) ↔ (descent g ≡ g.size)
    stands = (λ h. (first-fails _ _).0 ((cond-none _ (Order (descent g)) None).0 h).0, λ h. rw ((first-fails _ _).1 h))

    -- the other numbers
    rest : (any_order 2 f ≡ None) ↔ (Distinct f × (version_of f ≤ 2))
    rest = any-accepted 2 f (omega arith) (omega arith)

    taken : file_refusal f ≡ None → Accepted f
    taken h =
        let (p, q) = (or_else-both (any_order 2 f) _).0 h in
        let d = (rest.0 p).0 in
        record { sound = d.sound; ascending = (descent-none g d.simple).0 (stands.0 q) }

    given : Accepted f → file_refusal f ≡ None
    given a =
        let d = accepted-distinct a in
        (or_else-both (any_order 2 f) _).1 (rest.1 (d, a.sound.header.version-most), stands.1 ((descent-none g d.simple).1 a.ascending))

-- where another refusal comes after the file's, there is none exactly when the file is accepted and the other is none
pub accepted-or_else : (f : List ℕ) (s : Option Refusal) → (or_else (file_refusal f) s ≡ None) ↔ (Accepted f × (s ≡ None))
accepted-or_else f s =
    (λ h. let (p, q) = (or_else-both (file_refusal f) s).0 h in ((accepted f).0 p, q), λ (p, q). (or_else-both (file_refusal f) s).1 ((accepted f).1 p, q))

-- every edge lies within its file, all its bytes
pub edge-within : (f : List ℕ) (e : ℕ) → Holds f e → (e < 65536) × (link_at (stride_of f) e + stride_of f ≤ length f)
edge-within [] e (h, l) = absurd (omega arith)
edge-within (b ∷ r) e (h, l) = omega (arith, (h.headed (omega arith)).exact, h.size-most, link-within (stride_of (b ∷ r)) e (graph_of (b ∷ r)).size l)

-- where it begins there are its four bytes or five
pub edge-room : (f : List ℕ) (s e : ℕ) → Holds f e → s ≡ stride_of f → (4 ≤ s) × (s ≤ 5) × (e < 65536) × (link_at s e + s ≤ length f)
edge-room f s e h q =
    rw q (let (l, m) = edge-within f e h in let (least, most) = stride-range (version_of f) in (least, most, l, m))
