-- A turn drops the place that the finder drops, and E, |S| and |T| follow: E falls by the place's links to places that are left, which are its key,
-- and its own side by one.
use Prim.Native.Nat.{ℕ, suc, ◌+◌, ◌-◌, ◌*◌, ◌<◌, ◌≤◌}
use mathlib.Core.Bool.{true, false, false≢true}
use mathlib.Core.List.{List}
use mathlib.Core.Logic.{◌≢◌}
use mathlib.Core.Path.{◌≡◌, refl, sym, ap, ◌∙◌}
use native.Mathlib.Decide.{dec_lt}
use native.Mathlib.Omega.{arith}
use lib.Dec.{ltb}
use borrow.Author.Tests.{lt-ltb, ltb-true, ltb-false, lt-leb}
use Rattle.graph.specs.Graph.{Graph, everyone}
use Rattle.graph.specs.Shapes.{Closed}
use Rattle.graph.specs.Places.{targets}
use Rattle.graph.specs.Cover.{joined}
use Rattle.graph.specs.Harmonic.{state_after, links_after}
use Rattle.graph.specs.Drops.{Light, degree_in, drop_at, first_mark}
use Rattle.graph.proofs.Degrees.{some-card}
use Rattle.graph.proofs.Linkage.{degree-mono}
use Rattle.graph.proofs.Cover.{joined-symmetric, drop-source, drop-target}
use Rattle.graph.proofs.Harmonic.{drop-least, degree-next, links-next, size-next}
use Rattle.graph.proofs.Keys.{keys-test, keys-pick, keys-next, keys-end, drop-key}
use Rattle.network.specs.declared.Side.{Side}
use Rattle.network.specs.declared.Side.TheVariants.{Source, Target}
use Rattle.network.specs.declared.Totals.{Totals}
use Rattle.peeling.specs.Peeling.{degree_of, between, Tabled}
use Rattle.peeling.proofs.Kept.{tabled-kept}
use Rattle.peeling.proofs.Totals.{tabled-rows, place-degree}
use Rattle.harmonic.specs.declared.Place.{Place}
use Rattle.harmonic.specs.Walks.{number_on, number_of, Next, Spare, Dropped, without, has_place, totals_after, At}

-- no degree is as great as a mark, since none of the whole graph is
pub light : {g : Graph} {n m : ℕ} {w : List ℕ} → Tabled g n m w → Light g
light {g} {n} t R p l =
    let b : p < 2 * n = omega (arith, t.order) in
    omega (
      arith,
      degree-mono (joined g) {N = 2 * g.order} {Q = R} {R = everyone} (λ q h e. refl) p,
      place-degree t everyone p b,
      (tabled-rows t).light p b,
    )

-- three numbers that are the same are the same totals
totals-by : {a b c a' b' c' : ℕ} → a ≡ a' → b ≡ b' → c ≡ c'
    → Path Totals (record { edges = a; sources = b; targets = c }) (record { edges = a'; sources = b'; targets = c' })
totals-by p q r = rw (p, q, r)

-- E, |S| and |T| when a place is dropped
module _ {g : Graph} (k : Closed g) (i : ℕ) (l : i < 2 * g.order) where
  -- E falls by its degree
  links-fall : links_after g i - degree_in g (state_after g i) (drop_at g i) ≡ links_after g (suc i)
  links-fall = omega (arith, links-next k i l)

  -- and the side of the place by one, which the side has
  pub totals-next : (side : Side) (u : ℕ) → u < g.order → number_on g.order side u ≡ drop_at g i
      → has_place side (totals_after g i) × (without side (degree_in g (state_after g i) (drop_at g i)) (totals_after g i) ≡ totals_after g (suc i))
  unfolding state_after
  totals-next Source u h e =
      let d = drop-least k i l in
      let b : drop_at g i < g.order = omega arith in
      let (s, t) = drop-source g (state_after g i) (drop_at g i) b d.member in
      (some-card g (state_after g i) (drop_at g i) b d.member, totals-by links-fall (omega (arith, s)) (sym t))
  totals-next Target v h e =
      let d = drop-least k i l in
      let m : state_after g i (g.order + v) ≡ true = ap (state_after g i) e ∙ d.member in
      let (s, t) = rw e at (drop-target g (state_after g i) v h m) in
      (some-card g (targets g (state_after g i)) v h m, totals-by links-fall (sym s) (omega (arith, t)))

-- |S| + |T| and the drops are all places
pub at_size : {g : Graph} {n m : ℕ} {w : List ℕ} {i : ℕ} {c : Totals} → At g n m w i c → c.sources + c.targets + i ≡ 2 * n
at_size {g} {n} {i = i} {c = c} a =
    rw a.counted (omega (arith, size-next a.tabled.closed i (omega (arith, a.within, a.tabled.order)), a.tabled.order))

module _ {g : Graph} {n m : ℕ} {w : List ℕ} {i : ℕ} {c : Totals} (a : At g n m w i c) where
  -- where each place is dropped all drops are done
  pub all-dropped : ((p : ℕ) → p < 2 * n → first_mark ≤ degree_of n m w p) → i ≡ 2 * n
  all-dropped h =
      elim (dec_lt i (2 * n)) [
        | no b ↦ omega (arith, a.within)
        | yes b ↦
            let l : i < 2 * g.order = omega (arith, a.tabled.order) in
            let d = drop-least a.tabled.closed i l in
            absurd (omega (
              arith,
              h (drop_at g i) (omega (arith, d.below, a.tabled.order)),
              drop-key a.tabled.closed (light a.tabled) a.keys l,
              light a.tabled (state_after g i) (drop_at g i) d.below,
            ))
      ]

  module _ {p : Place} (next : Next n m w p) where
    abbrev number : ℕ
    number = number_of n p

    -- while one is left they are not
    pub turn-before : i < 2 * g.order
    unfolding state_after
    turn-before =
        elim (dec_lt i (2 * n)) [
          | yes b ↦ omega (arith, a.tabled.order)
          | no b ↦
              let e : i ≡ 2 * g.order = omega (arith, a.within, a.tabled.order) in
              let t = keys-end a.tabled.closed (rw e at a.keys) 0 number (omega (arith, next.least.below, a.tabled.order)) in
              absurd (false≢true (sym (lt-leb first_mark (degree_of n m w number) next.left) ∙ sym t))
        ]

    -- the place with the smallest key is the one to drop
    pub turn-place : number ≡ drop_at g i
    turn-place = keys-pick a.tabled.closed (light a.tabled) a.keys turn-before number (rw a.tabled.order next.least)

    -- its key is its degree
    turn-key : degree_of n m w number ≡ degree_in g (state_after g i) (drop_at g i)
    turn-key = rw turn-place (drop-key a.tabled.closed (light a.tabled) a.keys turn-before)

    -- E, |S| and |T| follow
    turn-totals : has_place p.side c × (without p.side (degree_of n m w number) c ≡ totals_after g (suc i))
    turn-totals =
        rw (turn-key, a.counted)
        (totals-next a.tabled.closed i turn-before p.side p.member (omega (arith, next.inside, a.tabled.order))
        (ap (λ k. number_on k p.side p.member) a.tabled.order ∙ turn-place))

    pub turn-some : has_place p.side c
    turn-some = turn-totals.0

    -- E has the links that it loses
    pub turn-links : degree_of n m w number ≤ c.edges
    turn-links = rw a.counted (omega (arith, turn-key, links-next a.tabled.closed i turn-before))

    -- the edges between the place and another
    edges-to : (q : ℕ) → q < 2 * n → between n w number q ≡ joined g q (drop_at g i)
    edges-to q h =
        rw (turn-place, ← a.tabled.order)
        (a.tabled.indexed.linked (drop_at g i) q (drop-least a.tabled.closed i turn-before).below (omega (arith, a.tabled.order))
        ∙ joined-symmetric g (drop_at g i) q)

    -- which the other has
    pub turn-spare : (q : ℕ) → q < 2 * n → q ≢ number → Spare n m w number q
    turn-spare q h d k =
        let b : q < 2 * g.order = omega (arith, a.tabled.order) in
        let t = keys-test a.tabled.closed (light a.tabled) a.keys q b ∙ lt-ltb _ first_mark k in
        omega (arith, edges-to q h, a.keys.left q b t, degree-next a.tabled.closed i q turn-before)

    -- so when it is dropped the table is that after the drop
    pub turn-next : {w' : List ℕ} → Dropped n m number (first_mark + i) w w' → At g n m w' (suc i) (without p.side (degree_of n m w number) c)
    turn-next {w'} d =
        record {
          tabled = tabled-kept a.tabled d.kept;
          within = omega (arith, turn-before, a.tabled.order);
          keys =
              keys-next a.tabled.closed (light a.tabled) a.keys turn-before (degree_of n m w')
              (rw (← turn-place) d.marked) left gone;
          counted = turn-totals.1;
        }
      where
        test : (q : ℕ) → q < 2 * g.order → state_after g i q ≡ ltb (degree_of n m w q) first_mark
        test = keys-test a.tabled.closed (light a.tabled) a.keys

        left : (q : ℕ) → q < 2 * g.order → q ≢ drop_at g i → state_after g i q ≡ true → degree_of n m w' q + joined g q (drop_at g i) ≡ degree_of n m w q
        left q b e t =
            let h : q < 2 * n = omega (arith, a.tabled.order) in
            omega (arith, edges-to q h, d.lowered q h (λ f. e (f ∙ turn-place)) (ltb-true _ first_mark (sym (test q b) ∙ t)))

        gone : (q : ℕ) → q < 2 * g.order → state_after g i q ≡ false → degree_of n m w' q ≡ degree_of n m w q
        gone q b t =
            let h : q < 2 * n = omega (arith, a.tabled.order) in
            d.others q h (λ f. false≢true (sym t ∙ ap (state_after g i) (f ∙ turn-place) ∙ (drop-least a.tabled.closed i turn-before).member)) (ltb-false _ first_mark (sym (test q b) ∙ t))
