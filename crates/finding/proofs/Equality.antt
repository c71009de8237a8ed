-- Two findings compared: what 11 comes to, when there is no refusal, and that equality is an equivalence.
use mathlib.Core.Bool.{Bool, true, false, ◌&&◌}
use mathlib.Core.Logic.{◌↔◌}
use mathlib.Core.Path.{◌≡◌, refl, sym, ◌∙◌}
use native.Mathlib.Omega.{arith}
use borrow.Author.Tests.{eqb-true, eq-eqb}
use lib.Dec.{eqb}
use Rattle.std.specs.Prelude.{None, Some}
use Rattle.std.proofs.lemmas.Bool.Decides.{nat_tests}
use Rattle.graph.proofs.Tests.{and_left, and_right, and_both}
use Rattle.network.specs.declared.Refusal.TheVariants.{Group}
use Rattle.network.specs.Groups.{is_group}
use Rattle.network.proofs.Answers.{call-done}
use Rattle.finding.specs.declared.compare.Groups.{Groups}
use Rattle.finding.specs.Compared.{group_refusal, SameIn, Fitting}
use Rattle.finding.specs.Equality.{Found, Agree, SamePeople, Equal, equal_refusal, Equivalence}

module _ (one other : Groups) where
  -- 11 is given where one of the two tables of S is no group,
  pub sources-faulty : (is_group one.n one.s.now && is_group other.n other.s.now) ≡ false → group_refusal one other ≡ Some Group
  sources-faulty e = grind (arith, nat_tests)

  -- or one of those of T,
  pub targets-faulty : (is_group one.n one.t.now && is_group other.n other.t.now) ≡ false → group_refusal one other ≡ Some Group
  targets-faulty e = grind (arith, nat_tests)

  -- else not
  pub groups-none : is_group one.n one.s.now ≡ true → is_group one.n one.t.now ≡ true → is_group other.n other.s.now ≡ true → is_group other.n other.t.now ≡ true
      → group_refusal one other ≡ None
  groups-none a b c d = rw (a, b, c, d)

  -- two findings of as many members have the same people where that is told of S and of T
  pub people-told : {sources targets told : Bool} → one.n ≡ other.n → (sources ≡ true) ↔ Agree one.n one.s.now other.s.now → (targets ≡ true) ↔ Agree one.n one.t.now other.t.now
      → told ≡ (sources && targets) → (told ≡ true) ↔ SameIn one other
  people-told {sources} {targets} n (a, b) (c, d) e = (
    (λ h. record { n = n; sources = a (and_left sources targets (sym e ∙ h)); targets = c (and_right sources targets (sym e ∙ h)) }),
    λ h. e ∙ and_both (b h.sources) (d h.targets),
  )

-- there is no refusal where both findings are as required
pub none-refused : (p q : Found) → Fitting p.n p.s p.t → Fitting q.n q.s q.t → equal_refusal p.n p.s p.t q.n q.s q.t ≡ None
unfolding equal_refusal
none-refused p q f g = grind (arith, nat_tests, f.s_group, f.t_group, g.s_group, g.t_group)

-- two findings are equal exactly where x and y are the same, and the people
pub equal-told : (p q : Found) {numbers same told : Bool} → numbers ≡ (eqb p.x q.x && eqb p.y q.y) → (same ≡ true) ↔ SamePeople p.n p.s p.t q.n q.s q.t
    → told ≡ (numbers && same) → (told ≡ true) ↔ Equal p q
equal-told p q {numbers} {same} {told} e (to, from) i = (equal, back)
  where
    equal : told ≡ true → Equal p q
    equal h =
        let k = sym e ∙ and_left numbers same (sym i ∙ h) in
        record { x = eqb-true _ _ (and_left _ (eqb p.y q.y) k); y = eqb-true _ _ (and_right (eqb p.x q.x) _ k); people = to (and_right numbers same (sym i ∙ h)) }

    back : Equal p q → told ≡ true
    back h = i ∙ and_both (e ∙ and_both (eq-eqb _ _ h.x) (eq-eqb _ _ h.y)) (from h.people)

-- which of two findings comes first does not matter to their refusal
refusal-exchanged : (p q : Found) → equal_refusal p.n p.s p.t q.n q.s q.t ≡ equal_refusal q.n q.s q.t p.n p.s p.t
unfolding equal_refusal
refusal-exchanged p q = grind (arith, nat_tests)

equal-symmetric : (p q : Found) → Equal p q → Equal q p
equal-symmetric p q e =
    let m = e.people in
    record {
      x = sym e.x;
      y = sym e.y;
      people = record { n = sym m.n; sources = λ u l. sym (m.sources u (omega (arith, m.n))); targets = λ u l. sym (m.targets u (omega (arith, m.n))) };
    }

equal-transitive : (p q r : Found) → Equal p q → Equal q r → Equal p r
equal-transitive p q r e h =
    let m = e.people in
    let k = h.people in
    record {
      x = e.x ∙ h.x;
      y = e.y ∙ h.y;
      people = record {
        n = m.n ∙ k.n;
        sources = λ u l. m.sources u l ∙ k.sources u (omega (arith, m.n));
        targets = λ u l. m.targets u l ∙ k.targets u (omega (arith, m.n));
      };
    }

-- equality is an equivalence, and the comparison answers so
pub equality : Equivalence
equality =
    record {
      reflexive = λ p. record { x = refl; y = refl; people = record { n = refl; sources = λ u l. refl; targets = λ u l. refl } };
      symmetric = equal-symmetric;
      transitive = equal-transitive;
      exchanged = λ p q answer.
          call-done (refusal-exchanged p q) (λ equal none (to, from). (λ h. equal-symmetric p q (to h), λ h. from (equal-symmetric q p h)));
    }
