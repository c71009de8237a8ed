-- The refusal of two files, test by test.
use mathlib.Core.List.{List}
use mathlib.Core.Logic.{◌≢◌}
use mathlib.Core.Path.{◌≡◌, sym, ◌∙◌}
use Prim.Native.Nat.{ℕ}
use borrow.Author.Tests.{eq-eqb, ne_eqb}
use Rattle.std.proofs.lemmas.Bool.Decides.{nat_tests}
use native.Mathlib.Omega.{arith}
use Rattle.std.specs.Prelude.{cond, None, Some, Result, IfErr, eqb}
use Rattle.network.specs.declared.Refusal.{Refusal}
use Rattle.network.specs.declared.Refusal.TheVariants.{Mismatch}
use Rattle.network.specs.File.{graph_of, or_else, file_refusal}
use Rattle.network.specs.Accepted.{Accepted}
use Rattle.network.proofs.Accepted.{accepted, accepted-or_else}
use Rattle.network.proofs.Answers.{or_else-second, or_else-told}
use Rattle.merging.specs.Calls.{pair_refusal}

-- what an answer tells of the first file is told of the two,
pub first-told : {Value : Type 0} (f f' : List ℕ) (answer : Result Value Refusal) → IfErr answer (λ r. file_refusal f ≡ Some r) → IfErr answer (λ r. pair_refusal f f' ≡ Some r)
unfolding pair_refusal
first-told f f' = or_else-told (file_refusal f) _

module _ (f f' : List ℕ) (a : Accepted f) where
  -- then what is told of the second,
  pub second-told : {Value : Type 0} (answer : Result Value Refusal) → IfErr answer (λ r. file_refusal f' ≡ Some r) → IfErr answer (λ r. pair_refusal f f' ≡ Some r)
  unfolding pair_refusal
  second-told answer h = rw (or_else-second (or_else (file_refusal f') (cond (eqb (graph_of f).order (graph_of f').order) None (Some Mismatch))) ((accepted f).1 a)) (or_else-told (file_refusal f') _ answer h)

  module _ (b : Accepted f') where
    -- then 21,
    pub pair-apart : (graph_of f).order ≢ (graph_of f').order → pair_refusal f f' ≡ Some Mismatch
    unfolding pair_refusal
    pair-apart n = or_else-second _ ((accepted f).1 a) ∙ or_else-second _ ((accepted f').1 b) ∙ rw (ne_eqb (graph_of f).order (graph_of f').order n)

    -- else none
    pub pair-none : (graph_of f).order ≡ (graph_of f').order → pair_refusal f f' ≡ None
    unfolding pair_refusal
    pair-none n = or_else-second _ ((accepted f).1 a) ∙ or_else-second _ ((accepted f').1 b) ∙ rw (eq-eqb (graph_of f).order (graph_of f').order n)

-- what the tests decide that come after those of each file
pub ruleset pair_ways = (pair-apart, pair-none)

-- where there is none both are accepted, over one n
pub pair-accepted : (f f' : List ℕ) → pair_refusal f f' ≡ None → Accepted f × Accepted f' × ((graph_of f).order ≡ (graph_of f').order)
unfolding pair_refusal
pair-accepted f f' h =
    let (a, s) = (accepted-or_else f _).0 h in
    let (b, n) = (accepted-or_else f' _).0 s in
    (a, b, grind (arith, nat_tests))

-- so the two may be exchanged
pub pair-exchanged : (f f' : List ℕ) → pair_refusal f f' ≡ None → pair_refusal f' f ≡ None
pair-exchanged f f' h = let (a, b, n) = pair-accepted f f' h in pair-none f' f b a (sym n)
