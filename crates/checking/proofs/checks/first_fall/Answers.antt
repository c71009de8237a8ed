-- `first_fall` looks for the first edge that does not come after the one preceding it.
use Rattle.std.proofs.Common.{◌≡◌, ℕ, suc, ◌<◌, ◌≤◌, ◌-◌, true, false, Option, Some, None, MatchOption, subst, arith, rules, tests}
use Rattle.std.proofs.lemmas.Iterator.{first_from_Range}
use Rattle.graph.specs.Graph.{Graph}
use Rattle.graph.specs.Order.{ascends, Ascending}
use Rattle.network.specs.File.{graph_of}
use Rattle.checking.specs.Headers.{FallsAt}
use Rattle.checking.proofs.checks.first_fall.Goals as goal

-- each edge below k comes after the one preceding it
abbrev Rises : Graph → ℕ → Type 0
Rises g k = (e : ℕ) → 1 ≤ e → e < k → ascends g (e - 1) e ≡ true

before : (g : Graph) (k : ℕ) → Rises g k → (e : ℕ) → suc e < k → ascends g e (suc e) ≡ true
before g k h e l = let one : suc e - 1 ≡ e = omega arith in subst (λ d. ascends g d (suc e) ≡ true) one (h (suc e) (omega arith) l)

-- what is found is where they stop
falls-at : (g : Graph) (n : ℕ) (r : Option ℕ) → n ≡ g.size → MatchOption r (Rises g n) (λ k. (1 ≤ k) × (k < n) × (ascends g (k - 1) k ≡ false) × Rises g k)
    → MatchOption r (Ascending g) (λ k. FallsAt g k)
falls-at g n None q h = λ e l. before g n h e (omega arith)
falls-at g n (Some k) q h = record { edge = omega (arith, h.1); some = h.0; before = before g k h.3; falls = h.2 }

pub returns : goal.returns
returns c =
    let g = graph_of c.args.file.now.bytes.now in
    falls-at g _ c.find.result c.size_of-size.ensures.0
    (first_from_Range _ _ _ _ (λ i. ascends g (i - 1) i ≡ false) (λ i. ascends g (i - 1) i ≡ true) c.find.ensures.ran
    (λ x q k. search (rules, tests)) (λ x q k. (search rules, search (rules, tests))))
