use Rattle.std.proofs.Common.{ℕ, ◌≡◌, ◌+◌, ◌<◌, max, leb, List, length, take, drop, get_or, ◌∙◌, arith}
use Rattle.std.proofs.lemmas.Bool.Decides.{nat_tests}
use native.Mathlib.Decide.{dec_lt}
use borrow.Author.Count.{below_more}
use Rattle.std.proofs.lemmas.List.{get_or-take, get_or-drop, length-take}
use Rattle.climbing.specs.Climbs.{Heaviest}
use Rattle.climbing.proofs.degrees.heaviest.Goals as goal

-- the greater of the greatest so far and the next one is the greatest then
heaviest-next : (from i heaviest r : ℕ) (d : ℕ → ℕ) → r ≡ d (from + i) → Heaviest (λ p. leb from p) d (from + i) heaviest
    → Heaviest (λ p. leb from p) d (from + (i + 1)) (max heaviest r)
heaviest-next from i heaviest r d e o =
    let next : from + (i + 1) ≡ from + i + 1 = omega arith in
    rw next
    record {
      all = below_more _ _ (λ p b up. omega (arith, o.all p b up)) (λ up. omega arith);
      reached = λ m. elim (dec_lt heaviest r) [
        | yes l ↦ record { number = from + i; below = omega arith; passes = grind (arith, nat_tests) }
        | no l ↦ let s = o.reached (omega arith) in record { number = s.number; below = omega (arith, s.below); passes = grind (arith, nat_tests, s.passes) }
      ];
    }

-- an entry of a part of a table
entry : (w : List ℕ) (a n i : ℕ) → i < length (take n (drop a w)) → get_or (take n (drop a w)) i 0 ≡ get_or w (a + i) 0
entry w a n i h = get_or-take n (drop a w) i 0 (omega (arith, length-take n (drop a w))) ∙ get_or-drop a w i 0

pub loop-degree-preserved : goal.loop-degree-preserved
loop-degree-preserved c =
    rw c.max-heaviest.ensures
    (heaviest-next c.args.from c.loop-degree.degree-index c.loop-degree.heaviest _ (λ p. get_or c.args.degrees.now p 0) (entry c.args.degrees.now _ _ _ c.loop-degree-test.true) c.loop-degree.invariant)
