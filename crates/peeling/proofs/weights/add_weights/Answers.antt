use Rattle.std.proofs.Common.{◌≡◌, ℕ, ◌*◌, ◌<◌, ◌≤◌, ◌++◌, length, get_or, List, take, drop, replicate, rules, arith}
use Rattle.std.proofs.lemmas.List.{places}
use native.Mathlib.Nat.{le_refl}
use Rattle.peeling.proofs.Weighing.{from-first, add-begins, add-inside, add-room, add-next, add-ends}
use Rattle.peeling.proofs.weights.add_weights.Goals as goal

pub slice_bounds-entry-items-count : goal.slice_bounds-entry-items-count
slice_bounds-entry-items-count c = omega (arith, from-first c.requires.rows (2 * c.args.extent.order) (le_refl _))

pub slice_bounds-entry-items-start : goal.slice_bounds-entry-items-start
slice_bounds-entry-items-start c = omega (arith, from-first c.requires.rows (2 * c.args.extent.order) (le_refl _))

-- the part that is filled with 0 is of the places
cleared-part : (k : ℕ) (t ys : List ℕ) → k ≤ length t → ys ≡ replicate (length (take k t)) 0 → (length (ys ++ drop k t) ≡ length t) × ((p : ℕ) → p < k → get_or (ys ++ drop k t) p 0 ≡ 0)
cleared-part k t ys l e = (rw e (search (rules, places)), λ p b. rw e (search (rules, places)))

pub loop-entry-init : goal.loop-entry-init
loop-entry-init c =
    let filled = cleared-part (2 * c.args.extent.order) c.args.degrees.now c.fill.new.self c.requires.room (c.fill.ensures.after (λ y k. k)) in
    add-begins filled.0 filled.1

pub bounds-degrees-place : goal.bounds-degrees-place
bounds-degrees-place c =
    add-inside c.requires.rows c.from.ensures c.from-2.ensures c.requires.room c.loop-entry.invariant c.loop-entry-test.true c.place_in-place.ensures c.weight_in.ensures

pub bounds-degrees-place-in-loop-entry : goal.bounds-degrees-place-in-loop-entry
bounds-degrees-place-in-loop-entry c =
    add-inside c.requires.rows c.from.ensures c.from-2.ensures c.requires.room c.loop-entry.invariant c.loop-entry-test.true c.place_in-place.ensures c.weight_in.ensures

pub overflow_add-degrees : goal.overflow_add-degrees
overflow_add-degrees c =
    omega (
      arith,
      add-room c.requires.rows c.from.ensures c.from-2.ensures c.requires.room c.loop-entry.invariant c.loop-entry-test.true c.place_in-place.ensures c.weight_in.ensures,
    )

pub loop-entry-preserved : goal.loop-entry-preserved
loop-entry-preserved c =
    add-next c.requires.rows c.from.ensures c.from-2.ensures c.requires.room c.loop-entry.invariant c.loop-entry-test.true c.place_in-place.ensures c.weight_in.ensures

pub returns-clause-degrees : goal.returns-clause-degrees
returns-clause-degrees c =
    add-ends c.requires.rows c.from.ensures c.from-2.ensures c.requires.room c.loop-entry.invariant (omega (arith, c.loop-entry.auto.entry-index-end))
