-- `put_itself` stores the header of zero bytes, or the file as it stands.
use Rattle.std.proofs.Common.{◌≡◌, ◌<◌, ◌≤◌, ◌++◌, ◌-◌, length, drop, sym, ap, ◌∙◌, arith, tests, rules}
use Rattle.std.proofs.lemmas.List.Edits.{sets}
use Rattle.network.proofs.Puts.{sets-front}
use Rattle.calls.proofs.Itself.{written-itself, written-quiet}
use Rattle.calls.proofs.writes.put_itself.Goals as goal

pub returns-then-is_empty : goal.returns-then-is_empty
returns-then-is_empty c = c.put_header.ensures ∙ ap (sets c.args.out.now 0) (sym (written-quiet c.args.file.now (search (rules, tests))))

pub returns-else-is_empty : goal.returns-else-is_empty
returns-else-is_empty c =
    let file = c.args.file.now in
    let some : 0 < length file = grind (arith, tests) in
    let whole : length file - 0 ≡ length file = omega arith in
    let fits : length file ≤ length c.args.out.now = search rules in
    rw c.copy_from_slice.ensures.after
    (ap (λ n. file ++ drop n c.args.out.now) whole
    ∙ sym (sets-front c.args.out.now file fits)
    ∙ ap (sets c.args.out.now 0) (sym (written-itself file (λ i. omega (arith, c.type_inv.file i)) (c.requires.accepted.sound.header.headed (omega arith)) c.requires.accepted.ascending)))
