-- The later links stand one place further down, and the last at its old place too.
use Rattle.std.proofs.Common.{ℕ, suc, ◌≡◌, refl, ◌+◌, ◌-◌, ◌<◌, [], ◌∷◌, ◌++◌, length, get_or, take, drop, append_assoc, arith, drop-cons, length-drop}
use Rattle.std.proofs.lemmas.List.{append-nil, take_all, take_rest, drop_all, drop-drop}
use borrow.Rule.Slice.PartMut.{put_mid}
use Rattle.std.specs.List.{remove, copy_within}
use Rattle.linkset.specs.Tables.{Pairs}
use Rattle.linkset.proofs.remove.Goals as goal

-- what lies past all but the last link is the last one
last : (s : Pairs) (p n : ℕ) → n ≡ length s - suc p → p < length s → drop n (drop p s) ≡ drop (length s - 1) s
last s p n e h = let z : p + n ≡ length s - 1 = omega arith in rw z at (drop-drop n p s)

taken_out : (s : Pairs) (p : ℕ) → p < length s
    → put_mid p (length s - p) s (copy_within (take (length s - p) (drop p s)) 1 (length (take (length s - p) (drop p s))) 0) ≡ remove s p ++ drop (length s - 1) s
taken_out s p h =
    let part : drop p s ≡ get_or s p [] ∷ drop (suc p) s = drop-cons s p [] h in
    let D = length-drop (suc p) s in
    let n = length (get_or s p [] ∷ drop (suc p) s) - 1 in
    rw (take_rest s p, part, take_all n (drop (suc p) s) (omega arith), drop_all (length s - p) (get_or s p [] ∷ drop (suc p) s) (omega (arith, D)), append-nil, ← part, last s p (0 + n) (omega (arith, D)) h, append_assoc) refl

pub returns : goal.returns
returns c = rw c.copy_within.ensures.after (taken_out c.args.set.now c.args.place c.requires)
