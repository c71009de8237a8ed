-- The later links stand one place further on, and the link at their old place.
use Rattle.std.proofs.Common.{ℕ, suc, ◌≡◌, ◌+◌, ◌-◌, ◌<◌, List, [], ◌∷◌, ◌++◌, length, get_or, set, take, drop, ap, arith, drop-cons, length-drop}
use Rattle.std.proofs.lemmas.List.{append-nil, take-take, take_rest, drop_all, drop-take}
use borrow.Rule.Slice.PartMut.{put_mid}
use Rattle.std.specs.List.{insert, copy_within}
use Rattle.linkset.specs.Tables.{Pairs}
use Rattle.linkset.proofs.insert.Goals as goal

-- the part that moves
shifted : (x link : List ℕ) (later : Pairs) (i j : ℕ) → i ≡ length later → j ≡ suc (length later) → set (take 1 (x ∷ later) ++ (take i (x ∷ later) ++ drop j (x ∷ later))) 0 link ≡ link ∷ take (length later) (x ∷ later)
shifted x link later i j p q = rw (p, q, drop_all (length later) later (omega arith), append-nil)

moved : (x link : List ℕ) (later : Pairs) → set (copy_within (x ∷ later) 0 (length (x ∷ later) - 1) 1) 0 link ≡ link ∷ take (length later) (x ∷ later)
moved x link later = shifted x link later _ _ (omega arith) (omega arith)

put_in : (s : Pairs) (p : ℕ) (link : List ℕ) → p < length s
    → put_mid p (length s - p) s (set (copy_within (take (length s - p) (drop p s)) 0 (length (take (length s - p) (drop p s)) - 1) 1) 0 link) ≡ insert (take (length s - 1) s) p link
put_in s p link h =
    let part : drop p s ≡ get_or s p [] ∷ drop (suc p) s = drop-cons s p [] h in
    let z : length s - 1 ≡ p + length (drop (suc p) s) = omega (arith, length-drop (suc p) s) in
    rw (take_rest s p, drop_all (length s - p) (drop p s) (omega (arith, length-drop p s)), append-nil, z, take-take p (p + length (drop (suc p) s)) s (omega arith), drop-take, part)
    (ap (λ t. take p s ++ t) (moved (get_or s p []) link (drop (suc p) s)))

pub returns : goal.returns
returns c = rw c.copy_within.ensures.after (put_in c.args.set.now c.args.place (c.args.link.source ∷ c.args.link.target ∷ []) c.requires)
