-- The part that is filled holds the degrees of the other side, and nothing else.
use Rattle.std.proofs.Common.{ℕ, ◌≡◌, ◌+◌, ◌-◌, ◌*◌, ◌<◌, ◌≤◌, List, length, get_or, take, drop, replicate, ◌⊎◌, inl, inr, ap, ◌∙◌, rules, arith}
use borrow.Rule.Slice.PartMut.{put_mid}
use Rattle.std.proofs.lemmas.List.{places, length-replicate}
use Rattle.std.proofs.lemmas.Slice.{drop-put_mid}
use Rattle.network.specs.Refusals.{work_length}
use Rattle.peeling.specs.Recounts.{SideAt, Cleared}
use Rattle.raising.proofs.recounts.clear_other.Goals as goal

module _ (n m first a k : ℕ) (w ys : List ℕ) (long : work_length n m ≤ length w) (side : SideAt n first) (p : a ≡ 2 * n + 1 + 2 * m + n - first) (q : k ≡ n) (e : ys ≡ replicate k 0) where
  size : length ys ≡ k
  size = rw e (length-replicate k 0)

  other : (i : ℕ) → (i < a) ⊎ (a + n ≤ i) → get_or (put_mid a k w ys) i 0 ≡ get_or w i 0
  other i (inl h) = rw e (search (rules, places))
  other i (inr h) = rw e (search (rules, places))

  inside : (i : ℕ) → i < n → get_or (put_mid a k w ys) (a + i) 0 ≡ 0
  inside i h = rw e (search (rules, places))

  cleared : Cleared n m first n w (put_mid a k w ys)
  cleared =
      record {
        recounting = record {
          kept = record {
            same_length = rw e (search (rules, places));
            index = λ i h. other i (inl (omega arith));
            past = drop-put_mid a k w ys (work_length n m) (omega arith) (omega arith) size;
          };
          queue = λ i. other (4 * n + 1 + 2 * m + i) (inr (omega arith));
        };
        same = λ i o. other (2 * n + 1 + 2 * m + i) (grind arith);
        zero = λ i h. ap (λ j. get_or (put_mid a k w ys) j 0) (omega arith) ∙ inside i h;
      }

pub returns : goal.returns
returns c =
    let n = c.args.scope.extent.order in
    let a = c.degrees_at.result + n - c.args.first in
    let room : length (take (a + n - a) (drop a c.args.work.now)) ≡ a + n - a = search (rules, places) in
    cleared n _ _ a (a + n - a) _ _ c.requires.long c.requires.side (omega arith) (omega arith) (c.fill.ensures.after (λ y k. k) ∙ ap (λ t. replicate t 0) room)
