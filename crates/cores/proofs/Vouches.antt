-- What one vouch can move, by what the calls tell: an accepted call's number is the level inside A and B of an accepted file.
use Prim.Native.Nat.{ℕ}
use mathlib.Core.List.{List}
use mathlib.Core.Path.{◌≡◌}
use Rattle.std.specs.Prelude.{Option, None, Ok}
use Rattle.graph.specs.Graph.{Group}
use Rattle.network.specs.declared.Refusal.{Refusal}
use Rattle.network.specs.File.{graph_of, or_else, file_refusal}
use Rattle.network.specs.Groups.{group_of, Among}
use Rattle.network.proofs.Accepted.{or_else-both}
use Rattle.network.proofs.Answers.{call-ok}
use Rattle.network.proofs.Vouches.{one-vouch}
use Rattle.network.specs.Refusals.{level_refusal, equal_level_refusal}
use Rattle.cores.specs.Calls.{LevelBy, OneVouchTold}

-- a level of some kind that is told: the file is accepted, and the number is the level inside A and B
told : (f a b : List ℕ) {w w' : List ℕ} (later : Option Refusal) {holds : ℕ → Group → Group → Type 0} {k : ℕ}
    → LevelBy (or_else (file_refusal f) later) f (λ k. Among (graph_of f).order a b (holds k)) w w' (Ok k) → (file_refusal f ≡ None) × holds k (group_of a) (group_of b)
told f a b later c = let (n, (h, kept)) = call-ok c in (((or_else-both _ later).0 n).0, h.inside)

-- 02: so the numbers rise as the levels do
pub one-vouch-told : OneVouchTold
unfolding level_refusal equal_level_refusal
one-vouch-told f f' u v m p q a b =
    record {
      level = λ x k k' w w' z z' c d. let (e, h) = told f _ _ _ c in (one-vouch f f' u v e m p q).level _ _ x k k' h (told f' _ _ _ d).1;
      level_across = λ y k k' w w' z z' c d. let (e, h) = told f _ _ _ c in (one-vouch f f' u v e m p q).level_across _ _ y k k' h (told f' _ _ _ d).1;
      equal_level = λ k k' w w' z z' c d. let (e, h) = told f _ _ _ c in (one-vouch f f' u v e m p q).equal_level _ _ k k' h (told f' _ _ _ d).1;
    }
