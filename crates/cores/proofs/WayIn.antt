-- The way in: its refusal under each condition, that of every call on cores, and what its answers tell.
use Prim.Native.Nat.{ℕ, ◌≤◌}
use mathlib.Core.Bool.{Bool, true, false, ◌&&◌, ◌||◌}
use mathlib.Core.List.{List}
use mathlib.Core.Path.{◌≡◌, refl, sym, subst, ◌∙◌}
use native.Mathlib.Omega.{arith}
use borrow.Author.Tests.{eqb-false}
use lib.Dec.{eqb, ltb}
use lib.ListN.{length}
use Rattle.std.proofs.lemmas.Bool.Decides.{nat_tests}
use Rattle.graph.proofs.Tests.{and_both}
use Rattle.graph.proofs.Stores.{drop_more}
use Rattle.std.specs.Prelude.{Option, None, Some, Err}
use Rattle.network.specs.declared.Refusal.{Refusal}
use Rattle.network.specs.declared.Refusal.TheVariants.{Zero}
use Rattle.network.specs.declared.Totals.{Totals}
use Rattle.network.specs.File.{graph_of}
use Rattle.network.specs.Groups.{group_of, is_group, GroupIn, totals}
use Rattle.network.specs.Refusals.{short_groups, work_length, core_refusal, level_refusal, equal_level_refusal}
use Rattle.network.specs.Accepted.{Accepted}
use Rattle.network.proofs.Accepted.{cond-none, accepted, accepted-or_else}
use Rattle.network.proofs.Answers.{call-err, or_else-second}
use Rattle.peeling.specs.Peeling.{Kept}
use Rattle.cores.specs.Calls.{WorkKept, GroupsTold}
use Rattle.cores.specs.Entries.{ask_refusal, later_refusal, entry_refusal, LongFor, Entered, EntryCall}

module _ (ask : Option ℕ) (f a b : List ℕ) (s t w : ℕ) where
  -- of an accepted file it is the later one
  pub entry-later : Accepted f → entry_refusal ask f a b s t w ≡ later_refusal ask (graph_of f).order (graph_of f).size a b s t w
  unfolding entry_refusal
  entry-later h = or_else-second _ ((accepted f).1 h)

module _ (ask : Option ℕ) (n m : ℕ) (a b : List ℕ) (s t w : ℕ) where
  -- a table is short
  abbrev pub short : Bool
  short = short_groups n a b || ltb s n || ltb t n || ltb w (work_length n m)

  -- where none is, all are long enough,
  pub long-for : short ≡ false → LongFor n m a b s t w
  long-for c = grind (arith, nat_tests)

  -- and the other way round
  none-short : LongFor n m a b s t w → short ≡ false
  none-short l = grind (arith, nat_tests)

  -- the later refusal, where no table is short and A and B are groups, is that of what is asked
  pub later-asks : short ≡ false → (is_group n a && is_group n b) ≡ true → later_refusal ask n m a b s t w ≡ ask_refusal ask
  unfolding later_refusal
  later-asks e i = rw (e, i)

  -- and where it is none, the tables are long enough, and what is asked is not refused
  pub later-none : later_refusal ask n m a b s t w ≡ None → LongFor n m a b s t w × (ask_refusal ask ≡ None)
  unfolding later_refusal
  later-none e = grind (arith, nat_tests)

-- in other words, by which A and B are told to have a byte for each member
pub tables_long : (ask : Option ℕ) (n m : ℕ) (a b : List ℕ) (s t w : ℕ) → later_refusal ask n m a b s t w ≡ None → LongFor n m a b s t w
tables_long ask n m a b s t w e = (later-none ask n m a b s t w e).0

-- where none is given on the way in, the file is accepted, and what is asked is not refused
pub entry-none : (ask : Option ℕ) (f a b : List ℕ) (s t w : ℕ) → entry_refusal ask f a b s t w ≡ None → Accepted f × (ask_refusal ask ≡ None)
unfolding entry_refusal
entry-none ask f a b s t w e =
    let (p, q) = (accepted-or_else f _).0 e in
    (p, (later-none ask (graph_of f).order (graph_of f).size a b s t w q).1)

-- a number that is asked for is at least 1
pub not-zero : (x : ℕ) → ask_refusal (Some x) ≡ None → 1 ≤ x
not-zero x e = let n = eqb-false x 0 ((cond-none (eqb x 0) Zero None).0 e).0 in omega arith

-- where nothing else is refused, the refusal of the way in is that of the core call, and of the finding,
pub core-entry : (f a b : List ℕ) (s t w : ℕ) → entry_refusal None f a b s t w ≡ core_refusal f a b s t w
unfolding entry_refusal later_refusal core_refusal
core-entry f a b s t w = refl

-- which is none where file and tables are as required;
pub core-none : (f a b : List ℕ) (s t w : ℕ) → Accepted f → LongFor (graph_of f).order (graph_of f).size a b s t w
    → (is_group (graph_of f).order a ≡ true) × (is_group (graph_of f).order b ≡ true) → core_refusal f a b s t w ≡ None
core-none f a b s t w e l (p, q) =
    let n = (graph_of f).order in
    sym (core-entry f a b s t w) ∙ entry-later None f a b s t w e ∙ later-asks None n (graph_of f).size a b s t w (none-short None n (graph_of f).size a b s t w l) (and_both p q)

-- groups as long as the work table are not short where that is not,
pub no-groups : (n m w : ℕ) (c : Bool) → (c || ltb w n || ltb w n || ltb w (work_length n m)) ≡ (c || ltb w (work_length n m))
no-groups n m w c = grind (arith, nat_tests)

-- so with these lengths it is that of the equal level,
pub equal-entry : (f a b : List ℕ) (w : ℕ) → entry_refusal None f a b w w w ≡ equal_level_refusal f a b w
unfolding entry_refusal later_refusal equal_level_refusal
equal-entry f a b w = rw (no-groups (graph_of f).order (graph_of f).size w (short_groups (graph_of f).order a b))

-- and with a number asked for that of a level
pub level-entry : (f a b : List ℕ) (x w : ℕ) → entry_refusal (Some x) f a b w w w ≡ level_refusal f a b x w
unfolding entry_refusal later_refusal level_refusal
level-entry f a b x w = rw (no-groups (graph_of f).order (graph_of f).size w (short_groups (graph_of f).order a b))

module _ (ask : Option ℕ) {f a b : List ℕ} (s t : ℕ) {w w' : List ℕ} where
  -- a way in that is refused leaves the work table as it was
  pub entry-refused : {d : List ℕ} {q : Refusal} → EntryCall f a b ask s t w w' d (Err q) → (entry_refusal ask f a b s t (length w) ≡ Some q) × (w' ≡ w)
  entry-refused c = let (e, k) = call-err c in (e, cc)

module _ {f a b : List ℕ} {s t : ℕ} {w w₁ d : List ℕ} {n m : ℕ} (i : Entered f a b s t w w₁ d n m) where
  -- what a walk leaves past the entries that are needed is what was there at first
  pub entered-kept : {w₂ : List ℕ} → Kept n m w₁ w₂ → WorkKept f w w₂
  entered-kept {w₂} k =
      (k.same_length ∙ i.work.0, drop_more w₂ w₁ (work_length n m) (work_length (graph_of f).order (graph_of f).size) (omega (arith, i.order, i.size)) k.past ∙ i.work.1)

  -- so groups of n bytes that it writes and counts are those of the file
  pub entered-groups : {w₂ p p' q q' : List ℕ} {r : Totals} → Kept n m w₁ w₂ → GroupIn n p p' → GroupIn n q q' → r ≡ totals (graph_of f) (group_of p') (group_of q')
      → GroupsTold f p p' q q' w w₂ r
  entered-groups {p = p} {p'} {q} {q'} k u v e =
      record {
        counted = e;
        sources = subst (λ n. GroupIn n p p') i.order u;
        targets = subst (λ n. GroupIn n q q') i.order v;
        work = entered-kept k;
      }
