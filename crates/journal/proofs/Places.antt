-- 02, wish 9: over any entries live + due stays within 8,192, so a member with fewer than four vouches is never refused for lack of places.
use Prim.Native.Nat.{ℕ, zero, suc, ◌+◌, ◌<◌, ◌≤◌}
use mathlib.Core.Bool.{Bool, true, false, cond, ◌&&◌, ◌||◌, false≢true}
use mathlib.Core.List.{List}
use mathlib.Core.Logic.{◌≢◌}
use mathlib.Core.Path.{◌≡◌, refl, sym, ap, ◌∙◌}
use native.Mathlib.Decide.{ℕ_discrete, dec_lt, dec_le}
use native.Mathlib.Omega.{arith}
use borrow.Author.Tests.{leb-false, eqb-false, eq-eqb, ne_eqb, lt-ltb, le-ltb, le-leb, lt-leb}
use Rattle.std.proofs.Common.{Option, Some, None}
use Rattle.std.specs.Option.{is_some}
use Rattle.std.proofs.lemmas.Option.{none-some, same_Some}
use lib.Dec.{eqb, ltb, leb}
use Rattle.graph.specs.Range.{if}
use Rattle.graph.proofs.Sums.{sum-zero}
use Rattle.network.specs.File.{most_links}
use Rattle.network.proofs.Accepted.{or-fails}
use Rattle.linkset.specs.Links.{Links, empty, with, without}
use Rattle.journal.specs.declared.Entry.{Entry}
use Rattle.journal.specs.declared.Entry.TheVariants.{Add, Withdraw, Save, Restore, Malformed}
use Rattle.journal.specs.Entries.{members, entry_at}
use Rattle.journal.specs.Journal.{given, live, due, State, start, followed, place_number, number, step, after}
use Rattle.journal.specs.Places.{Balanced, Places, FourForEveryone, TotalsRestored}
use Rattle.journal.specs.Tabled.{Sound}
use Rattle.journal.proofs.Headers.{headed}
use Rattle.journal.proofs.Named.{named-holds}
use Rattle.journal.proofs.Numbers.{add-absent}
use Rattle.journal.proofs.Changes.{given-with, given-with-other, live-with, due-with, given-without, given-without-other, live-without, due-without, live-empty, due-empty}

-- a chain of tests that gives 0 has passed its first
pass : (b : Bool) (k r : ℕ) → 1 ≤ k → cond b k r ≡ 0 → (b ≡ false) × (r ≡ 0)
pass true k r l e = absurd (omega arith)
pass false k r l e = (refl, e)

-- a test that must hold for 0
held : (b : Bool) (k : ℕ) → 1 ≤ k → cond b 0 k ≡ 0 → b ≡ true
held true k l e = refl
held false k l e = absurd (omega arith)

-- what an addition has passed that is not refused
pub record Adds (n : ℕ) (S : Links) (u v : ℕ) : Type 0 where
  pub source_below : u < n
  pub target_below : v < n
  pub absent : S u v ≡ false
  pub few : given n S u ≢ 64
  pub room : 4 ≤ given n S u → live n S + due n S ≢ most_links

pub add-passed : (n : ℕ) (s : State) (u v : ℕ) → number n s (Add u v) ≡ 0 → Adds n s.present u v
unfolding number
add-passed n s u v e =
    let S = s.present in
    let (o, e₁) = pass (leb n u || leb n v) 10 _ (omega arith) e in
    let (p, e₂) = pass (S u v) 16 _ (omega arith) e₁ in
    let (f, e₃) = pass (eqb (given n S u) 64) 19 _ (omega arith) e₂ in
    let (r, _) = pass (leb 4 (given n S u) && eqb (live n S + due n S) most_links) 20 0 (omega arith) e₃ in
    record {
      source_below = leb-false n u ((or-fails (leb n u) (leb n v)).0 o).0;
      target_below = leb-false n v ((or-fails (leb n u) (leb n v)).0 o).1;
      absent = p;
      few = eqb-false _ 64 f;
      room = λ l q. false≢true (sym r ∙ (rw (le-leb 4 _ l, eq-eqb _ most_links q)));
    }

-- what a withdrawal has passed that is not refused
pub record Withdraws (n : ℕ) (S : Links) (u v : ℕ) : Type 0 where
  pub source_below : u < n
  pub target_below : v < n
  pub present : S u v ≡ true

pub withdraw-passed : (n : ℕ) (s : State) (u v : ℕ) → number n s (Withdraw u v) ≡ 0 → Withdraws n s.present u v
unfolding number
withdraw-passed n s u v e =
    let (o, e₁) = pass (leb n u || leb n v) 10 _ (omega arith) e in
    record { source_below = leb-false n u ((or-fails (leb n u) (leb n v)).0 o).0; target_below = leb-false n v ((or-fails (leb n u) (leb n v)).0 o).1; present = held (s.present u v) 17 (omega arith) e₁ }

-- a return has passed that its state was set
was-set : (n : ℕ) (s : State) (x : ℕ) → number n s (Restore x) ≡ 0 → (S : Links) × (s.named x ≡ Some S)
unfolding number
was-set n s x q = go (s.named x) refl
  where
    go : (o : Option Links) → s.named x ≡ o → (S : Links) × (s.named x ≡ Some S)
    go (Some S) e = (S, e)
    go None e = absurd (false≢true (rw e at (held (is_some (s.named x)) 18 (omega arith) q)))

module _ (n : ℕ) (S : Links) (bal : Balanced n S) where
  -- an addition takes a place that is kept for its voucher, or one that is free
  pub balanced-with : (u v : ℕ) → Adds n S u v → Balanced n (with S u v)
  balanced-with u v h =
      let d : due n (with S u v) + if (ltb (given n S u) 4) 1 ≡ due n S = due-with n S u v h.source_below h.target_below h.absent in
      let l : live n (with S u v) ≡ live n S + 1 = live-with n S u v h.source_below h.target_below h.absent in
      record {
        fits = elim (dec_lt (given n S u) 4) [
          | yes k ↦ let d' : due n (with S u v) + 1 ≡ due n S = rw (lt-ltb (given n S u) 4 k) at d in omega (arith, bal.fits)
          | no k ↦ let d' : due n (with S u v) + 0 ≡ due n S = rw (le-ltb (given n S u) 4 (omega arith)) at d in free (h.room (omega arith)) (omega (arith, bal.fits))
        ];
        most = λ w m. elim (ℕ_discrete w u) [
          | yes q ↦ rw (q, given-with n S u v h.source_below h.target_below h.absent) (omega (arith, h.few, bal.most u h.source_below))
          | no q ↦ rw (given-with-other n S u v h.source_below h.target_below w q) (bal.most w m)
        ];
      }
    where
      free : live n S + due n S ≢ most_links → live n (with S u v) + due n (with S u v) ≤ live n S + due n S + 1 → live n (with S u v) + due n (with S u v) ≤ most_links
      free r l = elim (ℕ_discrete (live n S + due n S) most_links) [ yes q ↦ absurd (r q) | no q ↦ omega (arith, bal.fits) ]

  -- a withdrawal gives a place back, to its voucher where it had at most four
  pub balanced-without : (u v : ℕ) → Withdraws n S u v → Balanced n (without S u v)
  balanced-without u v h =
      let d : due n (without S u v) ≡ due n S + if (leb (given n S u) 4) 1 = due-without n S u v h.source_below h.target_below h.present in
      let l : live n (without S u v) + 1 ≡ live n S = live-without n S u v h.source_below h.target_below h.present in
      record {
        fits = elim (dec_le (given n S u) 4) [
          | yes k ↦ let d' : due n (without S u v) ≡ due n S + 1 = rw (le-leb (given n S u) 4 k) at d in omega (arith, bal.fits)
          | no k ↦ let d' : due n (without S u v) ≡ due n S + 0 = rw (lt-leb (given n S u) 4 (omega arith)) at d in omega (arith, bal.fits)
        ];
        most = λ w m. elim (ℕ_discrete w u) [
          | yes q ↦ rw q (omega (arith, given-without n S u v h.source_below h.target_below h.present, bal.most u h.source_below))
          | no q ↦ rw (given-without-other n S u v h.source_below h.target_below h.present w q) (bal.most w m)
        ];
      }

-- every entry that is not refused leaves the links present, and those of every named state, balanced,
pub sound-followed : (n : ℕ) (s : State) (e : Entry) → Sound n s → number n s e ≡ 0 → Sound n (followed s e)
sound-followed n s (Add u v) h q = record { present = balanced-with n s.present h.present u v (add-passed n s u v q); named = h.named }
sound-followed n s (Withdraw u v) h q = record { present = balanced-without n s.present h.present u v (withdraw-passed n s u v q); named = h.named }
sound-followed n s (Save x) h q = record { present = h.present; named = λ y S e. chosen y S (eqb y x) e }
  where
    chosen : (y : ℕ) (S : Links) (b : Bool) → cond b (Some s.present) (s.named y) ≡ Some S → Balanced n S
    chosen y S true e = rw (← same_Some _ _ e) h.present
    chosen y S false e = h.named y S e
sound-followed n s (Restore x) h q = let (S, e) = was-set n s x q in record { present = rw e (h.named x S e); named = h.named }
sound-followed n s Malformed h q = h

-- and so does every entry
pub sound-step : (n : ℕ) (s : State) (e : Entry) → Sound n s → Sound n (step n s e)
sound-step n s e h = go (ℕ_discrete (number n s e) 0)
  where
    go : Dec (number n s e ≡ 0) → Sound n (step n s e)
    go (yes q) = rw q (sound-followed n s e h q)
    go (no q) = rw (ne_eqb (number n s e) 0 q) h

-- and at the start there are places enough
pub balanced-empty : (n : ℕ) → n ≤ 2048 → Balanced n empty
balanced-empty n l = record { fits = omega (arith, live-empty n, due-empty n); most = λ u m. rw (sum-zero n) (omega arith) }

pub sound-start : (n : ℕ) → n ≤ 2048 → Sound n start
sound-start n l = record { present = balanced-empty n l; named = λ x S e. absurd (none-some S e) }

-- so it is after any number of entries
sound-after : (j : List ℕ) → members j ≤ 2048 → (k : ℕ) → Sound (members j) (after j k)
unfolding after
sound-after j l zero = sound-start (members j) l
sound-after j l (suc k) = sound-step (members j) (after j k) (entry_at j k) (sound-after j l k)

-- an addition finds a place where its voucher has not given 64, and has given fewer than four or there is one left
place-free : (n : ℕ) (S : Links) (u : ℕ) → given n S u ≢ 64 → (4 ≤ given n S u → live n S + due n S ≢ most_links) → place_number n S u ≡ 0
place-free n S u few left =
    rw (ne_eqb (given n S u) 64 few)
    (elim (dec_lt (given n S u) 4) [ yes k ↦ rw (lt-leb 4 (given n S u) k) | no k ↦ rw (le-leb 4 (given n S u) (omega arith), ne_eqb (live n S + due n S) most_links (left (omega arith))) ])

module _ (n : ℕ) (s : State) (bal : Balanced n s.present) where
  -- a member with fewer than four is never refused for lack of places
  never_full : (u v : ℕ) → u < n → v < n → s.present u v ≡ false → given n s.present u < 4 → number n s (Add u v) ≡ 0
  never_full u v hu hv absent few = add-absent n s u v hu hv absent ∙ place-free n s.present u (λ e. omega arith) (λ l e. omega arith)

  module _ (u v : ℕ) (q : number n s (Withdraw u v) ≡ 0) where
    abbrev S : Links
    S = s.present

    abbrev left : State
    left = followed s (Withdraw u v)

    w : Withdraws n S u v
    w = withdraw-passed n s u v q

    -- a withdrawal from more than four leaves a place
    place-left : 4 < given n S u → live n (without S u v) + due n (without S u v) ≢ most_links
    place-left more e =
        let d : due n (without S u v) ≡ due n S + 0 = rw (lt-leb (given n S u) 4 more) at (due-without n S u v w.source_below w.target_below w.present) in
        omega (arith, d, e, live-without n S u v w.source_below w.target_below w.present, bal.fits)

    -- withdrawn places are used again: whoever has withdrawn a link may add one,
    used_again : (x : ℕ) → x < n → left.present u x ≡ false → number n left (Add u x) ≡ 0
    used_again x hx absent =
        let g : given n (without S u v) u + 1 ≡ given n S u = given-without n S u v w.source_below w.target_below w.present in
        add-absent n left u x w.source_below hx absent ∙ place-free n left.present u (λ e. omega (arith, g, bal.most u w.source_below)) (λ l. place-left (omega arith))

    -- and a place that a member with more than four gives back is there for everyone
    freed : (x y : ℕ) → 4 < given n S u → x < n → y < n → left.present x y ≡ false → given n left.present x < 64 → number n left (Add x y) ≡ 0
    freed x y more hx hy absent few = add-absent n left x y hx hy absent ∙ place-free n left.present x (λ e. omega arith) (λ l. place-left more)

-- so everyone finds a place after any number of entries
pub places-after : (j : List ℕ) → members j ≤ 2048 → (k : ℕ) → Places (members j) (after j k)
places-after j l k =
    let b = (sound-after j l k).present in
    record {
      balanced = b;
      never_full = never_full (members j) (after j k) b;
      used_again = λ u v w q. used_again (members j) (after j k) b u v q w;
      freed = λ u v w x q more. freed (members j) (after j k) b u v q w x more;
    }

-- 02, wish 9: four vouches for everyone
pub four-for-everyone : FourForEveryone
four-for-everyone j e k = places-after j ((headed j).0 e).order_most k

-- returning to a named state restores both totals
pub totals-restored : TotalsRestored
totals-restored j i k x l e none f = let q = named-holds j i k x l e none f in (ap (live (members j)) q, ap (due (members j)) q)
