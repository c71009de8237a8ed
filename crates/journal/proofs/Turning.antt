-- What each kind of entry makes of the state, of the work table and of the tally.
use Prim.Native.Nat.{ℕ, ◌+◌, ◌-◌, ◌*◌, ◌<◌, ◌≤◌}
use mathlib.Core.Bool.{Bool, true, false, not, cond, ◌&&◌, ◌||◌, false≢true}
use mathlib.Core.List.{List, [], ◌∷◌, ◌++◌, append_assoc}
use mathlib.Core.Logic.{◌⊎◌, ◌≢◌, inl, inr}
use mathlib.Core.Path.{◌≡◌, refl, sym, ap, ◌∙◌}
use native.Mathlib.Decide.{ℕ_discrete, dec_lt}
use native.Mathlib.Omega.{arith}
use borrow.Author.Tests.{eq-eqb, ne_eqb}
use Rattle.std.proofs.Common.{Option, Some, None}
use lib.Dec.{eqb}
use lib.ListN.{length, get_or, set, take, drop, length-set}
use lib.Seq.{length-take-le, get_or-drop, get_or-set_same, get_or-set_other}
use Rattle.std.proofs.lemmas.List.{ext_get_or, get_or-take, take_at, take-take, drop-drop}
use Rattle.std.proofs.Math.ListN.{length-drop, length-append}
use Rattle.std.proofs.lemmas.List.Edits.{length-remove}
use Rattle.std.proofs.Math.Seq.{drop-append-add}
use Rattle.std.specs.List as list
use Rattle.network.specs.File.{most_links}
use Rattle.linkset.specs.Links.{Links, is, with, without}
use Rattle.linkset.specs.Tables.{Pairs, Place, is_at, degree_of, most_of_source}
use Rattle.linkset.proofs.Sets.{is_same, place-below, keeps-at, keeps-inserted, keeps-removed}
use Rattle.journal.specs.declared.Totals.{Totals}
use Rattle.journal.specs.declared.Tally.{Tally}
use Rattle.journal.specs.declared.Entry.{Entry}
use Rattle.journal.specs.declared.Entry.TheVariants.{Add, Withdraw, Save, Restore, Malformed}
use Rattle.journal.specs.Journal.{given as given_by, place_of, State, followed, number}
use Rattle.journal.specs.Places.{Balanced}
use Rattle.journal.specs.Tabled.{Stored, Known, Sound, set_start, CopiedSet, Tabled, Turned, added, withdrawn}
use Rattle.journal.proofs.Counts.{given-count}
use Rattle.journal.proofs.Changes.{live-with, live-without, due-added, due-withdrawn, lack-due}
use Rattle.journal.proofs.Places.{Adds, add-passed, Withdraws, withdraw-passed, sound-followed}
use Rattle.journal.proofs.Numbers.{add-present, add-absent, withdraw-by, restore-unset, restore-set}

-- two parts of tables, with the same links
part-same : (l l' : Pairs) (from to m : ℕ) → from + m ≤ length l → to + m ≤ length l' → ((k : ℕ) → k < m → get_or l' (to + k) [] ≡ get_or l (from + k) [])
    → take m (drop to l') ≡ take m (drop from l)
part-same l l' from to m p q same =
    ext_get_or [] _ _ (rw (length-take-le m (drop to l') (omega (arith, length-drop to l')), length-take-le m (drop from l) (omega (arith, length-drop from l))))
    (λ k i. let h : k < m = omega (arith, length-take-le m (drop to l') (omega (arith, length-drop to l'))) in rw (get_or-take m (drop to l') k [] h, get_or-take m (drop from l) k [] h, get_or-drop to l' k [], get_or-drop from l k []) (same k h))

-- a table with the same links holds the same set
stored-same : (n : ℕ) (S : Links) (l l' : Pairs) (t : Totals) → take t.live l' ≡ take t.live l → Stored n S l t → Stored n S l' t
stored-same n S l l' t same h = record { keeps = rw same h.keeps; within = h.within; live_is = h.live_is; due_is = h.due_is }

-- a set that is balanced has room in a table
pub stored-most : (n : ℕ) (S : Links) (l : Pairs) (t : Totals) → Balanced n S → Stored n S l t → t.live + t.due ≤ most_links
stored-most n S l t b h = omega (arith, h.live_is, h.due_is, b.fits)

-- the first links of a table are lent by themselves: with room for one more, to put a link in,
put-in : (l q : Pairs) (m r : ℕ) (link : List ℕ) → m + 1 ≤ length l → length q ≡ length (take (m + 1) l) → q ≡ list.insert (take (length (take (m + 1) l) - 1) (take (m + 1) l)) r link
    → take (m + 1) (q ++ drop (m + 1) l) ≡ list.insert (take m l) r link
put-in l q m r link room same e =
    let long = length-take-le (m + 1) l room in
    let z : m + 1 - 1 ≡ m = omega arith in
    take_at q (drop (m + 1) l) (m + 1) (same ∙ long) ∙ rw (long, z, take-take m (m + 1) l (omega arith)) at e

-- or as they are, to take one out
taken-out : (l q : Pairs) (m r : ℕ) → m ≤ length l → r < length (take m l) → q ≡ list.remove (take m l) r ++ drop (length (take m l) - 1) (take m l)
    → take (m - 1) (q ++ drop m l) ≡ list.remove (take m l) r
taken-out l q m r room k e =
    rw (e, append_assoc (list.remove (take m l) r) _ (drop m l)) (take_at (list.remove (take m l) r) _ (m - 1) (omega (arith, length-remove (take m l) r k, length-take-le m l room)))

-- what lies past them stays
drop-past : (q l : Pairs) (n k : ℕ) → length q ≡ n → n ≤ k → drop k (q ++ drop n l) ≡ drop k l
drop-past q l n k s h =
    let z : length q + (k - n) ≡ k = omega arith in
    rw (z, s) at (drop-append-add q (drop (length q) l) (k - n) ∙ drop-drop (k - n) (length q) l)

module _ (n : ℕ) (S : Links) (l l' : Pairs) (t : Totals) (r u v given : ℕ) (h : Stored n S l t) (from : given ≡ given_by n S u) where
  -- a link put in at its place
  stored-with : Adds n S u v → Place (take t.live l) u v r → take (t.live + 1) l' ≡ list.insert (take t.live l) r (u ∷ v ∷ []) → Stored n (with S u v) l' (added t given)
  stored-with a p i = record {
    keeps = rw i (keeps-inserted S (take t.live l) r u v h.keeps p a.absent);
    within = λ c d t. go c d (is u v c d) refl t;
    live_is = omega (arith, h.live_is, live-with n S u v a.source_below a.target_below a.absent);
    due_is = due-added n S u v t.due given a.source_below a.target_below a.absent h.due_is from;
  }
    where
      go : (c d : ℕ) (x : Bool) → is u v c d ≡ x → (x || S c d) ≡ true → (c < n) × (d < n)
      go c d true e t = let (f, g) = is_same u v c d e in (rw f a.source_below, rw g a.target_below)
      go c d false e t = h.within c d t

  -- a link taken out of its place
  stored-without : Withdraws n S u v → is_at (take t.live l) r u v ≡ true → take (t.live - 1) l' ≡ list.remove (take t.live l) r → Stored n (without S u v) l' (withdrawn t given)
  stored-without w at rem = record {
    keeps = rw rem (keeps-removed S (take t.live l) r u v h.keeps at);
    within = λ a b i. h.within a b (left (is u v a b) (S a b) i);
    live_is = omega (arith, h.live_is, live-without n S u v w.source_below w.target_below w.present);
    due_is = due-withdrawn n S u v t.due given w.source_below w.target_below w.present h.due_is from;
  }
    where
      left : (x y : Bool) → (not x && y) ≡ true → y ≡ true
      left true y t = absurd (false≢true t)
      left false y t = t

-- what is known of a named state stays so where its room keeps its entries,
known-same : (n : ℕ) (l l' : Pairs) (o : Option Links) (p : Option Totals) → ((S : Links) → o ≡ Some S → Balanced n S) → ((m : ℕ) → m ≤ most_links → take m l' ≡ take m l)
    → Known n l o p → Known n l' o p
known-same n l l' None None b same h = h
known-same n l l' (Some S) (Some t) b same h = stored-same n S l l' t (same t.live (omega (arith, stored-most n S l t (b S refl) h))) h
known-same n l l' None (Some t) b same h = h
known-same n l l' (Some S) None b same h = h

-- one of which nothing is known was never set,
known-none : (n : ℕ) (l : Pairs) (o : Option Links) → Known n l o None → o ≡ None
known-none n l None h = refl
known-none n l (Some S) h = absurd h

-- and one that was set has the links that are stored
known-some : (n : ℕ) (l : Pairs) (o : Option Links) (t : Totals) → Known n l o (Some t) → (S : Links) × (o ≡ Some S) × Stored n S l t
known-some n l None t h = absurd h
known-some n l (Some S) t h = (S, refl, h)

module _ (n : ℕ) (s : State) (l l' : Pairs) (t : Tally) (h : Tabled n s l t) where
  -- both totals of the links present fit
  pub full-most : t.present.live + t.present.due ≤ most_links
  full-most = stored-most n s.present l t.present h.sound.present h.present

  -- another set present, and the named ones as they were
  tabled-present : (S : Links) (p : Totals) → Sound n (record { present = S; named = s.named }) → length l' ≡ length l → Stored n S l' p
      → drop most_links l' ≡ drop most_links l → Tabled n (record { present = S; named = s.named }) l' (record { present = p; named = t.named })
  tabled-present S p sound same c rest = record {
    long = omega (arith, h.long);
    four = h.four;
    sound = sound;
    present = c;
    named = λ x i. rw (apart x) (h.named x i);
  }
    where
      apart : (x : ℕ) → drop (set_start (x + 1)) l' ≡ drop (set_start (x + 1)) l
      apart x =
          let z : set_start (x + 1) ≡ most_links + 8192 * x = omega arith in
          rw z (sym (drop-drop (8192 * x) most_links l') ∙ ap (drop (8192 * x)) rest ∙ drop-drop (8192 * x) most_links l)

  -- so it is where the first links alone were lent
  tabled-lent : (S : Links) (p : Totals) (q : Pairs) (k : ℕ) → Sound n (record { present = S; named = s.named }) → k ≤ most_links → length q ≡ length (take k l)
      → l' ≡ q ++ drop k l → Stored n S l' p → Tabled n (record { present = S; named = s.named }) l' (record { present = p; named = t.named })
  tabled-lent S p q k sound most same e c =
      let long : length q ≡ k = same ∙ length-take-le k l (omega (arith, h.long)) in
      tabled-present S p sound (ap length e ∙ omega (arith, long, h.long, length-append q (drop k l), length-drop k l)) c (ap (drop most_links) e ∙ drop-past q l k most_links long most)

  -- the links present set under a name
  tabled-save : (x : ℕ) → Sound n (followed s (Save x)) → CopiedSet l l' 0 (x + 1) t.present.live
      → Tabled n (followed s (Save x)) l' (record { present = t.present; named = set t.named x (Some t.present) })
  tabled-save x sound c = record {
    long = omega (arith, h.long, c.same_length);
    four = simp length-set h.four;
    sound = sound;
    present = stored-same n s.present l l' t.present (part-same l l' 0 0 t.present.live (omega (arith, full-most, h.long)) (omega (arith, full-most, h.long, c.same_length)) (λ k q. c.rest (0 + k) (inl (omega (arith, full-most))))) h.present;
    named = λ y k. either y k (ℕ_discrete y x);
  }
    where
      apart : (y k : ℕ) → y ≢ x → k < 8192 → (set_start (y + 1) + k < set_start (x + 1)) ⊎ (set_start (x + 1) + t.present.live ≤ set_start (y + 1) + k)
      apart y k q f = elim (dec_lt y x) [ yes i ↦ inl (omega arith) | no i ↦ inr (omega (arith, full-most)) ]

      either : (y : ℕ) → y < 4 → Dec (y ≡ x)
          → Known n (drop (set_start (y + 1)) l') (cond (eqb y x) (Some s.present) (s.named y)) (get_or (set t.named x (Some t.present)) y None)
      either y k (yes q) =
          rw (q, eq-eqb x x refl, get_or-set_same t.named x (Some t.present) None (omega (arith, h.four)))
          (stored-same n s.present l (drop (set_start (x + 1)) l') t.present (part-same l l' 0 (set_start (x + 1)) t.present.live (omega (arith, full-most, h.long)) (omega (arith, full-most, h.long, c.same_length, q)) c.part) h.present)
      either y k (no q) =
          rw (ne_eqb y x q, get_or-set_other t.named x y (Some t.present) None q)
          (known-same n _ _ (s.named y) (get_or t.named y None) (h.sound.named y)
          (λ m few. part-same l l' (set_start (y + 1)) (set_start (y + 1)) m (omega (arith, h.long)) (omega (arith, h.long, c.same_length)) (λ i g. c.rest (set_start (y + 1) + i) (apart y i q (omega arith)))) (h.named y k))

-- an entry of another number than 0 leaves the state
pub turned-refused : (n : ℕ) (s : State) (e : Entry) (l : Pairs) (t : Tally) (k : ℕ) → number n s e ≡ k → k ≢ 0 → Tabled n s l t → Turned n s e l t k
turned-refused n s e l t k q f h = record { number_is = sym q; tabled = rw (q, ne_eqb k 0 f) h }

-- one of number 0 is followed
turned-followed : (n : ℕ) (s : State) (e : Entry) (l : Pairs) (t : Tally) → number n s e ≡ 0 → Tabled n (followed s e) l t → Turned n s e l t 0
turned-followed n s e l t q h = record { number_is = sym q; tabled = rw q h }

module _ (n : ℕ) (s : State) (l : Pairs) (t : Tally) (h : Tabled n s l t) where
  -- the links present
  abbrev links : Pairs
  links = take t.present.live l

  -- a vertex has as many links in the table as it has given,
  pub given-is : (u : ℕ) → degree_of links u ≡ given_by n s.present u
  given-is u = sym (given-count n s.present links h.present.keeps h.present.within u)

  -- not more than 64,
  pub degree-most : (u : ℕ) → u < n → degree_of links u ≤ most_of_source
  degree-most u k = omega (arith, given-is u, h.sound.present.most u k)

  -- and where they are fewer than four some are due
  pub due-some : (u : ℕ) → u < n → degree_of links u < 4 → 1 ≤ t.present.due
  due-some u k few = omega (arith, given-is u, h.present.due_is, lack-due n s.present u k)

  module _ (u v r : ℕ) (hu : u < n) (hv : v < n) (p : Place links u v r) where
    -- whether a link is present is told by what stands at its place
    present-at : {b : Bool} → is_at links r u v ≡ b → s.present u v ≡ b
    present-at e = sym (keeps-at s.present links u v r h.present.keeps p) ∙ e

    -- kind 0: 16,
    pub turned-present : is_at links r u v ≡ true → Turned n s (Add u v) l t 16
    turned-present a = turned-refused n s (Add u v) l t 16 (add-present n s u v hu hv (present-at a)) (omega arith) h

    module _ (given : ℕ) (is : given ≡ degree_of links u) where
      from : given ≡ given_by n s.present u
      from = is ∙ given-is u

      module _ (a : is_at links r u v ≡ false) (k : ℕ) (place : k ≡ place_of given (t.present.live + t.present.due)) where
        -- the number of the place,
        number-is : number n s (Add u v) ≡ k
        number-is = add-absent n s u v hu hv (present-at a) ∙ rw (place, from, h.present.live_is, h.present.due_is)

        pub turned-unplaced : k ≢ 0 → Turned n s (Add u v) l t k
        turned-unplaced f = turned-refused n s (Add u v) l t k number-is f h

        -- or a link more
        pub turned-add : (q : Pairs) → k ≡ 0 → length q ≡ length (take (t.present.live + 1) l)
            → q ≡ list.insert (take (length (take (t.present.live + 1) l) - 1) (take (t.present.live + 1) l)) r (u ∷ v ∷ [])
            → Turned n s (Add u v) (q ++ drop (t.present.live + 1) l) (record { present = added t.present given; named = t.named }) 0
        turned-add q z same e =
            let f = number-is ∙ z in
            let sound = sound-followed n s (Add u v) h.sound f in
            let most : t.present.live + 1 ≤ most_links = omega (arith, h.present.live_is, live-with n s.present u v hu hv (present-at a), sound.present.fits) in
            turned-followed n s (Add u v) _ _ f
            (tabled-lent n s l _ t h (with s.present u v) (added t.present given) q (t.present.live + 1) sound most same refl
            (stored-with n s.present l _ t.present r u v given h.present from (add-passed n s u v f) p (put-in l q _ r _ (omega (arith, h.long, most)) same e)))

      -- kind 1: a link less
      pub turned-withdraw : (q : Pairs) → is_at links r u v ≡ true → length q ≡ length links → q ≡ list.remove links r ++ drop (length links - 1) links
          → Turned n s (Withdraw u v) (q ++ drop t.present.live l) (record { present = withdrawn t.present given; named = t.named }) 0
      turned-withdraw q a same e =
          let f = withdraw-by n s u v hu hv true (present-at a) in
          let most : t.present.live ≤ most_links = omega (arith, full-most n s l l t h) in
          turned-followed n s (Withdraw u v) _ _ f
          (tabled-lent n s l _ t h (without s.present u v) (withdrawn t.present given) q t.present.live (sound-followed n s (Withdraw u v) h.sound f) most same refl
          (stored-without n s.present l _ t.present r u v given h.present from (withdraw-passed n s u v f) a (taken-out l q _ r (omega (arith, h.long, most)) (place-below links r u v a) e)))

    -- or 17
    pub turned-absent : is_at links r u v ≡ false → Turned n s (Withdraw u v) l t 17
    turned-absent a = turned-refused n s (Withdraw u v) l t 17 (withdraw-by n s u v hu hv false (present-at a)) (omega arith) h

  -- kind 2
  pub turned-save : (x : ℕ) (l' : Pairs) → CopiedSet l l' 0 (x + 1) t.present.live
      → Turned n s (Save x) l' (record { present = t.present; named = set t.named x (Some t.present) }) 0
  unfolding number
  turned-save x l' c = turned-followed n s (Save x) l' _ refl (tabled-save n s l l' t h x (sound-followed n s (Save x) h.sound refl) c)

  module _ (x : ℕ) (m : x < 4) where
    -- kind 3, of a state never set: 18,
    pub turned-unset : get_or t.named x None ≡ None → Turned n s (Restore x) l t 18
    turned-unset f = turned-refused n s (Restore x) l t 18 (restore-unset n s x (known-none n _ (s.named x) (rw f at (h.named x m)))) (omega arith) h

    module _ (k : Totals) (f : get_or t.named x None ≡ Some k) where
      -- and of one that was set, whose links have room in the table
      known : (S : Links) × (s.named x ≡ Some S) × Stored n S (drop (set_start (x + 1)) l) k
      known = known-some n _ (s.named x) k (rw f at (h.named x m))

      pub named-most : k.live ≤ most_links
      named-most = let (S, q, o) = known in omega (arith, stored-most n S _ k (h.sound.named x S q) o)

      rest : (l' : Pairs) → CopiedSet l l' (x + 1) 0 k.live → drop most_links l' ≡ drop most_links l
      rest l' c = ext_get_or [] _ _ (omega (arith, length-drop most_links l', length-drop most_links l, c.same_length)) (λ i g. rw (get_or-drop most_links l' i [], get_or-drop most_links l i []) (c.rest (most_links + i) (inr (omega (arith, named-most)))))

      pub turned-restore : (l' : Pairs) → CopiedSet l l' (x + 1) 0 k.live → Turned n s (Restore x) l' (record { present = k; named = t.named }) 0
      turned-restore l' c =
          let (S, q, o) = known in
          let z = restore-set n s x S q in
          turned-followed n s (Restore x) l' _ z
          (rw q
          (tabled-present n s l l' t h S k (rw q at (sound-followed n s (Restore x) h.sound z)) c.same_length
          (stored-same n S (drop (set_start (x + 1)) l) l' k (part-same l l' (set_start (x + 1)) 0 k.live (omega (arith, named-most, h.long)) (omega (arith, named-most, h.long, c.same_length)) c.part) o)
          (rest l' c)))

  -- any other entry
  pub turned-malformed : Turned n s Malformed l t 18
  unfolding number
  turned-malformed = turned-refused n s Malformed l t 18 refl (omega arith) h
