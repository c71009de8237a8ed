-- A queue of short places after a step: the needs of places may grow and their degrees may change. Where no place becomes short the queue
-- stays as it is; where one does, that place is pushed.
use Prim.Native.Nat.{ℕ, suc, ◌+◌, ◌<◌, ◌≤◌}
use mathlib.Core.Bool.{true}
use mathlib.Core.Logic.{◌≢◌}
use mathlib.Core.Path.{◌≡◌, sym, ◌∙◌}
use native.Mathlib.Numerals.{add-one}
use native.Mathlib.Omega.{arith}
use Rattle.std.proofs.lemmas.Bool.Decides.{nat_tests}
use lib.Dec.{leb}
use Rattle.graph.specs.Linkage.{degree, Surrounds}
use Rattle.graph.proofs.Sums.{below_suc}
use Rattle.graph.proofs.Degrees.{without}
use Rattle.graph.proofs.Linkage.{surrounds-more, surrounds-nested, surrounds-without}
use Rattle.graph.proofs.Links.{surrounds-links}
use Rattle.peeling.specs.Peeling.{live, Queue}
use Rattle.peeling.proofs.Live.{live-suc, live-ext, live-before, live-count, live-room}

-- a queue is no longer than there are places
pub queue-most : {L : ℕ → ℕ → ℕ} {N : ℕ} {need degrees queue : ℕ → ℕ} {t : ℕ} → Queue L N need degrees queue t → t ≤ N
queue-most {N = N} {queue = queue} {t = t} k = omega (arith, live-count queue N t k.inside k.distinct)

-- and shorter where a place is not short
pub queue-room : {L : ℕ → ℕ → ℕ} {N : ℕ} {need degrees queue : ℕ → ℕ} {t : ℕ} → Queue L N need degrees queue t
    → (q : ℕ) → q < N → leb (need q) (degrees q) ≡ true → t < N
queue-room {N = N} {queue = queue} {t = t} k q l h = live-room queue N t q k.inside k.distinct l (k.short q l ∙ h)

module _ {L L' : ℕ → ℕ → ℕ} {N : ℕ} {need need' degrees queue queue' : ℕ → ℕ} {t : ℕ}
    (linked : (p q : ℕ) → p < N → q < N → L p q ≡ L' p q)
    (more : (p : ℕ) → p < N → need p ≤ need' p)
    (same : (i : ℕ) → i < t → queue i ≡ queue' i)
    (k : Queue L N need degrees queue t) where
  -- what surrounded the settled sets does so still
  surrounded : Surrounds L' N need' (live queue t)
  surrounded = surrounds-links linked (surrounds-nested more k.surrounds)

  -- no place has become short
  pub queue-stays : {degrees' : ℕ → ℕ} → ((p : ℕ) → p < N → leb (need p) (degrees p) ≡ leb (need' p) (degrees' p)) → Queue L' N need' degrees' queue' t
  queue-stays e =
      record {
        inside = λ i l. rw (← same i l) (k.inside i l);
        distinct = λ i l. rw (← same i l) (sym (live-ext i (λ j h. same j (omega arith)) (queue i)) ∙ k.distinct i l);
        short = λ p l. sym (live-ext t same p) ∙ k.short p l ∙ e p l;
        surrounds = surrounds-more (λ p l h. sym (live-ext t same p) ∙ h) surrounded;
      }

  -- place q has become short, and is pushed; so it is short among the places that are not before h, an earlier end of the queue
  pub queue-grows : {degrees' : ℕ → ℕ} (q h : ℕ) → q < N → h ≤ t → queue' t ≡ q → leb (need q) (degrees q) ≡ true → degrees' q < need' q
      → degree L' N (live queue' h) q ≤ degrees' q
      → ((p : ℕ) → p < N → p ≢ q → leb (need p) (degrees p) ≡ leb (need' p) (degrees' p))
      → Queue L' N need' degrees' queue' (t + 1)
  queue-grows {degrees'} q h l a top enough less least e =
      rw (add-one t)
      record {
        inside = λ i b. below_suc b (λ x. rw (x, top) l) (λ x. rw (← same i x) (k.inside i x));
        distinct = λ i b. below_suc b (λ x. rw (x, top) (sym (live-ext t same q) ∙ k.short q l ∙ enough)) (λ x.
            rw (← same i x) (sym (live-ext i (λ j c. same j (omega arith)) (queue i)) ∙ k.distinct i x));
        short = λ p b. grind (arith, nat_tests, live-suc queue' t p, live-ext t same p, k.short p b, e p b, top, less, enough);
        surrounds = surrounds-more kept (surrounds-without q l (omega arith) (surrounds-more earlier surrounded) surrounded);
      }
    where
      -- the places that are not before h hold those that were left
      earlier : (p : ℕ) → p < N → live queue t p ≡ true → live queue' h p ≡ true
      earlier p b x = live-before queue' t a p (sym (live-ext t same p) ∙ x)

      -- which, without place q, are those that are left now
      kept : (p : ℕ) → p < N → without (live queue t) q p ≡ true → live queue' (suc t) p ≡ true
      kept p b x = live-suc queue' t p ∙ rw (top, ← live-ext t same p) x
