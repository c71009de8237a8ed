-- From the finding call to what is printed: the program's tables are as long as the largest file needs, so that 9 is never given, and hold
-- everyone, so that 11 is not either; and the answer tells the refusal or what is found among everyone.
use Prim.Native.Nat.{ℕ, ◌≤◌}
use mathlib.Core.List.{List}
use mathlib.Core.Path.{◌≡◌, refl, sym, ap, ◌∙◌}
use native.Mathlib.Omega.{arith}
use lib.ListN.{length, take, length-replicate}
use Rattle.std.specs.Prelude.{Option, None, Some, Result, Ok, Err}
use Rattle.std.proofs.lemmas.List.{length-take-le}
use Rattle.std.proofs.lemmas.Option.{none-some, same_Some}
use Rattle.network.specs.declared.Refusal.{Refusal}
use Rattle.network.specs.File.{most_members, most_links, graph_of, file_refusal}
use Rattle.network.specs.Refusals.{work_length, core_refusal}
use Rattle.network.specs.Accepted.{Sound}
use Rattle.network.proofs.Accepted as file
use Rattle.network.proofs.Answers.{call-err, call-ok, or_else-first}
use Rattle.cores.proofs.WayIn.{core-none}
use Rattle.cores.proofs.Everyone.{ones, ones-all, ones-group}
use Rattle.searching.specs.declared.Ring.{Ring}
use Rattle.finding.specs.Findings.{FindingTold, FindingCall}
use Rattle.report.specs.Text.{refusal_text, report_text, Begins, Rendered}
use Rattle.report.proofs.Cuts.{report-cut}
use Rattle.vouch_report.specs.Printed.{Prints}
use Rattle.vouch_report.specs.Parts.{numbers_of}

-- tables for the largest file are long enough for every file, so that the finding among everyone is refused as the file is
finding-full : (f : List ℕ) → core_refusal f ones ones most_members most_members (work_length most_members most_links) ≡ file_refusal f
unfolding core_refusal
finding-full f = go (file_refusal f) refl
  where
    go : (r : Option Refusal) → file_refusal f ≡ r → core_refusal f ones ones most_members most_members (work_length most_members most_links) ≡ file_refusal f
    go (Some q) e = or_else-first _ e ∙ sym e
    go None e =
        let a = (file.accepted f).0 e in
        let h = a.sound.header in
        let long : (graph_of f).order ≤ length ones = omega (arith, length-replicate {A = ℕ} most_members 1, h.order-most) in
        let group = ones-group (graph_of f).order h.order-most in
        core-none f ones ones most_members most_members (work_length most_members most_links) a
        record { a-long = long; b-long = long; sources = h.order-most; targets = h.order-most; work = omega (arith, h) } (group, group) ∙ sym e

-- the lengths of the program's tables
abbrev pub Full : List ℕ → List ℕ → List ℕ → Type 0
Full s t w = (length s ≡ most_members) × (length t ≡ most_members) × (length w ≡ work_length most_members most_links)

-- two tables can be cut to n entries
pub record Cut (n : ℕ) (s t : List ℕ) : Type 0 where
  pub s-holds : n ≤ length s
  pub s-length : n ≡ length (take n s)
  pub t-holds : n ≤ length t
  pub t-length : n ≡ length (take n t)

module _ {f s s' t t' w w' : List ℕ} {a : Result Ring Refusal} (z : Full s t w) (c : FindingCall f ones ones s s' t t' w w' a) where
  -- in them the call is refused as the file is
  call-refusal : core_refusal f ones ones (length s) (length t) (length w) ≡ file_refusal f
  call-refusal = rw (z.0, z.1, z.2) (finding-full f)

  -- a refused finding: its line is printed
  pub rendered-refused : {before after : List ℕ} {r : ℕ} (q : Refusal) → a ≡ Err q → Begins before (refusal_text q) after r → Rendered (Prints f) before after r
  rendered-refused q i b =
      let given : file_refusal f ≡ Some q = sym call-refusal ∙ (call-err (rw i at c.call)).0 in
      record {
        text = refusal_text q;
        told = record { refused = λ p h. ap refusal_text (same_Some _ _ (sym given ∙ h)); accepted = λ h. absurd (none-some q (sym h ∙ given)) };
        begins = b;
      }

  -- the call that found has found this
  found-told : (g : Ring) → a ≡ Ok g → (core_refusal f ones ones (length s) (length t) (length w) ≡ None) × FindingTold f ones ones s s' t t' w w' g
  found-told g i = call-ok (rw i at c.call)

  -- so its file is accepted,
  found-sound : (g : Ring) → a ≡ Ok g → Sound f
  found-sound g i = ((file.accepted f).0 (sym call-refusal ∙ (found-told g i).0)).sound

  -- the tables can be cut to its members,
  pub found-cut : (g : Ring) → a ≡ Ok g → length s' ≡ length s → length t' ≡ length t → {n : ℕ} → n ≡ (graph_of f).order → Cut n s' t'
  found-cut g i p q {n} e =
      let most = (found-sound g i).header.order-most in
      let k : n ≤ length s' = omega (arith, z, p, most, e) in
      let l : n ≤ length t' = omega (arith, z, q, most, e) in
      record { s-holds = k; s-length = sym (length-take-le n s' k); t-holds = l; t-length = sym (length-take-le n t' l) }

  -- and its report is printed
  pub rendered-found : {before after : List ℕ} {r : ℕ} (g : Ring) → a ≡ Ok g → {n k : ℕ} → n ≡ (graph_of f).order → k ≡ n
      → Begins before (report_text (numbers_of g) (take n s') (take n t') k) after r → Rendered (Prints f) before after r
  rendered-found g i {n} e k b =
      let (h, d) = found-told g i in
      let all = ones-all (graph_of f).order (found-sound g i).header.order-most in
      record {
        text = report_text (numbers_of g) s' t' (graph_of f).order;
        told = record {
          refused = λ q u. absurd (none-some q (sym (sym call-refusal ∙ h) ∙ u));
          accepted = λ u. record {
            numbers = numbers_of g;
            s = s';
            t = t';
            outcome = d.outcome.former all all;
            equal = d.equal.former all all;
            counted = let k = d.groups.counted in (ap (λ c. c.edges) k, ap (λ c. c.sources) k, ap (λ c. c.targets) k);
            same = refl;
          };
        };
        begins = rw (← e, ← report-cut (numbers_of g) s' t' n) (rw k at b);
      }
