-- From the conversion to what is written: the program's buffer holds the largest file, so that 9 is never given, and the answer tells the refusal
-- by the old rule or the length of the file that stands in the buffer.
use Prim.Native.Nat.{ℕ, ◌≤◌}
use mathlib.Core.List.{List, ◌++◌}
use mathlib.Core.Path.{◌≡◌, refl, sym, ap, ◌∙◌}
use native.Mathlib.Omega.{arith}
use lib.ListN.{length, drop, length-append}
use Rattle.std.specs.Prelude.{Option, None, Some, Result, Ok, Err}
use Rattle.std.proofs.lemmas.Option.{none-some, same_Some}
use Rattle.network.specs.declared.Refusal.{Refusal}
use Rattle.network.specs.File.{most_links, version_of, stride_of, link_at, kind_at, graph_of, file_length, old_refusal}
use Rattle.network.specs.Bytes.{ordered}
use Rattle.network.specs.Refusals.{order_refusal}
use Rattle.network.proofs.Versions.{stride-four}
use Rattle.network.proofs.Accepted.{old-accepted, old-version}
use Rattle.network.proofs.Answers.{call-err, call-ok}
use Rattle.network.proofs.Written.{length-written}
use Rattle.calls.specs.Calls.{Rewritten, OrderCall}
use Rattle.calls.proofs.Writer.{out-first, out_none, read_again}
use Rattle.report.specs.Text.{refusal_text, Begins, Rendered}
use Rattle.vouch_order.specs.Converted.{Converts}

-- a file that the old rule takes is of version 1, and has four bytes a link,
old-four : (f : List ℕ) → old_refusal f ≡ None → stride_of f ≡ 4
old-four f e = stride-four (omega (arith, old-version f e))

-- and where the output holds the largest such file the conversion is refused by the old rule alone
order-full : (f : List ℕ) (o : ℕ) → link_at 4 most_links ≤ o → order_refusal f o ≡ old_refusal f
order-full f o l = go (old_refusal f) refl
  where
    go : (r : Option Refusal) → old_refusal f ≡ r → order_refusal f o ≡ old_refusal f
    go (Some q) e = out-first (file_length f) o e ∙ sym e
    go None e = out_none _ o e (rw (old-four f e) (omega (arith, l, ((old-accepted f).0 e).0.sound.header.size-most))) ∙ sym e

module _ {f before middle : List ℕ} {a : Result ℕ Refusal} (l : link_at 4 most_links ≤ length before) (c : OrderCall f before middle a) where
  -- a refused conversion: its line is printed
  pub converted-refused : {after : List ℕ} {r : ℕ} (q : Refusal) → a ≡ Err q → Begins middle (refusal_text q) after r → Rendered (Converts f) before after r
  converted-refused {after} {r} q i b =
      let (e, k) = call-err (rw i at c) in
      let given : old_refusal f ≡ Some q = sym (order-full f (length before) l) ∙ e in
      let never : old_refusal f ≡ None → ⊥ = λ h. none-some q (sym h ∙ given) in
      let unmoved : middle ≡ before = cc in
      record {
        text = refusal_text q;
        told = record { refused = λ p h. ap refusal_text (same_Some _ _ (sym given ∙ h)); ordered = λ h. absurd (never h); again = λ h. absurd (never h) };
        begins = rw unmoved at b;
      }

  -- a conversion that is not refused has written the file with its links in order,
  written-told : (m : ℕ) → a ≡ Ok m → (old_refusal f ≡ None) × Rewritten f before middle m
  written-told m i = let (n, d) = call-ok (rw i at c) in (sym (order-full f (length before) l) ∙ n, d)

  -- which stands at the start of the buffer
  pub converted-written : {r : ℕ} (m : ℕ) → a ≡ Ok m → r ≡ link_at 4 m → Rendered (Converts f) before middle r
  converted-written m i e =
      let (n, d) = written-told m i in
      let long : length (ordered f) ≡ file_length f = length-written (version_of f) (kind_at f) (graph_of f) in
      let length-file : link_at 4 m ≡ length (ordered f) = rw (d.size, ← old-four f n) (sym long) in
      let laid : middle ≡ ordered f ++ drop (length (ordered f)) before = d.file ∙ ap (λ k. ordered f ++ drop k before) (sym long) in
      record {
        text = ordered f;
        told = record { refused = λ q h. absurd (none-some q (sym n ∙ h)); ordered = λ h. refl; again = λ h. read_again ((old-accepted f).0 h).0 };
        begins = record {
          laid = laid;
          size = e ∙ length-file;
          counts = omega (arith, e, length-file, ap length laid, length-append (ordered f) (drop (length (ordered f)) before));
        };
      }
