-- The calls that write a file: each refusal under its condition; and a file written and read again holds the same links.
use Prim.Native.Nat.{ℕ, ◌<◌, ◌≤◌}
use mathlib.Core.List.{List, ◌++◌}
use mathlib.Core.Path.{◌≡◌, refl, sym, ap, ◌∙◌}
use native.Mathlib.Omega.{arith}
use borrow.Author.Tests.{lt-ltb, le-ltb}
use lib.ListN.{length, get_or, drop}
use lib.Seq.{sets, take_at}
use Rattle.graph.specs.Graph.{Graph}
use Rattle.graph.specs.Order.{precedes, edge_at}
use Rattle.graph.specs.Sorting.{Sorted}
use Rattle.graph.specs.Listed.{Lists, listed}
use Rattle.graph.proofs.Ranges.{flat-ext}
use Rattle.graph.proofs.Order.{precedes-strict, edge_at-lt}
use Rattle.graph.proofs.Sorting.{sorted-nth}
use Rattle.std.specs.Prelude.{Option, None, Some, Result}
use Rattle.network.specs.declared.Refusal.{Refusal}
use Rattle.network.specs.declared.Refusal.TheVariants.{Table}
use Rattle.network.specs.File.{version_of, kind_at, graph_of, file_length}
use Rattle.network.specs.Bytes.{header, standing, written, ordered}
use Rattle.network.specs.Refusals.{out_refusal}
use Rattle.network.specs.Accepted.{Distinct, Accepted}
use Rattle.network.proofs.Accepted.{ltb-fails, cond-none, or_else-both, accepted-distinct, old-accepted, accepted}
use Rattle.network.proofs.Answers.{call-done, or_else-first, or_else-second}
use Rattle.network.proofs.Puts.{sets-front}
use Rattle.network.proofs.Versions.{kind-none}
use Rattle.network.proofs.Written.{Kinds, length-written, written-version, written-order, written-size, written-linked, written-edges, written-accepted, written-ascending}
use Rattle.calls.specs.Calls.{ReadAgain, Rewritten, WriteCall, OrderCall}

-- the refusal of what is read comes first,
pub out-first : {r : Option Refusal} {q : Refusal} (m o : ℕ) → r ≡ Some q → out_refusal r m o ≡ Some q
unfolding out_refusal
out-first m o = or_else-first _

-- then 9 for a short output
pub out-short : {r : Option Refusal} (k o : ℕ) → r ≡ None → o < k → out_refusal r k o ≡ Some Table
unfolding out_refusal
out-short k o e l = or_else-second _ e ∙ rw (lt-ltb o k l)

-- else none
pub out_none : {r : Option Refusal} (k o : ℕ) → r ≡ None → k ≤ o → out_refusal r k o ≡ None
unfolding out_refusal
out_none k o e l = or_else-second _ e ∙ rw (le-ltb o k l)

-- and where there is none the output has room
pub out-passed : {r : Option Refusal} (k o : ℕ) → out_refusal r k o ≡ None → (r ≡ None) × (k ≤ o)
unfolding out_refusal
out-passed {r} k o h = let (p, q) = (or_else-both r _).0 h in (p, (ltb-fails o k).0 ((cond-none _ Table None).0 q).0)

-- a file has kinds other than 0 in version 2 alone
pub file-kinds : (f : List ℕ) (m : ℕ) → Kinds (version_of f) (kind_at f) m
file-kinds f m e l n = kind-none f e n

-- condition 2, last sentence: a file written and read again holds the same links, of the same kinds
pub read_again : {f : List ℕ} → Distinct f → ReadAgain f (ordered f)
read_again {f} a =
    let g = graph_of f in
    let v = version_of f in
    let h = a.sound.header in
    let plain = file-kinds f g.size in
    record {
      accepted = (accepted (ordered f)).1 (written-accepted v (kind_at f) g plain h.version-least h.version-most h.order-most h.size-most a.sound.closed a.sound.kinds a.simple);
      version = written-version v (kind_at f) g;
      order = written-order v (kind_at f) g;
      size = written-size v (kind_at f) g;
      linked = written-linked v (kind_at f) g plain;
      counted = written-edges v (kind_at f) g plain (λ e l. refl);
      ascending = written-ascending v (kind_at f) g a.simple;
    }

-- the file stored over the first bytes of the output stands before the rest, and can be read again
pub rewritten : {f : List ℕ} (out : List ℕ) {out' : List ℕ} {m : ℕ} → Distinct f → file_length f ≤ length out → m ≡ (graph_of f).size → out' ≡ sets out 0 (ordered f) → Rewritten f out out' m
rewritten {f} out {out'} a l e q = record { size = e; file = file; again = rw (file, take_at (ordered f) (drop (file_length f) out) (file_length f) long) (read_again a) }
  where
    long : length (ordered f) ≡ file_length f
    long = length-written (version_of f) (kind_at f) (graph_of f)

    file : out' ≡ ordered f ++ drop (file_length f) out
    file = q ∙ sets-front out (ordered f) (omega (arith, long)) ∙ ap (λ k. ordered f ++ drop k out) long

-- the writer of an accepted file of version 1 is the conversion of it: neither rule refuses the file
pub order-accepted : (f out out' : List ℕ) {r : Result ℕ Refusal} → Accepted f → version_of f ≤ 1 → WriteCall f out out' r → OrderCall f out out' r
order-accepted f out out' a v =
    call-done (ap (λ q. out_refusal q (file_length f) (length out)) ((accepted f).1 a ∙ sym ((old-accepted f).1 (accepted-distinct a, v)))) (λ v n d. d)

-- entry i of a sorted list is the edge of rank i, and an edge of the graph
sorted-edge : (g : Graph) {l : List ℕ} → Sorted (precedes g) g.size l → (i : ℕ) → i < g.size → (get_or l i 0 ≡ edge_at g i) × (get_or l i 0 < g.size)
sorted-edge g s i l = let e = sorted-nth (precedes-strict g) s i l in (e, rw e (edge_at-lt g i l))

-- so a sorted list is one of edges,
pub sorted-lists : (g : Graph) (l : List ℕ) → length l ≡ g.size → Sorted (precedes g) g.size l → Lists g l
sorted-lists g l n s i h = (sorted-edge g s i (omega (arith, n))).1

-- and their file is the written one
pub sorted-written : (v : ℕ) (kind : ℕ → ℕ) (g : Graph) (l : List ℕ) → length l ≡ g.size → Sorted (precedes g) g.size l
    → standing v (λ i. kind (get_or l i 0)) (listed g l) ≡ written v kind g
sorted-written v kind g l n s =
    rw n (ap (λ t. header v g.order g.size ++ t) (flat-ext g.size (λ i h. let (e, k) = sorted-edge g s i h in rw e)))
