-- The call with the files exchanged, and of a file with itself: there is one network of the links in both, and of these kinds one file, and the
-- totals are told by the definitions.
use Prim.Native.Nat.{ℕ, ◌≤◌}
use mathlib.Core.List.{List, ◌++◌}
use mathlib.Core.Logic.{◌↔◌}
use mathlib.Core.Logic.Iff
use mathlib.Core.Path.{◌≡◌, refl, sym, ap, ◌∙◌}
use native.Mathlib.Omega.{arith}
use lib.ListN.{length, take, drop}
use lib.Seq.{take_at}
use Rattle.std.specs.Prelude.{None, Ok}
use Rattle.graph.specs.Range.{if}
use Rattle.graph.specs.Graph.{Graph}
use Rattle.graph.specs.Shapes.{Simple}
use Rattle.graph.proofs.Sums.{sum-ext, sum_ones}
use Rattle.network.specs.File.{version_of, stride, link_at, kind_at, weight_of, graph_of, LinkedAs}
use Rattle.network.specs.Bytes.{written}
use Rattle.network.specs.Held.{Filed, FileOf}
use Rattle.network.specs.Accepted.{Accepted}
use Rattle.network.proofs.Accepted.{accepted-distinct, accepted}
use Rattle.network.proofs.Written.{written-version}
use Rattle.network.proofs.Held.{one-network, Writable, written-filed, written-held}
use Rattle.network.proofs.Answers.{call-ok, call-passed}
use Rattle.calls.proofs.Itself.{written-itself, one-order}
use Rattle.calls.proofs.Writer.{out_none, out-passed}
use Rattle.merging.specs.declared.CommonTotals.{CommonTotals}
use Rattle.merging.specs.Shared.{shared, unshared}
use Rattle.merging.specs.Calls.{pair_refusal, common_length, InBoth, CommonTold, FilesExchanged, FileWithItself}
use Rattle.merging.proofs.Shares.{one-ends, shared-holds, total-first}
use Rattle.merging.proofs.Pairs.{pair-none, pair-accepted, pair-exchanged}

-- there is one file of bytes of a version, which is not empty, of the same links among as many members
one-file : {n : ℕ} {holds : ℕ → ℕ → ℕ → Type 0} {f f' : List ℕ} → Filed f → Filed f' → version_of f ≡ version_of f' → FileOf n holds f → FileOf n holds f' → f ≡ f'
one-file {f} {f'} a b v p q = (one-order f f' a b v (p.order ∙ sym q.order)).0 (λ u t k. Iff.trans (p.linked u t k) (Iff.symm (q.linked u t k)))

-- a link of both has the weight that it has in either
both-weighed : (f f' : List ℕ) {w : List ℕ} {n : ℕ} → FileOf n (InBoth f f') w → (u v c : ℕ)
    → LinkedAs (graph_of w) (graph_of w).weight u v c ↔ (LinkedAs (graph_of f) (graph_of f).weight u v c × LinkedAs (graph_of f') (graph_of f').weight u v c)
both-weighed f f' {w} p u v c = (
  λ (e, l, s, t, i).
      let ((d, m, q, r, k), (d', m', q', r', k')) = (p.linked u v (kind_at w e)).0 (e, l, s, t, refl) in
      ((d, m, q, r, ap weight_of k ∙ i), (d', m', q', r', k' ∙ i)),
  λ ((d, m, q, r, k), (d', m', q', r', k')).
      let (e, l, s, t, i) = (p.linked u v (kind_at f d)).1 ((d, m, q, r, refl), (d', m', q', r', k' ∙ sym k)) in
      (e, l, s, t, ap weight_of i ∙ k),
)

-- totals of the same three numbers are the same
same-totals : {a b c a' b' c' : ℕ} → a ≡ a' → b ≡ b' → c ≡ c' → ◌≡◌ {A = CommonTotals} (record { both = a; first_only = b; second_only = c }) (record { both = a'; first_only = b'; second_only = c' })
same-totals p q r = rw (p, q, r)

-- the front of an output is the file written there
told : (out : List ℕ) {out' file : List ℕ} {n m : ℕ} → out' ≡ file ++ drop m out → n ≡ m → length file ≡ m → take n out' ≡ file
told out {out'} {file} {n} {m} e q l = rw (e, q) (take_at file (drop m out) m l)

-- 02: with the files exchanged the network is the same, and the two other totals are exchanged
pub files-exchanged : FilesExchanged
files-exchanged f f' out out' o o' c r t n s =
    record {
      totals = i ∙ ap Ok (same-totals both first second);
      network = rw (front, front') network;
      file = λ alike. rw (front, front') (one-file k.file.filed h.file.filed (k.file.version ∙ sym h.file.version) (held alike) h.file.held);
    }
  where
    h : CommonTold f f' out out' c
    h = (call-ok t).1

    passed : (pair_refusal f f' ≡ None) × (common_length f f' ≤ length out)
    passed = out-passed _ _ (call-ok t).0

    pair : Accepted f × Accepted f' × ((graph_of f).order ≡ (graph_of f').order)
    pair = pair-accepted f f' passed.0

    -- as many links of the second are links of the first
    turned : shared (graph_of f') (graph_of f) ≡ c.both
    turned = omega (arith, total-first (graph_of f') (graph_of f), h.second_size, h.second_only)

    other : (v : CommonTotals) × (r ≡ Ok v) × CommonTold f' f o o' v
    other = call-passed (out_none _ _ (pair-exchanged f f' passed.0) (omega (arith, passed.1, n, ap (link_at (stride 2)) (turned ∙ h.both)))) s

    v : CommonTotals
    v = other.0

    i : r ≡ Ok v
    i = other.1

    k : CommonTold f' f o o' v
    k = other.2

    both : v.both ≡ c.both
    both = k.both ∙ turned

    first : v.first_only ≡ c.second_only
    first = k.first_only ∙ sym h.second_only

    second : v.second_only ≡ c.first_only
    second = k.second_only ∙ sym h.first_only

    -- both files are as long
    long : common_length f f' ≡ link_at (stride 2) c.both
    long = ap (link_at (stride 2)) (sym h.both)

    front : take (common_length f f') out' ≡ h.file.file
    front = told out h.file.front long h.file.long

    front' : take (common_length f f') o' ≡ k.file.file
    front' = told o k.file.front (long ∙ ap (link_at (stride 2)) (sym both)) k.file.long

    network : graph_of k.file.file ≡ graph_of h.file.file
    network =
        one-network ((accepted _).0 k.file.filed.accepted) ((accepted _).0 h.file.filed.accepted) (k.file.held.order ∙ sym pair.2 ∙ sym h.file.held.order)
        (λ a b w. Iff.trans (both-weighed f' f k.file.held a b w) (Iff.trans (λ (p, q). (q, p), λ (p, q). (q, p)) (Iff.symm (both-weighed f f' h.file.held a b w))))

    held : ((a b w : ℕ) → InBoth f f' a b w ↔ InBoth f' f a b w) → FileOf (graph_of f).order (InBoth f f') k.file.file
    held alike =
        record { accepted = k.file.held.accepted; order = k.file.held.order ∙ sym pair.2; linked = λ a b w. Iff.trans (k.file.held.linked a b w) (Iff.symm (alike a b w)) }

-- every link of a network is one of the network itself
shared-itself : (g : Graph) → shared g g ≡ g.size
shared-itself g = sum-ext g.size (λ e l. ap (λ b. if b 1) ((shared-holds g g e).1 (e, l, (one-ends g g e e).1 (refl, refl, refl)))) ∙ sum_ones g.size

-- 02: of a file with itself it is the file of its links in version 2, and no link is in one only
pub file-with-itself : FileWithItself
file-with-itself f out out' r a l t =
    record {
      totals = i ∙ ap Ok (same-totals both first second);
      file = h.file.front ∙ ap (λ t. t ++ drop (link_at (stride 2) (other.0).both) out) w ∙ ap (λ k. written 2 (kind_at f) g ++ drop (link_at (stride 2) k) out) both;
      itself = λ v. ap (λ v. written v (kind_at f) g) (sym v) ∙ written-itself f a.bytes (sound.sound.header.headed a.some) sound.ascending;
    }
  where
    g : Graph
    g = graph_of f

    sound : Accepted f
    sound = (accepted f).0 a.accepted

    none : unshared g g ≡ 0
    none = omega (arith, total-first g g, shared-itself g)

    other : (v : CommonTotals) × (r ≡ Ok v) × CommonTold f f out out' v
    other = call-passed (out_none _ _ (pair-none f f sound sound refl) (rw (shared-itself g) l)) t

    i : r ≡ Ok other.0
    i = other.1

    h : CommonTold f f out out' other.0
    h = other.2

    both : (other.0).both ≡ g.size
    both = h.both ∙ shared-itself g

    first : (other.0).first_only ≡ 0
    first = h.first_only ∙ none

    second : (other.0).second_only ≡ 0
    second = h.second_only ∙ none

    writable : Writable 2 (kind_at f) g
    writable =
        record {
          version-least = omega arith;
          version-most = omega arith;
          few = sound.sound.header.order-most;
          most = sound.sound.header.size-most;
          closed = sound.sound.closed;
          kinds = sound.sound.kinds;
          plain = λ e l n. absurd (n refl);
        }

    simple : Simple g
    simple = (accepted-distinct sound).simple

    -- its links are those in both
    itself : FileOf g.order (InBoth f f) (written 2 (kind_at f) g)
    itself = written-held writable simple (λ u v k. (λ (e, l, p, q, i). ((e, l, p, q, i), (e, l, p, q, ap weight_of i)), λ p. p.0))

    w : h.file.file ≡ written 2 (kind_at f) g
    w = one-file h.file.filed (written-filed writable simple) (h.file.version ∙ sym (written-version 2 (kind_at f) g)) h.file.held itself
