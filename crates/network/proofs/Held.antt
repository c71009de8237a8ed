-- Files by what they hold. A network whose edges ascend, written as they stand, is a file of its links; and files of as many members that hold the same
-- links, of the same kinds, have one network: their edges stand alike, and past the last one both read as zeros.
use Prim.Native.Nat.{ℕ, zero, suc, ◌+◌, ◌<◌, ◌≤◌}
use mathlib.Core.Bool.{Bool, true, false, cond}
use mathlib.Core.List.{List, [], ◌∷◌, ◌++◌}
use mathlib.Core.Logic.{◌↔◌}
use mathlib.Core.Logic.Iff
use mathlib.Core.Path.{◌≡◌, refl, sym, ap, ◌∙◌}
use native.Mathlib.Decide.{ℕ_discrete, dec_lt}
use native.Mathlib.Omega.{arith}
use lib.Dec.{eqb}
use lib.ListN.{length, get_or, drop}
use lib.Seq.{sets}
use Rattle.std.proofs.Math.Path.{fun_ext}
use Rattle.std.proofs.lemmas.List.{get_or_past}
use Rattle.graph.specs.Range.{flat}
use Rattle.graph.specs.Graph.{Graph}
use Rattle.graph.specs.Shapes.{Closed, Simple}
use Rattle.graph.specs.Order.{Ascending, edge_at}
use Rattle.graph.proofs.Ranges.{flat-ext}
use Rattle.graph.proofs.Order.{edge_at-lt}
use Rattle.graph.proofs.Ascending.{ascending-edge_at, ascending-simple, Alike, ascending-alike}
use Rattle.network.specs.File.{most_members, most_links, u16_at, version_of, stride, stride_of, link_at, kind_at, weight_of, graph_of, mark, LinkedAs}
use Rattle.network.specs.Bytes.{u16, header, kind_bytes, link_bytes, standing, ranked, written}
use Rattle.network.specs.Accepted.{Accepted}
use Rattle.network.specs.Held.{Filed, FileOf, FileWritten}
use Rattle.network.proofs.Accepted.{accepted}
use Rattle.network.proofs.Puts.{sets-front}
use Rattle.network.proofs.Versions.{link-most, kind-none, kind-some}
use Rattle.network.proofs.Kinded.{SameWeights, linked-same, kinds-alike, kinds-weighed}
use Rattle.network.proofs.Written.{Kinds, length-written, written-version, written-order, written-size, written-linked, written-accepted}

-- edges that ascend are written as they stand
pub written-standing : (v : ℕ) (kind : ℕ → ℕ) (g : Graph) → Ascending g → written v kind g ≡ standing v kind g
written-standing v kind g next =
    ap (λ t. header v g.order g.size ++ t) (flat-ext g.size (λ i l. rw (ascending-edge_at g next i l)))

-- past its last edge an accepted file has no bytes,
past-end : {f : List ℕ} → Accepted f → (e i : ℕ) → (graph_of f).size ≤ e → link_at (stride_of f) e ≤ i → length f ≤ i
past-end {f} a e i l h =
    elim (dec_lt 0 (length f)) [ yes p ↦ omega (arith, (a.sound.header.headed p).exact, link-most (stride_of f) (graph_of f).size e l) | no p ↦ omega arith ]

-- so that numbers read there are 0
past-zero : {f : List ℕ} → Accepted f → (e i : ℕ) → (graph_of f).size ≤ e → link_at (stride_of f) e ≤ i → u16_at f i ≡ 0
past-zero {f} a e i l h = let past = past-end a e i l h in rw (get_or_past f i 0 past, get_or_past f (i + 1) 0 (omega (arith, past))) refl

-- and so are kinds
past-kind : {f : List ℕ} → Accepted f → (e : ℕ) → (graph_of f).size ≤ e → kind_at f e ≡ 0
past-kind {f} a e l =
    elim (ℕ_discrete (version_of f) 2) [
      | yes v ↦ kind-some f e v ∙ get_or_past f _ 0 (past-end a e _ l (omega arith))
      | no v ↦ kind-none f e v
    ]

-- files of as many members that hold the same links, of the same weights, have one network
pub one-network : {f f' : List ℕ} → Accepted f → Accepted f' → (graph_of f).order ≡ (graph_of f').order → SameWeights f f' → graph_of f ≡ graph_of f'
one-network {f} {f'} a b n same =
    ap (λ n. record { order = n; size = g.size; source = g.source; target = g.target; weight = g.weight }) n
    ∙ ap (λ m. record { order = h.order; size = m; source = g.source; target = g.target; weight = g.weight }) s.size
    ∙ ap (λ t. record { order = h.order; size = h.size; source = t; target = g.target; weight = g.weight }) (fun_ext source)
    ∙ ap (λ t. record { order = h.order; size = h.size; source = h.source; target = t; weight = g.weight }) (fun_ext target)
    ∙ ap (λ t. record { order = h.order; size = h.size; source = h.source; target = h.target; weight = t }) (fun_ext weight)
  where
    g : Graph
    g = graph_of f

    h : Graph
    h = graph_of f'

    s : Alike g h
    s = ascending-alike g h a.ascending b.ascending (linked-same g h g.weight h.weight same)

    -- past the last edge both read as zeros
    source : (e : ℕ) → g.source e ≡ h.source e
    source e = elim (dec_lt e g.size) [ yes l ↦ s.source e l | no l ↦ past-zero a e _ (omega arith) (omega arith) ∙ sym (past-zero b e _ (omega (arith, s.size)) (omega arith)) ]

    target : (e : ℕ) → g.target e ≡ h.target e
    target e = elim (dec_lt e g.size) [ yes l ↦ s.target e l | no l ↦ past-zero a e _ (omega arith) (omega arith) ∙ sym (past-zero b e _ (omega (arith, s.size)) (omega arith)) ]

    -- and weigh what kind 0 does
    weight : (e : ℕ) → g.weight e ≡ h.weight e
    weight e =
        elim (dec_lt e g.size) [
          | yes l ↦ kinds-alike g h g.weight h.weight (λ u v w. (same u v w).0) s (ascending-simple h b.ascending) e l
          | no l ↦ ap weight_of (past-kind a e (omega arith) ∙ sym (past-kind b e (omega (arith, s.size))))
        ]

-- so those that hold the same links of the same kinds do
pub same-network : {n : ℕ} {holds : ℕ → ℕ → ℕ → Type 0} {f f' : List ℕ} → FileOf n holds f → FileOf n holds f' → graph_of f ≡ graph_of f'
same-network {f = f} {f' = f'} p q =
    one-network ((accepted f).0 p.accepted) ((accepted f').0 q.accepted) (p.order ∙ sym q.order) (kinds-weighed f f' (λ u v k. Iff.trans (p.linked u v k) (Iff.symm (q.linked u v k))))

-- each number of a list is a byte
record Bytes (l : List ℕ) : Type 0 where
  byte : (i : ℕ) → get_or l i 0 < 256

-- of none,
bytes-none : Bytes []
bytes-none = record { byte = λ i. omega arith }

-- of one more,
bytes-more : {b : ℕ} {l : List ℕ} → b < 256 → Bytes l → Bytes (b ∷ l)
bytes-more {b} {l} h p = record { byte = λ i. elim i as (λ i. get_or (b ∷ l) i 0 < 256) [ zero ↦ h | suc i ↦ p.byte i ] }

-- and of two lists, one after the other
bytes-append : {a b : List ℕ} → Bytes a → Bytes b → Bytes (a ++ b)
bytes-append {a = []} p q = q
bytes-append {a = x ∷ a} p q = bytes-more (p.byte 0) (bytes-append {a = a} (record { byte = λ i. p.byte (suc i) }) q)

-- so those of a number of 16 bits are bytes,
bytes-u16 : (k : ℕ) → k < 65536 → Bytes (u16 k)
bytes-u16 k l = bytes-more (omega arith) (bytes-more (omega arith) bytes-none)

-- those of a header,
bytes-header : (v n m : ℕ) → v < 65536 → n < 65536 → m < 65536 → Bytes (header v n m)
bytes-header v n m l p q =
    let front : Bytes (mark ++ u16 v) = bytes-more (omega arith) (bytes-more (omega arith) (bytes-more (omega arith) (bytes-u16 v l))) in
    bytes-append front (bytes-append (bytes-u16 n p) (bytes-u16 m q))

-- those of a kind,
bytes-kind : (v k : ℕ) → k < 256 → Bytes (kind_bytes v k)
unfolding kind_bytes
bytes-kind v k l = go (eqb v 2)
  where
    go : (b : Bool) → Bytes (cond b (k ∷ []) [])
    go true = bytes-more l bytes-none
    go false = bytes-none

-- and those of links
bytes-edges : (v : ℕ) (kind : ℕ → ℕ) (g : Graph) (m : ℕ) → ((e : ℕ) → e < m → (g.source e < 65536) × (g.target e < 65536) × (kind e < 256)) → Bytes (flat (link_bytes v kind g) m)
unfolding flat
bytes-edges v kind g zero h = bytes-none
bytes-edges v kind g (suc m) h =
    let (p, q, r) = h m (omega arith) in
    bytes-append (bytes-edges v kind g m (λ e l. h e (omega arith))) (bytes-append (bytes-append (bytes-u16 (g.source m) p) (bytes-u16 (g.target m) q)) (bytes-kind v (kind m) r))

-- a network within the limits, of a version, with kinds that this has
pub record Writable (v : ℕ) (kind : ℕ → ℕ) (g : Graph) : Type 0 where
  pub version-least : 1 ≤ v
  pub version-most : v ≤ 2
  pub few : g.order ≤ most_members
  pub most : g.size ≤ most_links
  pub closed : Closed g
  pub kinds : (e : ℕ) → e < g.size → kind e ≤ 7
  pub plain : Kinds v kind g.size

-- written, where no two edges are the same,
module _ {v : ℕ} {kind : ℕ → ℕ} {g : Graph} (w : Writable v kind g) (simple : Simple g) where
  -- is an accepted file of bytes
  pub written-filed : Filed (written v kind g)
  written-filed =
      record {
        bytes = (bytes-append (bytes-header v g.order g.size (omega (arith, w.version-most)) (omega (arith, w.few)) (omega (arith, w.most))) (bytes-edges v (λ i. kind (edge_at g i)) (ranked g) g.size (λ i l.
            let e = edge_at-lt g i l in (omega (arith, w.closed.source-below _ e, w.few), omega (arith, w.closed.target_below _ e, w.few), omega (arith, w.kinds _ e))))).byte;
        some = omega arith;
        accepted = (accepted (written v kind g)).1 (written-accepted v kind g w.plain w.version-least w.version-most w.few w.most w.closed w.kinds simple);
      }

  -- that holds its links
  pub written-held : {holds : ℕ → ℕ → ℕ → Type 0} → ((a b k : ℕ) → LinkedAs g kind a b k ↔ holds a b k) → FileOf g.order holds (written v kind g)
  written-held linked =
      record { accepted = written-filed.accepted; order = written-order v kind g; linked = λ a b k. Iff.trans (written-linked v kind g w.plain a b k) (linked a b k) }

-- and with its edges as they stand, where these ascend, at the front of an output
pub standing-written : {v : ℕ} {kind : ℕ → ℕ} {g : Graph} {holds : ℕ → ℕ → ℕ → Type 0} → Writable v kind g → Ascending g
    → ((a b k : ℕ) → LinkedAs g kind a b k ↔ holds a b k) → (out : List ℕ) {out' : List ℕ} → link_at (stride v) g.size ≤ length out
    → out' ≡ sets out 0 (standing v kind g) → FileWritten v g.order holds out out' g.size
standing-written {v} {kind} {g} {holds} w ascending linked out long e =
    record {
      file = standing v kind g;
      front = e ∙ sets-front out (standing v kind g) (omega (arith, long')) ∙ ap (λ k. standing v kind g ++ drop k out) long';
      long = long';
      version = ap version_of (sym same) ∙ written-version v kind g;
      filed = rw same at (written-filed w simple);
      held = held;
      size = sym (ap (λ f. (graph_of f).size) (sym same) ∙ written-size v kind g);
      network = λ f h. same-network h held;
    }
  where
    same : written v kind g ≡ standing v kind g
    same = written-standing v kind g ascending

    simple : Simple g
    simple = ascending-simple g ascending

    long' : length (standing v kind g) ≡ link_at (stride v) g.size
    long' = ap length (sym same) ∙ length-written v kind g

    held : FileOf g.order holds (standing v kind g)
    held = rw same at (written-held w simple linked)
