-- A file is its header and its edges as they stand. So one whose edges ascend is written byte for byte as it is, and zero bytes as the header of
-- a file with no vertex and no edge; and two of a version whose edges ascend hold the same links, of the same kinds, exactly when their bytes are equal.
use Prim.Native.Nat.{ℕ, zero, suc, ◌+◌, ◌/◌, ◌%◌, ◌<◌, ◌≤◌}
use mathlib.Core.List.{List, [], ◌∷◌, ◌++◌, append_assoc, append-nil}
use mathlib.Core.Path.{◌≡◌, refl, sym, ap, ◌∙◌}
use native.Mathlib.Decide.{ℕ_discrete}
use native.Mathlib.Numerals.{add-one}
use native.Mathlib.Omega.{arith}
use lib.ListN.{length, get_or, drop}
use lib.Seq.{drop-cons, drop-length}
use Rattle.std.proofs.lemmas.Bool.Decides.{nat_tests}
use Rattle.graph.specs.Range.{flat}
use Rattle.graph.specs.Graph.{Graph}
use Rattle.graph.specs.Order.{Ascending}
use Rattle.graph.proofs.Ranges.{flat-ext}
use Rattle.graph.proofs.Ascending.{ascending-simple, Alike, ascending-alike}
use Rattle.network.specs.File.{u16_at, version_of, stride, link_at, kind_at, graph_of, file_length, SameKinds}
use Rattle.network.specs.Bytes.{u16, header, kind_bytes, link_bytes, standing, ordered}
use Rattle.network.specs.Accepted.{Headed}
use Rattle.network.proofs.Versions.{version-none, version-some, stride-range, stride-four, stride-five, kind_bytes-some, kind_bytes-none, link-within, kind-some}
use Rattle.network.proofs.Kinded.{linked-same, kinds-alike}
use Rattle.network.proofs.Accepted.{accepted}
use Rattle.network.specs.Held.{Filed}
use Rattle.network.proofs.Held.{written-standing}
use Rattle.calls.specs.Calls.{OneOrder}

module _ (f : List ℕ) (bytes : (i : ℕ) → get_or f i 0 < 256) where
  -- a number's two bytes, before what comes after them
  number-front : (i k : ℕ) → k ≡ i + 2 → k ≤ length f → u16 (u16_at f i) ++ drop k f ≡ drop i f
  number-front i k e l =
      let low : u16_at f i % 256 ≡ get_or f i 0 = omega (arith, bytes i, bytes (i + 1)) in
      let high : u16_at f i / 256 ≡ get_or f (i + 1) 0 = omega (arith, bytes i, bytes (i + 1)) in
      let next : k ≡ suc (i + 1) = omega arith in
      rw (low, high, next)
      (sym (drop-cons f i 0 (omega arith) ∙ ap (λ j. get_or f i 0 ∷ drop j f) (sym (add-one i)) ∙ ap (λ t. get_or f i 0 ∷ t) (drop-cons f (i + 1) 0 (omega arith))))

  -- the version, and the bytes of a link
  abbrev v : ℕ
  v = version_of f

  abbrev s : ℕ
  s = stride v

  -- the bytes of edge e
  abbrev bytes_at : ℕ → List ℕ
  bytes_at e = link_bytes v (kind_at f) (graph_of f) e

  -- the byte of its kind, where it has one
  kind-front : (e k : ℕ) → k ≡ link_at s e + s → k ≤ length f → kind_bytes v (kind_at f e) ++ drop k f ≡ drop (link_at s e + 4) f
  kind-front e k q l =
      elim (ℕ_discrete v 2) [
        | yes h ↦
            let next : k ≡ suc (link_at s e + 4) = omega (arith, stride-five h) in
            rw (kind_bytes-some (kind_at f e) h, kind-some f e h, next) (sym (drop-cons f (link_at s e + 4) 0 (omega arith)))
        | no h ↦
            let same : k ≡ link_at s e + 4 = omega (arith, stride-four h) in
            rw (kind_bytes-none (kind_at f e) h, same)
      ]

  -- so all of an edge's
  edge-front : (e k : ℕ) → k ≡ link_at s e + s → k ≤ length f → bytes_at e ++ drop k f ≡ drop (link_at s e) f
  edge-front e k q l =
      let long : link_at s e + 4 ≤ length f = omega (arith, stride-range v) in
      ap (λ t. u16 (u16_at f (link_at s e)) ++ u16 (u16_at f (link_at s e + 2)) ++ t) (kind-front e k q l)
      ∙ ap (λ t. u16 (u16_at f (link_at s e)) ++ t) (number-front (link_at s e + 2) (link_at s e + 4) (omega arith) long)
      ∙ number-front (link_at s e) (link_at s e + 2) refl (omega arith)

  -- those of the edges before m
  edges-front : (m : ℕ) → link_at s m ≤ length f → flat bytes_at m ++ drop (link_at s m) f ≡ drop 9 f
  unfolding flat
  edges-front zero l = let none : link_at s 0 ≡ 9 = omega arith in rw none
  edges-front (suc m) l =
      append_assoc (flat bytes_at m) (bytes_at m) _
      ∙ ap (λ t. flat bytes_at m ++ t) (edge-front m (link_at s (suc m)) (omega arith) l)
      ∙ edges-front m (omega (arith, link-within s m (suc m) (omega arith)))

  -- and the header
  header-front : Headed f → header v (graph_of f).order (graph_of f).size ++ drop 9 f ≡ f
  header-front a = let told = version-some f (omega (arith, a.long)) in grind (arith, nat_tests)

  -- so a file is its header and its edges as they stand
  pub standing-itself : Headed f → standing v (kind_at f) (graph_of f) ≡ f
  standing-itself a =
      let g = graph_of f in
      let last : drop (file_length f) f ≡ [] = ap (λ k. drop k f) (sym a.exact) ∙ drop-length f in
      ap (λ t. header v g.order g.size ++ t)
      (sym (append-nil (flat bytes_at g.size)) ∙ ap (λ t. flat bytes_at g.size ++ t) (sym last) ∙ edges-front g.size (omega (arith, a.exact)))
      ∙ header-front a

-- so a file whose edges ascend is the written one
pub written-itself : (f : List ℕ) → ((i : ℕ) → get_or f i 0 < 256) → Headed f → Ascending (graph_of f) → ordered f ≡ f
written-itself f bytes a next = written-standing (version_of f) (kind_at f) (graph_of f) next ∙ standing-itself f bytes a

-- zero bytes are written as a header alone
pub written-quiet : (f : List ℕ) → length f ≡ 0 → ordered f ≡ header 1 0 0
unfolding flat
written-quiet [] e = ap (λ v. header v 0 0) (version-none [] e)
written-quiet (b ∷ r) e = absurd (omega arith)

-- edges that are the same in the same order, of the same kinds, stand as the same bytes
standing-alike : (g h : Graph) {v v' : ℕ} {kind kind' : ℕ → ℕ} → v ≡ v' → g.order ≡ h.order → Alike g h → ((e : ℕ) → e < g.size → kind e ≡ kind' e)
    → standing v kind g ≡ standing v' kind' h
standing-alike g h {v' = v} o n a k =
    rw (o, n, a.size) (ap (λ t. header v h.order h.size ++ t) (flat-ext h.size (λ e l. let i : e < g.size = rw a.size l in rw (a.source e i, a.target e i, k e i))))

-- 02, wishes 7 and 13: within one version, with the same n, two accepted files hold the same links, of the same kinds, exactly when their bytes are equal
pub one-order : OneOrder
one-order f f' a b v n = (equal, λ e u t k. (λ l. rw e at l, λ l. rw (← e) at l))
  where
    headed : (f : List ℕ) → Filed f → Headed f
    headed f a = ((accepted f).0 a.accepted).sound.header.headed a.some

    ascends : (f : List ℕ) → Filed f → Ascending (graph_of f)
    ascends f a = ((accepted f).0 a.accepted).ascending

    equal : SameKinds f f' → f ≡ f'
    equal same =
        let g = graph_of f in
        let h = graph_of f' in
        let alike = ascending-alike g h (ascends f a) (ascends f' b) (linked-same g h (kind_at f) (kind_at f') same) in
        let kinds = kinds-alike g h (kind_at f) (kind_at f') (λ u t k. (same u t k).0) alike (ascending-simple h (ascends f' b)) in
        sym (standing-itself f a.bytes (headed f a)) ∙ standing-alike g h v n alike kinds ∙ standing-itself f' b.bytes (headed f' b)
