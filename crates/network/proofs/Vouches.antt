-- What one vouch can move, of files. The networks of two accepted files are plain, and the second has one edge more than the first; so levels rise by 0
-- or 1. The network with one edge more, written, is such a file where there is room for it; and each such file has at least its edges.
use Prim.Native.Nat.{ℕ}
use mathlib.Core.List.{List}
use mathlib.Core.Logic.{inr}
use mathlib.Core.Logic.Iff
use mathlib.Core.Path.{◌≡◌, refl, ap}
use native.Mathlib.Omega.{arith}
use Rattle.std.specs.Prelude.{None}
use Rattle.graph.specs.Graph.{SameLinks}
use Rattle.graph.specs.Adding.{add, Plain}
use Rattle.graph.proofs.Pairs.{linked-size}
use Rattle.graph.proofs.Adding.{add-linked, add-plain}
use Rattle.graph.proofs.Vouches.{levels-rise}
use Rattle.network.specs.File.{kind_at, weight_of, graph_of, LinkedAs, file_refusal}
use Rattle.network.specs.Bytes.{written}
use Rattle.network.specs.Vouches.{OneVouch, VouchFits, NothingToAdd}
use Rattle.network.proofs.Accepted.{accepted, accepted-distinct}
use Rattle.network.proofs.Kinded.{linked-plain}
use Rattle.network.proofs.Written.{written-size, written-kind}
use Rattle.network.proofs.Held.{Writable, written-filed, written-held}

-- the network of an accepted file is plain
plain : (f : List ℕ) → file_refusal f ≡ None → Plain (graph_of f)
plain f a = let d = accepted-distinct ((accepted f).0 a) in record { closed = d.sound.closed; simple = d.simple }

-- 02: so levels rise by 0 or 1, where every link weighs 1
pub one-vouch : OneVouch
one-vouch f f' u v a b first second =
    levels-rise
    (record {
      first = plain f a;
      second = plain f' b.accepted;
      first_single = first;
      second_single = second;
      order = b.order;
      linked = b.linked;
    })

-- 02: there is a file of one link more where there is room for it: of version 1, in which every link has kind 0
pub vouch-fits : VouchFits
unfolding weight_of
vouch-fits f u v a l i j absent =
    let g = graph_of f in
    let h = add g u v in
    let p = add-plain g u v (plain f a) i j absent in
    let w : Writable 1 (λ e. 0) h = record {
      version-least = omega arith;
      version-most = omega arith;
      few = ((accepted f).0 a).sound.header.order-most;
      most = omega arith;
      closed = p.closed;
      kinds = λ e l. omega arith;
      plain = λ e l n. refl;
    } in
    let file = written 1 (λ e. 0) h in
    let held = written-held w p.simple {holds = LinkedAs h (λ e. 0)} (λ a b k. Iff.rfl) in
    let same : SameLinks (graph_of file) h = λ a b. (linked-plain (graph_of file) h (kind_at file) (λ e. 0) (λ c d k. (held.linked c d k).0) a b, linked-plain h (graph_of file) (λ e. 0) (kind_at file) (λ c d k. (held.linked c d k).1) a b) in (
      file,
      written-filed w p.simple,
      record { absent = absent; accepted = held.accepted; order = held.order; linked = λ a b. Iff.trans (same a b) (add-linked g u v a b) },
      λ e l. ap weight_of (written-kind 1 (λ e. 0) h (λ e l n. refl) e (rw (written-size 1 (λ e. 0) h) at l)),
    )

-- 02: and none with 8,192 links present, since such a file has each edge of the network with one more
pub nothing-to-add : NothingToAdd
nothing-to-add f f' u v a e b =
    let g = graph_of f in
    let h = add g u v in
    let q = plain f' b.accepted in
    let (d, l, s, t) = (b.linked u v).1 (inr (refl, refl)) in
    let i = rw (s, b.order) at (q.closed.source-below d l) in
    let j = rw (t, b.order) at (q.closed.target_below d l) in
    let p = add-plain g u v (plain f a) i j b.absent in
    let more = linked-size p q b.order (λ c d l. (b.linked c d).1 ((add-linked g u v c d).0 l)) in
    omega (arith, more, ((accepted f').0 b.accepted).sound.header.size-most)
