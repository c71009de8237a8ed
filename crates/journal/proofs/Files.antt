-- The file of a list of links: it is accepted and holds the set that the list keeps.
use Prim.Native.Nat.{ℕ, suc, ◌≤◌}
use mathlib.Core.List.{List, ◌++◌}
use mathlib.Core.Logic.{◌↔◌}
use mathlib.Core.Path.{◌≡◌, refl, sym}
use native.Mathlib.Omega.{arith}
use lib.ListN.{length, take, drop}
use lib.Seq.{length-take-le, sets}
use Rattle.graph.specs.Graph.{Graph}
use Rattle.graph.specs.Shapes.{Closed}
use Rattle.graph.specs.Order.{Ascending}
use Rattle.graph.proofs.Stores.{length-past, drop_past}
use Rattle.network.specs.File.{most_members, stride, link_at, LinkedAs}
use Rattle.network.specs.Bytes.{standing}
use Rattle.network.proofs.Held.{Writable, standing-written}
use Rattle.linkset.specs.Links.{Links}
use Rattle.linkset.specs.Tables.{Pairs}
use Rattle.journal.specs.Entries.{members}
use Rattle.journal.specs.Journal.{after, numbers}
use Rattle.journal.specs.Calls.{count_of, work_entries, In, SetWritten, JournalTold}
use Rattle.journal.specs.Listed.{table_graph}
use Rattle.journal.specs.Places.{Balanced}
use Rattle.journal.specs.declared.Totals.{Totals}
use Rattle.journal.specs.Tabled.{Stored}
use Rattle.journal.proofs.Counts.{ends-below}
use Rattle.journal.proofs.Places.{places-after}

module _ (n : ℕ) (S : Links) (w : Pairs) (t : Totals) (order-most : n ≤ most_members) (b : Balanced n S) (h : Stored n S w t) (room : t.live ≤ length w) where
  -- the links
  abbrev l : Pairs
  l = take t.live w

  all : length l ≡ t.live
  all = length-take-le t.live w room

  abbrev g : Graph
  g = table_graph n l

  ascending : Ascending g
  ascending e k = h.keeps.sorted.ascends e (suc e) (omega arith) k

  closed : Closed g
  closed = record { source-below = λ e k. (ends-below n S l h.keeps h.within e k).0; target_below = λ e k. (ends-below n S l h.keeps h.within e k).1 }

  -- they can be written in version 1, all of kind 0
  writable : Writable 1 (λ e. 0) g
  writable =
      record {
        version-least = omega arith;
        version-most = omega arith;
        few = order-most;
        most = omega (arith, all, h.live_is, b.fits);
        closed = closed;
        kinds = λ e l. omega arith;
        plain = λ e l n. refl;
      }

  linked : (u v k : ℕ) → LinkedAs g (λ e. 0) u v k ↔ In S u v k
  linked u v k = (
    λ (e, m, p, q, r). ((h.keeps.linked u v).0 (e, m, p, q), sym r),
    λ (s, r). let (e, m, p, q) = (h.keeps.linked u v).1 s in (e, m, p, q, sym r),
  )

  -- it is the set that is written
  pub set-written : (out out' : List ℕ) → link_at (stride 1) t.live ≤ length out → out' ≡ sets out 0 (standing 1 (λ e. 0) g) → SetWritten n S out out' t.live
  set-written out out' long e =
      record {
        file = rw (← all) (standing-written writable ascending linked out (rw all long) e);
        live = h.live_is;
      }

-- a journal of which the first k entries were followed, in the entries of the work table that are needed, is told as the call promises
pub journal-told : (j : List ℕ) (asked : ℕ) (out out' r p w q : List ℕ) {k m : ℕ} → members j ≤ most_members → k ≡ count_of j asked → SetWritten (members j) (after j k).present out out' m
    → p ≡ numbers j k → work_entries ≤ length w → length q ≡ work_entries → JournalTold j asked out out' r (p ++ drop k r) w (q ++ drop work_entries w) m
journal-told j asked out out' r p w q {k} {m} few e s n l i =
    record {
      present = rw e at s;
      numbered = rw (n, e);
      places = places-after j few (count_of j asked);
      work = (length-past q w work_entries i l, drop_past q w work_entries work_entries i (omega arith));
    }
