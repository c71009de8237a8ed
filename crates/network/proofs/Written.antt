-- The written file, read again: it is accepted, its links ascend, and it holds the same links, of the same kinds.
use Prim.Native.Nat.{ℕ, suc, ◌+◌, ◌*◌, ◌<◌, ◌≤◌}
use mathlib.Core.Bool.{◌&&◌}
use mathlib.Core.List.{List}
use mathlib.Core.Logic.{◌↔◌, ◌≢◌}
use mathlib.Core.Path.{◌≡◌, refl, sym, ap, ◌∙◌}
use native.Mathlib.Decide.{ℕ_discrete}
use native.Mathlib.Nat.{mod-add-div}
use native.Mathlib.Omega.{arith}
use borrow.Author.Tests.{eq-eqb}
use lib.ListN.{length, get_or}
use lib.Seq.{get_or-append-add}
use Rattle.graph.specs.Range.{sum, if, flat}
use Rattle.graph.specs.Graph.{Graph, Group, edges}
use Rattle.graph.specs.Shapes.{Closed, Simple}
use Rattle.graph.specs.Order.{Ascending, edge_at}
use Rattle.graph.proofs.Sums.{sum-ext}
use Rattle.graph.proofs.Ranges.{length-flat, get_or-flat, permutes-onto}
use Rattle.graph.proofs.Order.{edge_at-lt, edge_at-permutes, edge_at-ascending, sum-permuted}
use Rattle.graph.proofs.Ascending.{precedes-ascends}
use Rattle.network.specs.File.{most_members, most_links, u16_at, version_of, stride, link_at, kind_at, weight_of, graph_of, LinkedAs}
use Rattle.network.specs.Bytes.{header, kind_bytes, link_bytes, written}
use Rattle.network.specs.Accepted.{Accepted}
use Rattle.network.proofs.Versions.{version-some, stride-range, stride-five, link-length, kind-none, kind-some}

-- only version 2 has kinds other than 0
abbrev pub Kinds : ℕ → (ℕ → ℕ) → ℕ → Type 0
Kinds v kind m = (e : ℕ) → e < m → v ≢ 2 → kind e ≡ 0

module _ (v : ℕ) (kind : ℕ → ℕ) (g : Graph) where
  -- the written file
  abbrev file : List ℕ
  file = written v kind g

  -- the bytes of the edge of rank i
  abbrev run : ℕ → List ℕ
  run i = link_bytes v kind g (edge_at g i)

  -- each has as many
  run-length : (i : ℕ) → i < g.size → length (run i) ≡ stride v
  run-length i l = link-length v kind g (edge_at g i)

  -- the written file has the length that is asked for
  pub length-written : length file ≡ link_at (stride v) g.size
  length-written = omega (arith, length-flat run (stride v) g.size run-length)

  -- it has the version
  pub written-version : version_of file ≡ v
  written-version = version-some file (omega (arith, length-written)) ∙ mod-add-div v 256

  -- the order of the graph
  pub written-order : (graph_of file).order ≡ g.order
  written-order = mod-add-div g.order 256

  -- and its size
  pub written-size : (graph_of file).size ≡ g.size
  written-size = mod-add-div g.size 256

  -- byte j of its link i is that of the edge of rank i
  written_byte : (i j p : ℕ) → p ≡ link_at (stride v) i + j → i < g.size → j < stride v → get_or file p 0 ≡ get_or (run i) j 0
  written_byte i j p e l h =
      let at : p ≡ 9 + (stride v * i + j) = omega arith in
      rw at
      (get_or-append-add (header v g.order g.size) (flat run g.size) (stride v * i + j) 0
      ∙ get_or-flat run (stride v) g.size i j run-length l h)

  -- and so the number at byte j
  written-number : (i j p : ℕ) → p ≡ link_at (stride v) i + j → i < g.size → j + 1 < 4 → u16_at file p ≡ u16_at (run i) j
  written-number i j p e l h =
      let (least, most) = stride-range v in
      rw (written_byte i j p e l (omega arith), written_byte i (j + 1) (p + 1) (omega arith) l (omega arith))

  -- its link i has the source of that edge
  pub written-source : (i : ℕ) → i < g.size → (graph_of file).source i ≡ g.source (edge_at g i)
  written-source i l =
      ap (λ v. u16_at file (link_at (stride v) i)) written-version ∙ written-number i 0 (link_at (stride v) i) (omega arith) l (omega arith) ∙ mod-add-div (g.source (edge_at g i)) 256

  -- and its target
  pub written-target : (i : ℕ) → i < g.size → (graph_of file).target i ≡ g.target (edge_at g i)
  written-target i l =
      ap (λ v. u16_at file (link_at (stride v) i + 2)) written-version ∙ written-number i 2 (link_at (stride v) i + 2) refl l (omega arith) ∙ mod-add-div (g.target (edge_at g i)) 256

  -- so its links join members where the graph's edges do,
  written-closed : Closed g → Closed (graph_of file)
  written-closed k =
      record {
        source-below = λ i h. let l : i < g.size = rw written-size at h in rw (written-order, written-source i l) (k.source-below _ (edge_at-lt g i l));
        target_below = λ i h. let l : i < g.size = rw written-size at h in rw (written-order, written-target i l) (k.target_below _ (edge_at-lt g i l));
      }

  -- and they ascend where no two edges are the same
  pub written-ascending : Simple g → Ascending (graph_of file)
  written-ascending s i h =
      let m : suc i < g.size = rw written-size at h in
      let l : i < g.size = omega arith in
      rw (written-source i l, written-source (suc i) m, written-target i l, written-target (suc i) m)
      (precedes-ascends g (edge_at g i) (edge_at g (suc i)) (edge_at-ascending g i (suc i) (omega arith) m) (λ p q.
      omega (arith, (edge_at-permutes g).injective i (suc i) l m (s _ _ (edge_at-lt g i l) (edge_at-lt g (suc i) m) p q))))

  -- where only version 2 has kinds other than 0
  module _ (plain : Kinds v kind g.size) where
    -- its link i has the kind of the edge of rank i
    pub written-kind : (i : ℕ) → i < g.size → kind_at file i ≡ kind (edge_at g i)
    unfolding kind_bytes
    written-kind i l =
        elim (ℕ_discrete v 2) [
          | yes e ↦ kind-some file i (written-version ∙ e) ∙ ap (λ v. get_or file (link_at (stride v) i + 4) 0) written-version
              ∙ written_byte i 4 (link_at (stride v) i + 4) refl l (omega (arith, stride-five e)) ∙ last e
          | no n ↦ kind-none file i (λ e. n (sym written-version ∙ e)) ∙ sym (plain (edge_at g i) (edge_at-lt g i l) n)
        ]
      where
        last : v ≡ 2 → get_or (run i) 4 0 ≡ kind (edge_at g i)
        last e = rw (eq-eqb v 2 e)

    -- so the file is accepted
    pub written-accepted : 1 ≤ v → v ≤ 2 → g.order ≤ most_members → g.size ≤ most_links → Closed g → ((e : ℕ) → e < g.size → kind e ≤ 7) → Simple g → Accepted file
    written-accepted least most n m k few s =
        record {
          sound = record {
            header = record {
              version-least = rw written-version least;
              version-most = rw written-version most;
              order-most = omega (arith, written-order);
              size-most = omega (arith, written-size);
              headed = λ h. record { long = omega (arith, length-written); is-marked = refl; exact = rw (written-version, written-size) length-written };
            };
            closed = written-closed k;
            kinds = λ i h. let l : i < g.size = rw written-size at h in rw (written-kind i l) (few _ (edge_at-lt g i l));
          };
          ascending = written-ascending s;
        }

    -- where edges weigh what their kinds do, it has as many between two groups
    pub written-edges : ((e : ℕ) → e < g.size → g.weight e ≡ weight_of (kind e)) → (S T : Group) → edges (graph_of file) S T ≡ edges g S T
    written-edges w S T =
        ap (sum (λ i. if (S ((graph_of file).source i) && T ((graph_of file).target i)) ((graph_of file).weight i))) written-size
        ∙ sum-ext g.size (λ i l. rw (written-source i l, written-target i l, written-kind i l, w (edge_at g i) (edge_at-lt g i l)))
        ∙ sum-permuted g (λ e. if (S (g.source e) && T (g.target e)) (g.weight e))

    -- a link of kind k goes from u to t in the written file exactly when an edge of that kind does in the graph
    pub written-linked : (u t k : ℕ) → LinkedAs (graph_of file) (kind_at file) u t k ↔ LinkedAs g kind u t k
    written-linked u t k = (read, laid)
      where
        read : LinkedAs (graph_of file) (kind_at file) u t k → LinkedAs g kind u t k
        read (i, h, p, q, r) =
            let l : i < g.size = rw written-size at h in
            (edge_at g i, edge_at-lt g i l, sym (written-source i l) ∙ p, sym (written-target i l) ∙ q, sym (written-kind i l) ∙ r)

        laid : LinkedAs g kind u t k → LinkedAs (graph_of file) (kind_at file) u t k
        laid (e, l, p, q, r) =
            let (i, m, h) = permutes-onto (edge_at-permutes g) e l in
            (i, rw written-size m, written-source i m ∙ ap g.source h ∙ p, written-target i m ∙ ap g.target h ∙ q, written-kind i m ∙ ap kind h ∙ r)
