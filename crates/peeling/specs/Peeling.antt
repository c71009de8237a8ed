-- The work table as a graph of 2n places, and how far a peel of it has come.
use Rattle.std.specs.Prelude.{ℕ, zero, suc, ◌+◌, ◌-◌, ◌*◌, ◌/◌, ◌%◌, ◌<◌, ◌≤◌, Bool, true, false, not, ◌&&◌, ◌||◌, cond, List, ◌≡◌, eqb, leb, ltb, length, get_or, set, drop}
use Rattle.graph.specs.Range.{sum, if}
use Rattle.graph.specs.Graph.{Graph, Group, everyone, edges}
use Rattle.graph.specs.Shapes.{Closed}
use Rattle.graph.specs.Linkage.{degree, Surrounds}
use Rattle.graph.specs.Places.{targets}
use Rattle.graph.specs.Cover.{joined, need}
use Rattle.network.specs.Refusals.{work_length}
use Rattle.peeling.specs.declared.Peel.{Peel}
use Rattle.peeling.specs.declared.Scope.{Scope}

-- the edges that a place needs by a scope
abbrev pub need_of : Scope → ℕ → ℕ
need_of c = need c.extent.order c.x c.y

-- and those that the places of the other side need
abbrev pub need_across : Scope → ℕ → ℕ
need_across c p = need c.extent.order c.y c.x p

-- The table: 2n + 1 starts, 2m entries of rows, the degrees of 2n places, and the queue of at most 2n places. The row of place p is the
-- entries from start p up to start p + 1: each packs a place that it is joined to, and the weight of the edge (02, wish 13).
abbrev pub start_of : List ℕ → ℕ → ℕ
start_of w p = get_or w p 0

-- the number of entries of p's row
abbrev pub row_length : List ℕ → ℕ → ℕ
row_length w p = start_of w (p + 1) - start_of w p

-- entry k of the rows
abbrev pub row_entry : ℕ → List ℕ → ℕ → ℕ
row_entry n w k = get_or w (2 * n + 1 + k) 0

-- an entry of a row: a place, which is below 4,096, and 4,096 times a weight
abbrev pub packed : ℕ → ℕ → ℕ
packed place weight = place + 4096 * weight

-- the place in an entry
abbrev pub place_in : ℕ → ℕ
place_in c = c % 4096

-- and the weight
abbrev pub weight_in : ℕ → ℕ
weight_in c = c / 4096

-- the place in entry k of the rows
abbrev pub row_place : ℕ → List ℕ → ℕ → ℕ
row_place n w k = place_in (row_entry n w k)

-- and the weight in it
abbrev pub row_weight : ℕ → List ℕ → ℕ → ℕ
row_weight n w k = weight_in (row_entry n w k)

-- the degree that the table has for place p
abbrev pub degree_of : ℕ → ℕ → List ℕ → ℕ → ℕ
degree_of n m w p = get_or w (2 * n + 1 + 2 * m + p) 0

-- entry i of the queue
abbrev pub queue_of : ℕ → ℕ → List ℕ → ℕ → ℕ
queue_of n m w i = get_or w (4 * n + 1 + 2 * m + i) 0

-- the weight of those of the first k entries of p's row in which q is
unfoldable pub entries : ℕ → List ℕ → ℕ → ℕ → ℕ → ℕ
entries n w p k q = sum (λ i. if (eqb (row_place n w (start_of w p + i)) q) (row_weight n w (start_of w p + i))) k

-- the edges between places p and q, by their weights: the entries of p's row in which q is
unfoldable pub between : ℕ → List ℕ → ℕ → ℕ → ℕ
between n w p q = entries n w p (row_length w p) q

-- the degree of place p in the whole graph: the weight of its edges to all places
abbrev pub whole_degree : ℕ → List ℕ → ℕ → ℕ
whole_degree n w p = degree (between n w) (2 * n) everyone p

-- The table holds rows, in which each edge stands at both of its places, and no entry weighs less than 1. Every degree is below 32,768, where
-- the marks of the harmonic finder begin.
pub record Rows (n m : ℕ) (w : List ℕ) : Type 0 where
  pub long : work_length n m ≤ length w
  pub ascending : (p : ℕ) → p < 2 * n → start_of w p ≤ start_of w (p + 1)
  pub last : start_of w (2 * n) ≤ 2 * m
  pub inside : (p i : ℕ) → p < 2 * n → i < row_length w p → row_place n w (start_of w p + i) < 2 * n
  pub heavy : (p i : ℕ) → p < 2 * n → i < row_length w p → 1 ≤ row_weight n w (start_of w p + i)
  pub light : (p : ℕ) → p < 2 * n → whole_degree n w p < 32768
  pub symmetric : (p q : ℕ) → p < 2 * n → q < 2 * n → between n w p q ≡ between n w q p

-- the rows are those of the graph, in a table with room for m edges
pub record Indexed (g : Graph) (m : ℕ) (w : List ℕ) : Type 0 where
  pub rows : Rows g.order m w
  pub linked : (p q : ℕ) → p < 2 * g.order → q < 2 * g.order → between g.order w p q ≡ joined g p q

-- The table holds the rows of the graph, which has n vertices; m is the room for edges, whatever the graph's own size. An edge of weight 0
-- stands in no row.
pub record Tabled (g : Graph) (n m : ℕ) (w : List ℕ) : Type 0 where
  pub closed : Closed g
  pub indexed : Indexed g m w
  pub order : g.order ≡ n

-- the table holds some graph
pub record Held (n m : ℕ) (w : List ℕ) : Type 0 where
  pub graph : Graph
  pub tabled : Tabled graph n m w

-- the table holds some graph, and table t has the degrees of all places in the whole of it
pub record Weighed (n m : ℕ) (w t : List ℕ) : Type 0 where
  pub held : Held n m w
  pub long : 2 * n ≤ length t
  pub degrees : (p : ℕ) → p < 2 * n → get_or t p 0 ≡ whole_degree n w p

-- every edge weighs 1
abbrev pub SingleRows : ℕ → List ℕ → Type 0
SingleRows n w = (p i : ℕ) → p < 2 * n → i < row_length w p → row_weight n w (start_of w p + i) ≡ 1

-- the places that are not among the first h of the queue
unfoldable pub live : (ℕ → ℕ) → ℕ → Group
live queue zero p = true
live queue (suc h) p = not (eqb p (queue h)) && live queue h p

-- the places that a peel leaves: those that are not in its queue
abbrev pub left : ℕ → ℕ → List ℕ → Peel → Group
left n m w s = live (queue_of n m w) s.tail

-- In a queue up to its tail stand exactly the places whose degree is short, each once; every settled set of places avoids them all.
pub record Queue (L : ℕ → ℕ → ℕ) (N : ℕ) (need degrees queue : ℕ → ℕ) (tail : ℕ) : Type 0 where
  pub inside : (i : ℕ) → i < tail → queue i < N
  pub distinct : (i : ℕ) → i < tail → live queue i (queue i) ≡ true
  pub short : (p : ℕ) → p < N → live queue tail p ≡ leb (need p) (degrees p)
  pub surrounds : Surrounds L N need (live queue tail)

-- the sources and targets that a peel counts are those of R
pub record Sizes (n : ℕ) (R : Group) (s : Peel) : Type 0 where
  pub sources : s.sources ≡ sum (λ p. if (R p) 1) n
  pub targets : s.targets ≡ sum (λ p. if (R (n + p)) 1) n

-- The rows, and the queue of the places that are short by the degrees in the table. The sizes are already without all that are queued. Where a
-- peel has no excess, every edge weighs 1.
pub record Queued (n m : ℕ) (need : ℕ → ℕ) (w : List ℕ) (s : Peel) : Type 0 where
  pub rows : Rows n m w
  pub single : s.excess ≡ 0 → SingleRows n w
  pub waiting : s.head ≤ s.tail
  pub queue : Queue (between n w) (2 * n) need (degree_of n m w) (queue_of n m w) s.tail
  pub sizes : Sizes n (left n m w s) s

-- the places that a peel has not dropped: those that are not before the head of its queue
abbrev pub standing : ℕ → ℕ → List ℕ → Peel → Group
standing n m w s = live (queue_of n m w) s.head

-- the edges of a place to these, by their weights
abbrev pub undropped : ℕ → ℕ → List ℕ → Peel → ℕ → ℕ
undropped n m w s = degree (between n w) (2 * n) (standing n m w s)

-- The running total: of every graph that the table holds, it is E of the sources and targets not dropped.
pub record Total (n m : ℕ) (w : List ℕ) (s : Peel) : Type 0 where
  pub held : Held n m w
  pub small : s.edges < 4294967296
  pub counted : (g : Graph) → Tabled g n m w → s.edges ≡ edges g (standing n m w s) (targets g (standing n m w s))

-- a peel: each degree is the weight of the edges to places not dropped, and the total is of those between these
pub record Peeling (n m : ℕ) (need : ℕ → ℕ) (w : List ℕ) (s : Peel) : Type 0 where
  pub queued : Queued n m need w s
  pub degrees : (p : ℕ) → p < 2 * n → degree_of n m w p ≡ undropped n m w s p
  pub total : Total n m w s

-- a peel by what a scope asks
abbrev pub PeelBy : Scope → List ℕ → Peel → Type 0
PeelBy c w s = Peeling c.extent.order c.extent.size (need_of c) w s

-- A peel in the midst of dropping a place, the last one before the head, with k entries of its row passed: each degree and the weights
-- passed are together what the degree was before, the edges to places not dropped and to this one. The queue goes by the degrees as they are,
-- and the total is without this place from the first entry on.
pub record Dropping (n m : ℕ) (need : ℕ → ℕ) (w : List ℕ) (s : Peel) (place k : ℕ) : Type 0 where
  pub queued : Queued n m need w s
  pub is-place : place < 2 * n
  pub degrees : (p : ℕ) → p < 2 * n → degree_of n m w p + entries n w place k p ≡ undropped n m w s p + between n w place p
  pub total : Total n m w s

-- starts and rows are unchanged, and so is what lies past the entries that a work table needs
pub record Kept (n m : ℕ) (w w' : List ℕ) : Type 0 where
  pub same_length : length w' ≡ length w
  pub index : (i : ℕ) → i < 2 * n + 1 + 2 * m → get_or w' i 0 ≡ get_or w i 0
  pub past : drop (work_length n m) w' ≡ drop (work_length n m) w

-- a side of a peel has nobody left
abbrev pub emptied : Peel → Bool
emptied s = eqb s.sources 0 || eqb s.targets 0

-- A peel by a scope has come to its end, and took one table to another: no place waits, or a side is empty and the queue need not be drained.
pub record Ended (drain : Bool) (c : Scope) (w w' : List ℕ) (s : Peel) : Type 0 where
  pub peeling : PeelBy c w' s
  pub drained : drain ≡ true → s.head ≡ s.tail
  pub done : emptied s ≡ false → s.head ≡ s.tail
  pub kept : Kept c.extent.order c.extent.size w w'

-- what places need while it is raised: the new number below place i, and the old one from there on
abbrev pub raised : (ℕ → ℕ) → (ℕ → ℕ) → ℕ → ℕ → ℕ
raised old new i p = cond (ltb p i) (new p) (old p)

-- the first place of the other side
abbrev pub across : ℕ → ℕ → ℕ
across n place = cond (ltb place n) n 0

-- how many places a peel has left of a side, which is told by a place of it
abbrev pub side_left : ℕ → Peel → ℕ → ℕ
side_left n s first = cond (ltb first n) s.sources s.targets

-- a place can be pushed: the queue has room, and the place's own side somebody
pub record Pushable (n : ℕ) (s : Peel) (place : ℕ) : Type 0 where
  pub tail : s.tail < 2 * n
  pub side : 1 ≤ side_left n s place

-- the peel with so many places of a side more in the queue, which are taken out of the side
abbrev pub pushed_by : ℕ → Peel → ℕ → ℕ → Peel
pushed_by n s first count =
    record {
      head = s.head;
      tail = s.tail + count;
      sources = cond (ltb first n) (s.sources - count) s.sources;
      targets = cond (ltb first n) s.targets (s.targets - count);
      edges = s.edges;
      excess = s.excess;
    }

-- with one place
abbrev pub pushed : ℕ → Peel → ℕ → Peel
pushed n s place = pushed_by n s place 1

-- the peel with the place at the head dropped, and its degree out of the total
abbrev pub past : ℕ → ℕ → List ℕ → Peel → Peel
past n m w s =
    record {
      head = s.head + 1;
      tail = s.tail;
      sources = s.sources;
      targets = s.targets;
      edges = s.edges - degree_of n m w (queue_of n m w s.head);
      excess = s.excess;
    }

-- the table with a place put at the queue's entry i
abbrev pub with_queued : ℕ → ℕ → List ℕ → ℕ → ℕ → List ℕ
with_queued n m w i place = set w (4 * n + 1 + 2 * m + i) place

-- the table with the degree of a place set
abbrev pub with_degree : ℕ → ℕ → List ℕ → ℕ → ℕ → List ℕ
with_degree n m w place d = set w (2 * n + 1 + 2 * m + place) d

-- a degree falls from enough to short, by whatever step
abbrev pub falls : ℕ → ℕ → ℕ → Bool
falls least before after = leb least before && ltb after least

-- the table after a place lost an edge of some weight, with the place put past the queue's tail
abbrev pub lowered_table : ℕ → ℕ → List ℕ → ℕ → ℕ → ℕ → List ℕ
lowered_table n m w tail place weight = with_queued n m (with_degree n m w place (degree_of n m w place - weight)) tail place
