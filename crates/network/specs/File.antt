-- The network file: what its bytes mean, and which of the numbers 1 to 8, 22 and 15 is given for them.
use Rattle.std.specs.Prelude.{ℕ, ◌+◌, ◌-◌, ◌*◌, ◌<◌, Bool, not, cond, ◌&&◌, ◌||◌, List, [], ◌∷◌, ◌↔◌, ◌≡◌, Option, None, Some, unwrap_or, eqb, leb, ltb, length, get_or}
use Rattle.graph.specs.Range.{first}
use Rattle.graph.specs.Graph.{Graph}
use Rattle.graph.specs.Order.{ascends}
use Rattle.network.specs.declared.Refusal.{Refusal}
use Rattle.network.specs.declared.Refusal.TheVariants.{Short, Mark, Version, Members, Links, Length, End, Repeat, Table, Member, Group, Zero, Row, Order, Mismatch, Kind}

-- 01: a network has at most so many members
abbrev pub most_members : ℕ
most_members = 2048

-- and so many links
abbrev pub most_links : ℕ
most_links = 8192

-- 01: the unsigned number of 16 bits at a byte of the file, low byte first
abbrev pub u16_at : List ℕ → ℕ → ℕ
u16_at f i = get_or f i 0 + 256 * get_or f (i + 1) 0

-- 01: the version of a file; zero bytes count as one of version 1 (02, wish 3)
unfoldable pub version_of : List ℕ → ℕ
version_of f = cond (eqb (length f) 0) 1 (u16_at f 3)

-- 02, wish 13: how many bytes a link has in a version: five in version 2, and four in version 1
unfoldable pub stride : ℕ → ℕ
stride v = cond (eqb v 2) 5 4

-- how many it has in a file
abbrev pub stride_of : List ℕ → ℕ
stride_of f = stride (version_of f)

-- 01: where link e starts, where each link has s bytes; for e = m it is the length of the file
abbrev pub link_at : ℕ → ℕ → ℕ
link_at s e = 9 + s * e

-- 02, wish 13: the kind of link e: the last of its five bytes in version 2, and 0 in version 1
unfoldable pub kind_at : List ℕ → ℕ → ℕ
kind_at f e = cond (eqb (version_of f) 2) (get_or f (link_at (stride_of f) e + 4) 0) 0

-- 02, wish 13: the weights of the kinds 0 to 7
abbrev pub weights : List ℕ
weights = 1 ∷ 1 ∷ 2 ∷ 3 ∷ 4 ∷ 6 ∷ 8 ∷ 12 ∷ []

-- the greatest of them
abbrev pub most_weight : ℕ
most_weight = 12

-- 02, wish 13: the weight of a kind; no accepted file has a kind past the table, and for one the weight counts as 1
unfoldable pub weight_of : ℕ → ℕ
weight_of k = get_or weights k 1

-- 01, and 02, wish 13: the network of a file: n members, m links, each with the weight of its kind
abbrev pub graph_of : List ℕ → Graph
graph_of f =
    record {
      order = u16_at f 5;
      size = u16_at f 7;
      source = λ e. u16_at f (link_at (stride_of f) e);
      target = λ e. u16_at f (link_at (stride_of f) e + 2);
      weight = λ e. weight_of (kind_at f e);
    }

-- 01: the length of a file with its n, m and version
abbrev pub file_length : List ℕ → ℕ
file_length f = link_at (stride_of f) (graph_of f).size

-- 02, wish 13: of links with these kinds, one from u to v is of kind k
abbrev pub LinkedAs : Graph → (ℕ → ℕ) → ℕ → ℕ → ℕ → Type 0
LinkedAs g kind u v k = (e : ℕ) × (e < g.size) × (g.source e ≡ u) × (g.target e ≡ v) × (kind e ≡ k)

-- two files hold the same links, of the same kinds
abbrev pub SameKinds : List ℕ → List ℕ → Type 0
SameKinds f f' = (u v k : ℕ) → LinkedAs (graph_of f) (kind_at f) u v k ↔ LinkedAs (graph_of f') (kind_at f') u v k

-- 01: the mark `VCH`
abbrev pub mark : List ℕ
mark = 0x56 ∷ 0x43 ∷ 0x48 ∷ []

-- 01: bytes 0 to 2 are the mark
abbrev pub marked : List ℕ → List ℕ → Bool
marked m f = eqb (get_or f 0 0) (get_or m 0 0) && eqb (get_or f 1 0) (get_or m 1 0) && eqb (get_or f 2 0) (get_or m 2 0)

-- 01: the first link that names a member not below n, or m
abbrev pub outside : Graph → ℕ
outside g = first (λ e. leb g.order (g.source e) || leb g.order (g.target e)) g.size

-- 02, wish 13: the first link of a kind above 7, or m
abbrev pub unknown : List ℕ → ℕ
unknown f = first (λ e. ltb 7 (kind_at f e)) (graph_of f).size

-- links d and e are the same, whatever their kinds
abbrev pub same : Graph → ℕ → ℕ → Bool
same g d e = eqb (g.source d) (g.source e) && eqb (g.target d) (g.target e)

-- 01: the first link that repeats an earlier one, or m
abbrev pub repeat : Graph → ℕ
repeat g = first (λ e. ltb (first (λ d. same g d e) e) e) g.size

-- 02, wish 7: the first link that comes before the one preceding it, or m. Link 0 never does: nothing precedes it, and no link comes before itself.
abbrev pub descent : Graph → ℕ
descent g = first (λ e. ascends g e (e - 1)) g.size

-- 01, 02: the number of each refusal
abbrev pub number_of : Refusal → ℕ
number_of Short = 1
number_of Mark = 2
number_of Version = 3
number_of Members = 4
number_of Links = 5
number_of Length = 6
number_of (End e) = 7
number_of (Repeat e) = 8
number_of Table = 9
number_of Member = 10
number_of Group = 11
number_of Zero = 12
number_of Row = 14
number_of (Order e) = 15
number_of Mismatch = 21
number_of (Kind e) = 22

-- 01, 02: the link's number that is returned with it
abbrev pub link_of : Refusal → Option ℕ
link_of Short = None
link_of Mark = None
link_of Version = None
link_of Members = None
link_of Links = None
link_of Length = None
link_of (End e) = Some e
link_of (Repeat e) = Some e
link_of Table = None
link_of Member = None
link_of Group = None
link_of Zero = None
link_of Row = None
link_of (Order e) = Some e
link_of Mismatch = None
link_of (Kind e) = Some e

-- 01: the number of a refusal, and 0 of none
abbrev pub number_told : Option Refusal → ℕ
number_told None = 0
number_told (Some r) = number_of r

-- 01: the number of the link that a refusal names, and else 0
abbrev pub link_told : Option Refusal → ℕ
link_told None = 0
link_told (Some r) = unwrap_or (link_of r) 0

-- the first refusal where there is one, else the second
abbrev pub or_else : Option Refusal → Option Refusal → Option Refusal
or_else (Some r) s = Some r
or_else None s = s

-- The numbers 1 to 8 of 01 and 22 of 02, wish 13, where links may stand in any order and the versions up to `latest` are read. Wish 3: zero bytes give
-- none, since they count as the version 1 file with n 0 and m 0, as which `graph_of` reads them; 1 is for 1 to 8 bytes.
unfoldable pub any_order : ℕ → List ℕ → Option Refusal
any_order latest f =
    cond (eqb (length f) 0) None
    (cond (ltb (length f) 9) (Some Short)
    (cond (not (marked mark f)) (Some Mark)
    (cond (not (leb 1 (version_of f) && leb (version_of f) latest)) (Some Version)
    (cond (ltb most_members (graph_of f).order) (Some Members)
    (cond (ltb most_links (graph_of f).size) (Some Links)
    (cond (not (eqb (length f) (file_length f))) (Some Length)
    (cond (ltb (outside (graph_of f)) (graph_of f).size) (Some (End (outside (graph_of f))))
    (cond (ltb (unknown f) (graph_of f).size) (Some (Kind (unknown f)))
    (cond (ltb (repeat (graph_of f)) (graph_of f).size) (Some (Repeat (repeat (graph_of f))))
    None)))))))))

-- 02, wish 7: the old rule: links may stand in any order, and only version 1 is read
abbrev pub old_refusal : List ℕ → Option Refusal
old_refusal = any_order 1

-- 02, wishes 7 and 13: the number that the file's own bytes give, which is the refusal of the check: of both versions, and then 15
unfoldable pub file_refusal : List ℕ → Option Refusal
file_refusal f = or_else (any_order 2 f) (cond (ltb (descent (graph_of f)) (graph_of f).size) (Some (Order (descent (graph_of f)))) None)
