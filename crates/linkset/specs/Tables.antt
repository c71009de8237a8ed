-- A set of links in a list of links: they ascend by source, then target.
use Rattle.std.specs.Prelude.{ℕ, ◌+◌, ◌-◌, ◌*◌, ◌/◌, ◌<◌, ◌≤◌, Bool, true, false, cond, ◌&&◌, List, [], ◌↔◌, ◌≡◌, eqb, ltb, length, get_or}
use Rattle.graph.specs.Range.{sum, if}
use Rattle.graph.specs.Order.{lexicographic}
use Rattle.linkset.specs.Links.{Links, is}

-- links one after another, each its source, then its target
abbrev pub Pairs : Type 0
Pairs = List (List ℕ)

-- the source of link e
abbrev pub source_at : Pairs → ℕ → ℕ
source_at l e = get_or (get_or l e []) 0 0

-- and its target
abbrev pub target_at : Pairs → ℕ → ℕ
target_at l e = get_or (get_or l e []) 1 0

-- link e comes before the link from a to b
abbrev pub before_at : Pairs → ℕ → ℕ → ℕ → Bool
before_at l a b e = lexicographic (source_at l e) a (ltb (target_at l e) b)

-- the links ascend
pub record Sorted (l : Pairs) : Type 0 where
  pub ascends : (d e : ℕ) → d < e → e < length l → before_at l (source_at l e) (target_at l e) d ≡ true

-- the link from u to v is one of them
abbrev pub Stands : Pairs → ℕ → ℕ → Type 0
Stands l u v = (e : ℕ) × (e < length l) × (source_at l e ≡ u) × (target_at l e ≡ v)

-- the links ascend, and are those of a set
pub record Keeps (S : Links) (l : Pairs) : Type 0 where
  pub sorted : Sorted l
  pub linked : (u v : ℕ) → Stands l u v ↔ (S u v ≡ true)

-- how many of them have source u
abbrev pub degree_of : Pairs → ℕ → ℕ
degree_of l u = sum (λ e. if (eqb (source_at l e) u) 1) (length l)

-- a test holds of the first r of m links, and of no other
pub record Parted (test : ℕ → Bool) (m r : ℕ) : Type 0 where
  pub most : r ≤ m
  pub before : (e : ℕ) → e < r → test e ≡ true
  pub from : (e : ℕ) → r ≤ e → e < m → test e ≡ false

-- r of the links come before the link from a to b, and they are the first r
abbrev pub Place : Pairs → (a b r : ℕ) → Type 0
Place l a b r = Parted (before_at l a b) (length l) r

-- what a search asks of link e: whether it comes before the link from a to b; by one end, whether its source is below a
abbrev pub earlier : ℕ → Pairs → ℕ → ℕ → ℕ → Bool
earlier ends l a b e = cond (eqb ends 1) (ltb (source_at l e) a) (before_at l a b e)

-- of which of m links a test holds is open for those from low on, as many as are left: it holds of all below, and of none past them
pub record Narrowed (test : ℕ → Bool) (m low left : ℕ) : Type 0 where
  pub most : low + left ≤ m
  pub below : (e : ℕ) → e < low → test e ≡ true
  pub past : (e : ℕ) → low + left ≤ e → e < m → test e ≡ false

-- a quarter of so many links, where one is left out between each two quarters
abbrev pub quarter_of : ℕ → ℕ
quarter_of left = (left - 3) / 4 + 1

-- a turn of the search: of so many links these are told to come before the one sought or not
abbrev pub told : ℕ → ℕ
told left = cond (ltb left 3) 1 (3 * quarter_of left)

-- and so many of these come before it, where a test tells of a link whether it does
abbrev pub passed : (ℕ → Bool) → ℕ → ℕ → ℕ
passed test low left =
    let quarter = quarter_of left in
    let last = low + quarter - 1 in
    cond (ltb left 3) (if (test low) 1) (if (test last) quarter + if (test (last + quarter)) quarter + if (test (last + 2 * quarter)) quarter)

-- the most links of one source in a set of which a degree is asked for
abbrev pub most_of_source : ℕ
most_of_source = 64

-- the link from a to b is at place r
abbrev pub is_at : Pairs → ℕ → ℕ → ℕ → Bool
is_at l r a b = ltb r (length l) && is a b (source_at l r) (target_at l r)
