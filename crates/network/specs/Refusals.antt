-- The refusal of each call, from the file, the arguments and the lengths of the lent tables: the first that applies, in the order of 01 and 02.
use Rattle.std.specs.Prelude.{ℕ, suc, ◌+◌, ◌-◌, ◌*◌, Bool, not, cond, ◌&&◌, ◌||◌, List, Option, None, Some, eqb, leb, ltb, length, get_or}
use Rattle.network.specs.declared.Refusal.{Refusal}
use Rattle.network.specs.declared.Refusal.TheVariants.{Table, Member, Group, Zero, Row}
use Rattle.network.specs.File.{graph_of, file_length, or_else, old_refusal, file_refusal}
use Rattle.network.specs.Groups.{is_group}

-- 01's order: the number of the file's own bytes, 9 where a table is short, and what comes after
abbrev pub in_order : List ℕ → Bool → Option Refusal → Option Refusal
in_order f short later = or_else (file_refusal f) (cond short (Some Table) later)

-- one of the tables of two groups is short for n members
abbrev pub short_groups : ℕ → List ℕ → List ℕ → Bool
short_groups n s t = ltb (length s) n || ltb (length t) n

-- 11 where one of them has a byte among the first n that is neither 0 nor 1, and what comes after
abbrev pub in_groups : ℕ → List ℕ → List ℕ → Option Refusal → Option Refusal
in_groups n s t later = cond (not (is_group n s && is_group n t)) (Some Group) later

-- 01: the length of the work table of core, level, equal level, finding, layers and harmonic finder, for n members and m links
abbrev pub work_length : ℕ → ℕ → ℕ
work_length n m = 2 * m + 6 * n + 2

-- the file, and the lengths of out-starts, out-rows, in-starts and in-rows
unfoldable pub index_refusal : List ℕ → ℕ → ℕ → ℕ → ℕ → Option Refusal
index_refusal f os or is ir =
    let g = graph_of f in
    in_order f (ltb os (suc g.order) || ltb or g.size || ltb is (suc g.order) || ltb ir g.size) None

-- one side's starts and rows, and the member
unfoldable pub row_refusal : List ℕ → List ℕ → ℕ → Option Refusal
row_refusal starts rows u =
    cond (ltb (length starts) 1) (Some Table)
    (cond (leb (length starts - 1) u) (Some Member)
    (cond (ltb (get_or starts (u + 1) 0) (get_or starts u 0) || ltb (length rows) (get_or starts (u + 1) 0)) (Some Row)
    None))

-- the file and the two groups
unfoldable pub count_refusal : List ℕ → List ℕ → List ℕ → Option Refusal
count_refusal f s t =
    let g = graph_of f in
    in_order f (short_groups g.order s t) (in_groups g.order s t None)

-- the file, A and B, and the lengths of the two groups and of the work table: of core and of finding
unfoldable pub core_refusal : List ℕ → List ℕ → List ℕ → ℕ → ℕ → ℕ → Option Refusal
core_refusal f a b s t w =
    let g = graph_of f in
    in_order f (short_groups g.order a b || ltb s g.order || ltb t g.order || ltb w (work_length g.order g.size))
    (in_groups g.order a b None)

-- the file, and the lengths of the two groups and of the work table: of the harmonic finder
unfoldable pub harmonic_refusal : List ℕ → ℕ → ℕ → ℕ → Option Refusal
harmonic_refusal f s t w =
    let g = graph_of f in
    in_order f (ltb s g.order || ltb t g.order || ltb w (work_length g.order g.size)) None

-- the file, A and B, x or y, and the length of the work table: of level and of level across
unfoldable pub level_refusal : List ℕ → List ℕ → List ℕ → ℕ → ℕ → Option Refusal
level_refusal f a b x w =
    let g = graph_of f in
    in_order f (short_groups g.order a b || ltb w (work_length g.order g.size))
    (in_groups g.order a b (cond (eqb x 0) (Some Zero) None))

-- the file, A and B, and the length of the work table
unfoldable pub equal_level_refusal : List ℕ → List ℕ → List ℕ → ℕ → Option Refusal
equal_level_refusal f a b w =
    let g = graph_of f in
    in_order f (short_groups g.order a b || ltb w (work_length g.order g.size)) (in_groups g.order a b None)

-- the file, A and B, and the lengths of the layer table and of the work table
unfoldable pub layers_refusal : List ℕ → List ℕ → List ℕ → ℕ → ℕ → Option Refusal
layers_refusal f a b l w =
    let g = graph_of f in
    in_order f (short_groups g.order a b || ltb l g.size || ltb w (work_length g.order g.size)) (in_groups g.order a b None)

-- a call that writes a file of k bytes: the refusal of what it reads, and 9 where the output is shorter than the file
unfoldable pub out_refusal : Option Refusal → ℕ → ℕ → Option Refusal
out_refusal r k o = or_else r (cond (ltb o k) (Some Table) None)

-- the file and the length of the output
abbrev pub write_refusal : List ℕ → ℕ → Option Refusal
write_refusal f = out_refusal (file_refusal f) (file_length f)

-- 02, wish 7: the file by the old rule and the length of the output
abbrev pub order_refusal : List ℕ → ℕ → Option Refusal
order_refusal f = out_refusal (old_refusal f) (file_length f)
