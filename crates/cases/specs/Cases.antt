-- 01's "Networks to try" and 02's examples as one table: each network as the bytes of its file, two groups A and B, and what is said of it
-- inside them, by the definitions; journals, as their bytes; findings compared; the links in both of two files; a link more; and kinds.
use Rattle.std.specs.Prelude.{ℕ, suc, Bool, true, false, ◌||◌, List, [], ◌∷◌, ◌++◌, ◌↔◌, ◌≡◌, Option, None, eqb, length, get_or, take}
use Rattle.graph.specs.Graph.{Graph, Group, everyone, card, edges}
use Rattle.graph.specs.Core.{CoreInside, LevelInside, LevelAcrossInside, EqualLevelInside, FindingInside}
use Rattle.graph.specs.Quiet.{OutcomeInside}
use Rattle.graph.specs.Layers.{still_in, LayeringInside}
use Rattle.graph.specs.Harmonic.{Harmonic}
use Rattle.network.specs.declared.Refusal.{Refusal}
use Rattle.network.specs.File.{mark, version_of, graph_of, number_told, link_told, old_refusal, file_refusal}
use Rattle.network.specs.Groups.{bytes_of}
use Rattle.network.specs.Bytes.{u16, header, edge_bytes, ordered}
use Rattle.network.specs.Held.{FileOf}
use Rattle.finding.specs.Equality.{Found, Equal, equal_refusal}
use Rattle.journal.specs.Entries.{journal_mark, header_refusal}
use Rattle.merging.specs.Shared.{shared, unshared}
use Rattle.merging.specs.Calls.{pair_refusal, common_refusal, InBoth}
use Rattle.cases.specs.Journals.{journal_header, entry, SaysJournal, SaysTotals}

-- 01: the two numbers that are returned for a refusal, and zeros where there is none
abbrev pub numbers_of : Option Refusal → ℕ × ℕ
numbers_of r = (number_told r, link_told r)

-- those of none, of one by its number alone, and of one that names a link
abbrev pub none : ℕ × ℕ
none = (0, 0)

abbrev pub plain : ℕ → ℕ × ℕ
plain k = (k, 0)

abbrev pub at : ℕ → ℕ → ℕ × ℕ
at k e = (k, e)

-- the header of a file of version 1, and that of one of version 2
abbrev pub header1 : ℕ → ℕ → List ℕ
header1 = header 1

abbrev pub header2 : ℕ → ℕ → List ℕ
header2 = header 2

-- 02, wish 13: a link of version 2, with its kind
abbrev pub kinded : ℕ → ℕ → ℕ → List ℕ
kinded u v k = edge_bytes u v ++ k ∷ []

-- the group of the listed members
abbrev pub members : List ℕ → Group
members [] u = false
members (v ∷ s) u = eqb u v || members s u

-- a ring: the finding is [x,y] with S, T and E
pub record Ring : Type 0 where
  pub x : ℕ
  pub y : ℕ
  pub S : List ℕ
  pub T : List ℕ
  pub E : ℕ

-- what 01 says of a network, and 02, inside A and B; S and T list members
pub data Claim : Type 0 where
  -- the [x,y]-core is S and T, with E links between them
  core : (x y : ℕ) (S T : List ℕ) (E : ℕ) → Claim
  -- the level of x is y
  level : (x y : ℕ) → Claim
  -- the level across, for y, is x
  across : (y x : ℕ) → Claim
  -- the finding is [x,y] with S, T and E, or nothing with zeros, and the equal level is k
  finding : (x y k : ℕ) (S T : List ℕ) (E : ℕ) → Claim
  -- the links have the listed layers, 0 for none, which are these rings, one after the other
  layers : List ℕ → List Ring → Claim
  -- the harmonic finder finds S and T, with E links between them
  harmonic : (S T : List ℕ) (E : ℕ) → Claim
  -- the file is accepted, with n members and m links
  has : (n m : ℕ) → Claim
  -- the file's own bytes give the refusal of these two numbers, or none
  gives : ℕ × ℕ → Claim
  -- by the old rule the file is accepted, and its links in order are this file, which is accepted
  orders : List ℕ → Claim
  -- the bytes are a journal that is not refused; of its entries the first `asked` are followed, or all where there are fewer: these have the
  -- listed numbers, and the links present after them are the listed ones, 1 or 0 for each pair of members
  follows : (asked : ℕ) (numbers present : List ℕ) → Claim
  -- and so many are live and due after the entries followed
  totals : (asked live due : ℕ) → Claim
  -- the journal's header gives the refusal of these two numbers, or none
  heads : ℕ × ℕ → Claim
  -- the finding is the first ring, that of another file is the second, and the two findings are equal, or are not
  against : (other : List ℕ) (mine theirs : Ring) (equal : Bool) → Claim
  -- the comparison of two findings, by the n of each and the tables of its groups, gives the refusal of these two numbers, or none
  compares : (n₁ : ℕ) (s₁ t₁ : List ℕ) (n₂ : ℕ) (s₂ t₂ : List ℕ) → ℕ × ℕ → Claim
  -- of the links of this file and of another so many are in both, in this one only and in the other only, and those in both are a file
  shares : (other common : List ℕ) (both mine theirs : ℕ) → Claim
  -- the call on this file and another, with an output of so many bytes, gives the refusal of these two numbers, or none
  pairs : (other : List ℕ) (out : ℕ) → ℕ × ℕ → Claim

-- the counts between the listed groups: E links, and no member listed twice or beyond the network
pub record Counts (g : Graph) (S T : List ℕ) (E : ℕ) : Type 0 where
  pub between : edges g (members S) (members T) ≡ E
  pub sources : card g (members S) ≡ length S
  pub targets : card g (members T) ≡ length T

-- the file is accepted, and (S,T) is the [x,y]-core of its network inside A and B
pub record SaysCore (f : List ℕ) (A B : Group) (x y : ℕ) (S T : List ℕ) (E : ℕ) : Type 0 where
  pub accepted : file_refusal f ≡ None
  pub core : CoreInside (graph_of f) A B x y (members S) (members T)
  pub counts : Counts (graph_of f) S T E

-- the file is accepted, and (S,T) is what is found in its network inside A and B, for [x,y]
pub record SaysFinding (f : List ℕ) (A B : Group) (x y k : ℕ) (S T : List ℕ) (E : ℕ) : Type 0 where
  pub accepted : file_refusal f ≡ None
  pub outcome : OutcomeInside (graph_of f) A B x y (members S) (members T)
  pub level : EqualLevelInside (graph_of f) A B k
  pub counts : Counts (graph_of f) S T E

-- the rings, from layer l on, are the findings inside A and B of the links still in
abbrev pub Rings : Graph → Group → Group → (ℕ → ℕ) → ℕ → List Ring → Type 0
Rings g A B L l [] = Unit {0}
Rings g A B L l (r ∷ rings) =
    FindingInside (still_in g L l) A B r.x r.y (members r.S) (members r.T) × Counts (still_in g L l) r.S r.T r.E
    × Rings g A B L (suc l) rings

-- the file is accepted, and inside A and B its links have these layers, of which each is its ring
pub record SaysLayers (f : List ℕ) (A B : Group) (layers : List ℕ) (rings : List Ring) : Type 0 where
  pub accepted : file_refusal f ≡ None
  pub layering : LayeringInside (graph_of f) A B (λ e. get_or layers e 0) (length rings)
  pub each : Rings (graph_of f) A B (λ e. get_or layers e 0) 1 rings

-- the file is accepted, and (S,T) is the pair that the harmonic finder finds in its network
pub record SaysHarmonic (f : List ℕ) (S T : List ℕ) (E : ℕ) : Type 0 where
  pub accepted : file_refusal f ≡ None
  pub found : Harmonic (graph_of f) (members S) (members T)
  pub counts : Counts (graph_of f) S T E

-- the file is accepted, and its finding inside A and B is the ring
pub record SaysRing (f : List ℕ) (A B : Group) (r : Ring) : Type 0 where
  pub accepted : file_refusal f ≡ None
  pub finding : FindingInside (graph_of f) A B r.x r.y (members r.S) (members r.T)
  pub counts : Counts (graph_of f) r.S r.T r.E

-- a ring of a file as the comparison takes it, each of its groups as the bytes of a table
abbrev pub found : List ℕ → Ring → Found
found f r = let n = (graph_of f).order in record { x = r.x; y = r.y; n = n; s = bytes_of n (members r.S); t = bytes_of n (members r.T) }

-- the findings of two files inside A and B are the two rings, and they are equal exactly where it is said
pub record SaysAgainst (f g : List ℕ) (A B : Group) (p q : Ring) (equal : Bool) : Type 0 where
  pub mine : SaysRing f A B p
  pub theirs : SaysRing g A B q
  pub told : (equal ≡ true) ↔ Equal (found f p) (found g q)

-- neither file is refused, their links are so many in both and in one only, and `common` is a file of those in both, of version 2
pub record SaysShares (f g common : List ℕ) (both mine theirs : ℕ) : Type 0 where
  pub passed : pair_refusal f g ≡ None
  pub both_is : shared (graph_of f) (graph_of g) ≡ both
  pub mine_is : unshared (graph_of f) (graph_of g) ≡ mine
  pub theirs_is : unshared (graph_of g) (graph_of f) ≡ theirs
  pub version : version_of common ≡ 2
  pub file : FileOf (graph_of f).order (InBoth f g) common

-- a claim on a file inside A and B, by the definitions; A and B do not count for the harmonic finder, nor for the bytes of a file or a journal or for
-- the links of two files, and for what is given of two findings the file does not either
abbrev pub Says : List ℕ → Group → Group → Claim → Type 0
Says f A B (core x y S T E) = SaysCore f A B x y S T E
Says f A B (level x y) = (file_refusal f ≡ None) × LevelInside (graph_of f) A B x y
Says f A B (across y x) = (file_refusal f ≡ None) × LevelAcrossInside (graph_of f) A B y x
Says f A B (finding x y k S T E) = SaysFinding f A B x y k S T E
Says f A B (layers l rings) = SaysLayers f A B l rings
Says f A B (harmonic S T E) = SaysHarmonic f S T E
Says f A B (has n m) = (file_refusal f ≡ None) × ((graph_of f).order ≡ n) × ((graph_of f).size ≡ m)
Says f A B (gives r) = numbers_of (file_refusal f) ≡ r
Says f A B (orders w) = (old_refusal f ≡ None) × (ordered f ≡ w) × (file_refusal w ≡ None)
Says f A B (follows asked numbers present) = SaysJournal f asked numbers present
Says f A B (totals asked live due) = SaysTotals f asked live due
Says f A B (heads r) = numbers_of (header_refusal f) ≡ r
Says f A B (against g p q equal) = SaysAgainst f g A B p q equal
Says f A B (compares n₁ s₁ t₁ n₂ s₂ t₂ r) = numbers_of (equal_refusal n₁ s₁ t₁ n₂ s₂ t₂) ≡ r
Says f A B (shares g common both mine theirs) = SaysShares f g common both mine theirs
Says f A B (pairs g out r) = numbers_of (common_refusal f g out) ≡ r

-- a file or a journal, the groups A and B, and one claim on it inside them
pub record Case : Type 0 where
  pub file : List ℕ
  pub sources : Group
  pub targets : Group
  pub claim : Claim

-- network W
abbrev pub W : List ℕ
W = header1 6 8 ++ edge_bytes 0 3 ++ edge_bytes 0 4 ++ edge_bytes 1 3 ++ edge_bytes 1 4 ++ edge_bytes 2 3 ++ edge_bytes 2 4 ++ edge_bytes 4 5 ++ edge_bytes 5 5

-- W in version 2, each link of kind 0
abbrev pub w_of_kinds : List ℕ
w_of_kinds = header2 6 8 ++ kinded 0 3 0 ++ kinded 0 4 0 ++ kinded 1 3 0 ++ kinded 1 4 0 ++ kinded 2 3 0 ++ kinded 2 4 0 ++ kinded 4 5 0 ++ kinded 5 5 0

-- W's links in another order
abbrev pub mixed_w : List ℕ
mixed_w = header1 6 8 ++ edge_bytes 5 5 ++ edge_bytes 2 4 ++ edge_bytes 0 4 ++ edge_bytes 1 3 ++ edge_bytes 4 5 ++ edge_bytes 2 3 ++ edge_bytes 0 3 ++ edge_bytes 1 4

-- 02, wish 10: W of other members: each stands three places further on, and the last three where the first did
abbrev pub other_members : List ℕ
other_members = header1 6 8 ++ edge_bytes 1 2 ++ edge_bytes 2 2 ++ edge_bytes 3 0 ++ edge_bytes 3 1 ++ edge_bytes 4 0 ++ edge_bytes 4 1 ++ edge_bytes 5 0 ++ edge_bytes 5 1

-- W with a link more beside its ring, and W among a member more
abbrev pub w_and_a_link : List ℕ
w_and_a_link = header1 6 9 ++ edge_bytes 0 3 ++ edge_bytes 0 4 ++ edge_bytes 0 5 ++ edge_bytes 1 3 ++ edge_bytes 1 4 ++ edge_bytes 2 3 ++ edge_bytes 2 4 ++ edge_bytes 4 5 ++ edge_bytes 5 5

abbrev pub w_and_a_member : List ℕ
w_and_a_member = header1 7 8 ++ edge_bytes 0 3 ++ edge_bytes 0 4 ++ edge_bytes 1 3 ++ edge_bytes 1 4 ++ edge_bytes 2 3 ++ edge_bytes 2 4 ++ edge_bytes 4 5 ++ edge_bytes 5 5

-- 02, wish 11: W's events as the vouched recorded them, without the link from 5 to itself and with one from 3 to 0; and the links that are in this and
-- in W with a link more, written in version 2 (wish 13)
abbrev pub received : List ℕ
received = header1 6 8 ++ edge_bytes 0 3 ++ edge_bytes 0 4 ++ edge_bytes 1 3 ++ edge_bytes 1 4 ++ edge_bytes 2 3 ++ edge_bytes 2 4 ++ edge_bytes 3 0 ++ edge_bytes 4 5

abbrev pub confirmed : List ℕ
confirmed = header2 6 7 ++ kinded 0 3 0 ++ kinded 0 4 0 ++ kinded 1 3 0 ++ kinded 1 4 0 ++ kinded 2 3 0 ++ kinded 2 4 0 ++ kinded 4 5 0

-- 02, wish 12: a ring of two vouchers and two vouched members that lacks the link from 0 to 2, and with it
abbrev pub one_short : List ℕ
one_short = header1 4 3 ++ edge_bytes 0 3 ++ edge_bytes 1 2 ++ edge_bytes 1 3

abbrev pub one_more : List ℕ
one_more = header1 4 4 ++ edge_bytes 0 2 ++ edge_bytes 0 3 ++ edge_bytes 1 2 ++ edge_bytes 1 3

-- the ring of W, and that of W of other members
abbrev pub w_ring : Ring
w_ring = record { x = 2; y = 3; S = 0 ∷ 1 ∷ 2 ∷ []; T = 3 ∷ 4 ∷ []; E = 6 }

abbrev pub other_ring : Ring
other_ring = record { x = 2; y = 3; S = 3 ∷ 4 ∷ 5 ∷ []; T = 0 ∷ 1 ∷ []; E = 6 }

-- 02's example: a star of four vouchers round member 4, and a ring of two vouchers and two vouched members
abbrev pub star_and_ring : List ℕ
star_and_ring = header1 9 8 ++ edge_bytes 0 4 ++ edge_bytes 1 4 ++ edge_bytes 2 4 ++ edge_bytes 3 4 ++ edge_bytes 5 7 ++ edge_bytes 5 8 ++ edge_bytes 6 7 ++ edge_bytes 6 8

-- 02, wish 6: a star of five one-off vouchers, 1 to 5, round member 0, and a ring of two vouchers, 6 and 7, and two vouched members, 1 and 2
abbrev pub one_offs : List ℕ
one_offs = header1 8 9 ++ edge_bytes 1 0 ++ edge_bytes 2 0 ++ edge_bytes 3 0 ++ edge_bytes 4 0 ++ edge_bytes 5 0 ++ edge_bytes 6 1 ++ edge_bytes 6 2 ++ edge_bytes 7 1 ++ edge_bytes 7 2

-- 02, wish 13: a star of five links round member 0, which weigh 1, and a ring of two vouchers, 0 and 1, and two vouched members, 2 and 3, whose links are
-- of the kinds 1 and 2, which weigh 1 and 2; and the same links as orders
abbrev pub visits : List ℕ
visits = header2 6 9 ++ kinded 0 2 2 ++ kinded 0 3 1 ++ kinded 1 0 0 ++ kinded 1 2 1 ++ kinded 1 3 2 ++ kinded 2 0 0 ++ kinded 3 0 1 ++ kinded 4 0 0 ++ kinded 5 0 0

abbrev pub orders_alone : List ℕ
orders_alone = header1 6 9 ++ edge_bytes 0 2 ++ edge_bytes 0 3 ++ edge_bytes 1 0 ++ edge_bytes 1 2 ++ edge_bytes 1 3 ++ edge_bytes 2 0 ++ edge_bytes 3 0 ++ edge_bytes 4 0 ++ edge_bytes 5 0

-- a month over 2 members, which meets each number but 19 and 20
abbrev pub month : List ℕ
month =
    journal_header 2
    -- 0 vouches for 1; again (16); 1 withdraws an absent link (17); a member outside (10)
    ++ entry 0 0 1
    ++ entry 0 0 1
    ++ entry 1 1 1
    ++ entry 0 2 0
    -- name 0 is set; a return to a name never set (18); 0 withdraws the link; a return to 0
    ++ entry 2 0 0
    ++ entry 3 3 0
    ++ entry 1 0 1
    ++ entry 3 0 0
    -- 1 vouches for 0; name 3 is set; returns to 0, 3 and 0
    ++ entry 0 1 0
    ++ entry 2 3 0
    ++ entry 3 0 0
    ++ entry 3 3 0
    ++ entry 3 0 0
    -- 1 vouches for 1; name 0 is set again; returns to 3 and 0
    ++ entry 0 1 1
    ++ entry 2 0 0
    ++ entry 3 3 0
    ++ entry 3 0 0
    -- a name above 3, a last number that is not 0, and a kind above 3 (18)
    ++ entry 2 4 0
    ++ entry 3 0 1
    ++ entry 4 0 0

-- the numbers of its entries
abbrev pub month_numbers : List ℕ
month_numbers = 0 ∷ 16 ∷ 17 ∷ 10 ∷ 0 ∷ 18 ∷ 0 ∷ 0 ∷ 0 ∷ 0 ∷ 0 ∷ 0 ∷ 0 ∷ 0 ∷ 0 ∷ 0 ∷ 0 ∷ 18 ∷ 18 ∷ 18 ∷ []

-- 02, wish 9: a busy member among 6
abbrev pub busy : List ℕ
busy =
    journal_header 6
    -- 0 vouches for four
    ++ entry 0 0 0
    ++ entry 0 0 1
    ++ entry 0 0 2
    ++ entry 0 0 3
    -- again (16), and for a fifth
    ++ entry 0 0 3
    ++ entry 0 0 4
    -- name 1 is set; 1 vouches for one
    ++ entry 2 1 0
    ++ entry 0 1 0
    -- 0 withdraws its fifth and its fourth; again (17)
    ++ entry 1 0 4
    ++ entry 1 0 3
    ++ entry 1 0 3
    -- a return to 1
    ++ entry 3 1 0

-- one case of the table, among everyone
abbrev pub says : List ℕ → Claim → Case
says f c = record { file = f; sources = everyone; targets = everyone; claim = c }

-- one case of the table, inside the listed A and B
abbrev pub says_in : List ℕ → List ℕ → List ℕ → Claim → Case
says_in f A B c = record { file = f; sources = members A; targets = members B; claim = c }

-- P1 to P9, W's report and W's layers, 02's example, some of these inside A and B, the harmonic finder, zero bytes, the limits of a file, links that
-- do not ascend, journals, findings compared, the links in both of two files, a link more, then kinds
unfoldable pub cases : List Case
cases =
    -- P1
    says W (core 2 3 (0 ∷ 1 ∷ 2 ∷ []) (3 ∷ 4 ∷ []) 6)
    -- P2
    ∷ says W (core 1 2 (0 ∷ 1 ∷ 2 ∷ 4 ∷ 5 ∷ []) (3 ∷ 4 ∷ 5 ∷ []) 8)
    -- P3
    ∷ says W (core 0 4 (0 ∷ 1 ∷ 2 ∷ 3 ∷ 4 ∷ 5 ∷ []) [] 0)
    -- P4
    ∷ says W (core 3 0 [] (0 ∷ 1 ∷ 2 ∷ 3 ∷ 4 ∷ 5 ∷ []) 0)
    -- inside A and B the S of x = 0 is A, and the T of y = 0 is B (02, wish 5)
    ∷ says_in W (0 ∷ 1 ∷ 4 ∷ []) (3 ∷ 5 ∷ []) (core 0 2 (0 ∷ 1 ∷ 4 ∷ []) (3 ∷ []) 2)
    ∷ says_in W (0 ∷ 1 ∷ 4 ∷ []) (3 ∷ 4 ∷ 5 ∷ []) (core 2 0 (0 ∷ 1 ∷ []) (3 ∷ 4 ∷ 5 ∷ []) 4)
    -- a core inside A and B is not the one among everyone cut down to them: of P2's groups, so cut down, 4 leaves S and 5 leaves T
    ∷ says_in W (0 ∷ 1 ∷ 4 ∷ []) (3 ∷ 5 ∷ []) (core 1 2 (0 ∷ 1 ∷ []) (3 ∷ []) 2)
    -- P5
    ∷ says W (level 1 3)
    ∷ says W (level 2 3)
    ∷ says W (level 3 0)
    ∷ says W (across 3 2)
    -- inside A and B the level of 1 and the level across for 2 are 1 lower than among everyone
    ∷ says_in W (0 ∷ 1 ∷ 4 ∷ []) (3 ∷ 5 ∷ []) (level 1 2)
    ∷ says_in W (0 ∷ 1 ∷ 4 ∷ []) (3 ∷ 5 ∷ []) (across 2 1)
    -- the report on W
    ∷ says W (finding 2 3 2 (0 ∷ 1 ∷ 2 ∷ []) (3 ∷ 4 ∷ []) 6)
    -- its layers
    ∷ says W (layers (1 ∷ 1 ∷ 1 ∷ 1 ∷ 1 ∷ 1 ∷ 2 ∷ 2 ∷ []) (
    record { x = 2; y = 3; S = 0 ∷ 1 ∷ 2 ∷ []; T = 3 ∷ 4 ∷ []; E = 6 }
    ∷ record { x = 1; y = 2; S = 4 ∷ 5 ∷ []; T = 5 ∷ []; E = 2 }
    ∷ []))
    -- the report on W inside A and B
    ∷ says_in W (0 ∷ 1 ∷ 4 ∷ 5 ∷ []) (4 ∷ 5 ∷ []) (finding 1 2 1 (0 ∷ 1 ∷ 4 ∷ 5 ∷ []) (4 ∷ 5 ∷ []) 4)
    -- layers inside A and B: the links of 2, who is not in A, have none
    ∷ says_in W (0 ∷ 1 ∷ 4 ∷ 5 ∷ []) (3 ∷ 4 ∷ 5 ∷ []) (layers (1 ∷ 1 ∷ 1 ∷ 1 ∷ 0 ∷ 0 ∷ 2 ∷ 2 ∷ []) (
    record { x = 2; y = 2; S = 0 ∷ 1 ∷ []; T = 3 ∷ 4 ∷ []; E = 4 }
    ∷ record { x = 1; y = 2; S = 4 ∷ 5 ∷ []; T = 5 ∷ []; E = 2 }
    ∷ []))
    -- a quiet month inside A and B: links go from B to A only, so nothing is found, and no link has a layer
    ∷ says_in W (3 ∷ 4 ∷ []) (0 ∷ 1 ∷ 2 ∷ []) (finding 0 0 0 [] [] 0)
    ∷ says_in W (3 ∷ 4 ∷ []) (0 ∷ 1 ∷ 2 ∷ []) (layers (0 ∷ 0 ∷ 0 ∷ 0 ∷ 0 ∷ 0 ∷ 0 ∷ 0 ∷ []) [])
    -- P6
    ∷ says (header1 4 3 ++ edge_bytes 0 1 ++ edge_bytes 0 2 ++ edge_bytes 0 3) (finding 3 1 1 (0 ∷ []) (1 ∷ 2 ∷ 3 ∷ []) 3)
    -- P7
    ∷ says (header1 6 4 ++ edge_bytes 0 1 ++ edge_bytes 0 2 ++ edge_bytes 3 5 ++ edge_bytes 4 5) (finding 1 2 1 (3 ∷ 4 ∷ []) (5 ∷ []) 2)
    -- a ring beside a star of equal product (02, wish 4), and their layers
    ∷ says star_and_ring (finding 2 2 2 (5 ∷ 6 ∷ []) (7 ∷ 8 ∷ []) 4)
    ∷ says star_and_ring (layers (2 ∷ 2 ∷ 2 ∷ 2 ∷ 1 ∷ 1 ∷ 1 ∷ 1 ∷ []) (
    record { x = 2; y = 2; S = 5 ∷ 6 ∷ []; T = 7 ∷ 8 ∷ []; E = 4 }
    ∷ record { x = 1; y = 4; S = 0 ∷ 1 ∷ 2 ∷ 3 ∷ []; T = 4 ∷ []; E = 4 }
    ∷ []))
    -- with only part of the ring in A and B the star is found, and one link of the ring is left for the next layer
    ∷ says_in star_and_ring (0 ∷ 1 ∷ 2 ∷ 3 ∷ 5 ∷ []) (4 ∷ 7 ∷ []) (finding 1 4 1 (0 ∷ 1 ∷ 2 ∷ 3 ∷ []) (4 ∷ []) 4)
    ∷ says_in star_and_ring (0 ∷ 1 ∷ 2 ∷ 3 ∷ 5 ∷ []) (4 ∷ 7 ∷ []) (layers (1 ∷ 1 ∷ 1 ∷ 1 ∷ 2 ∷ 0 ∷ 0 ∷ 0 ∷ []) (
    record { x = 1; y = 4; S = 0 ∷ 1 ∷ 2 ∷ 3 ∷ []; T = 4 ∷ []; E = 4 }
    ∷ record { x = 1; y = 1; S = 5 ∷ []; T = 7 ∷ []; E = 1 }
    ∷ []))
    -- P8
    ∷ says (header1 1 1 ++ edge_bytes 0 0) (finding 1 1 1 (0 ∷ []) (0 ∷ []) 1)
    -- P9, by 02, wish 3: nothing is found, and there is no layer
    ∷ says (header1 1 0) (finding 0 0 0 [] [] 0)
    ∷ says (header1 1 0) (layers [] [])
    -- the harmonic finder on W (02, wish 6)
    ∷ says W (harmonic (0 ∷ 1 ∷ 2 ∷ []) (3 ∷ 4 ∷ []) 6)
    -- the finding is the star, and the harmonic finder finds the ring
    ∷ says one_offs (finding 1 5 2 (1 ∷ 2 ∷ 3 ∷ 4 ∷ 5 ∷ []) (0 ∷ []) 5)
    ∷ says one_offs (harmonic (6 ∷ 7 ∷ []) (1 ∷ 2 ∷ []) 4)
    -- a tie of sides goes to the voucher side: with the vouched side first, or the smaller member on either side, it is 0 and 1 with 0, 1 and 2
    ∷ says (header1 3 3 ++ edge_bytes 0 0 ++ edge_bytes 0 2 ++ edge_bytes 1 1) (harmonic (0 ∷ []) (0 ∷ 2 ∷ []) 2)
    -- a tie of vouchers goes to the smaller member: with the larger first it is 0, 1 and 2 with 0 and 1
    ∷ says (header1 3 3 ++ edge_bytes 0 0 ++ edge_bytes 1 1 ++ edge_bytes 2 1) (harmonic (1 ∷ 2 ∷ []) (1 ∷ []) 2)
    -- so does a tie of vouched members: with the larger first it is 0 and 1 with everyone
    ∷ says (header1 5 5 ++ edge_bytes 0 0 ++ edge_bytes 0 1 ++ edge_bytes 1 2 ++ edge_bytes 1 3 ++ edge_bytes 1 4) (harmonic (1 ∷ []) (2 ∷ 3 ∷ 4 ∷ []) 3)
    -- of states with equal measure the earliest is kept, here the first, everyone: the latest is 0 with 0 and 1
    ∷ says (header1 3 4 ++ edge_bytes 0 0 ++ edge_bytes 0 1 ++ edge_bytes 1 2 ++ edge_bytes 2 2) (harmonic (0 ∷ 1 ∷ 2 ∷ []) (0 ∷ 1 ∷ 2 ∷ []) 4)
    -- without links it finds empty groups, and so of zero bytes
    ∷ says (header1 1 0) (harmonic [] [] 0)
    ∷ says [] (harmonic [] [] 0)
    -- zero bytes count as the version 1 file with n 0 and m 0; from 1 to 8 bytes 1 is given
    ∷ says [] (has 0 0)
    ∷ says [] (finding 0 0 0 [] [] 0)
    ∷ says [] (layers [] [])
    ∷ says (take 1 (header1 0 0)) (gives (plain 1))
    ∷ says (take 8 (header1 0 0)) (gives (plain 1))
    ∷ says (header1 0 0) (has 0 0)
    -- n: 2,048 is accepted, 2,049 is not
    ∷ says (header1 2048 0) (gives none)
    ∷ says (header1 2049 0) (gives (plain 4))
    -- m: of files with no link in them 8,192 is refused by the length, 8,193 by m itself
    ∷ says (header1 1 8192) (gives (plain 6))
    ∷ says (header1 1 8193) (gives (plain 5))
    -- a link that names n - 1 is accepted, one that names n or repeats an earlier one is refused with its number
    ∷ says (header1 3 1 ++ edge_bytes 2 2) (gives none)
    ∷ says (header1 3 1 ++ edge_bytes 2 3) (gives (at 7 0))
    ∷ says (header1 3 3 ++ edge_bytes 0 1 ++ edge_bytes 1 0 ++ edge_bytes 0 1) (gives (at 8 2))
    -- links that do not ascend (02, wish 7): the first that comes before the one preceding it, by voucher and then by vouched; 8 comes first
    ∷ says mixed_w (gives (at 15 1))
    ∷ says (header1 3 3 ++ edge_bytes 0 1 ++ edge_bytes 0 0 ++ edge_bytes 0 1) (gives (at 8 2))
    ∷ says (header1 3 4 ++ edge_bytes 0 1 ++ edge_bytes 0 2 ++ edge_bytes 0 0 ++ edge_bytes 1 0) (gives (at 15 2))
    ∷ says (header1 3 2 ++ edge_bytes 0 2 ++ edge_bytes 1 0) (gives none)
    -- by the old rule they are taken, and in order they are W; zero bytes are taken too
    ∷ says mixed_w (orders W)
    ∷ says [] (orders (header1 0 0))
    -- a month (02, wish 8): it starts without links; the first is withdrawn, and is back after a return
    ∷ says month (follows 0 [] (0 ∷ 0 ∷ 0 ∷ 0 ∷ []))
    ∷ says month (follows 6 (take 6 month_numbers) (0 ∷ 1 ∷ 0 ∷ 0 ∷ []))
    ∷ says month (follows 7 (take 7 month_numbers) (0 ∷ 0 ∷ 0 ∷ 0 ∷ []))
    ∷ says month (follows 8 (take 8 month_numbers) (0 ∷ 1 ∷ 0 ∷ 0 ∷ []))
    -- of two named states each holds, however often it is returned to
    ∷ says month (follows 10 (take 10 month_numbers) (0 ∷ 1 ∷ 1 ∷ 0 ∷ []))
    ∷ says month (follows 11 (take 11 month_numbers) (0 ∷ 1 ∷ 0 ∷ 0 ∷ []))
    ∷ says month (follows 12 (take 12 month_numbers) (0 ∷ 1 ∷ 1 ∷ 0 ∷ []))
    ∷ says month (follows 13 (take 13 month_numbers) (0 ∷ 1 ∷ 0 ∷ 0 ∷ []))
    -- until it is set again
    ∷ says month (follows 15 (take 15 month_numbers) (0 ∷ 1 ∷ 0 ∷ 1 ∷ []))
    ∷ says month (follows 16 (take 16 month_numbers) (0 ∷ 1 ∷ 1 ∷ 0 ∷ []))
    ∷ says month (follows 17 (take 17 month_numbers) (0 ∷ 1 ∷ 0 ∷ 1 ∷ []))
    -- more entries than there are means all
    ∷ says month (follows 100 month_numbers (0 ∷ 1 ∷ 0 ∷ 1 ∷ []))
    -- a withdrawn link that is absent, with either member outside, gives 10, not 17
    ∷ says (journal_header 2 ++ entry 1 0 2 ++ entry 1 2 0) (follows 2 (10 ∷ 10 ∷ []) (0 ∷ 0 ∷ 0 ∷ 0 ∷ []))
    -- kind 2 with a name above 3, and numbers outside too, gives 18, not 10
    ∷ says (journal_header 2 ++ entry 2 4 2) (follows 1 (18 ∷ []) (0 ∷ 0 ∷ 0 ∷ 0 ∷ []))
    -- both bytes of a number count
    ∷ says (journal_header 2 ++ entry 0 256 0 ++ entry 0 0 256 ++ entry 2 256 0) (follows 3 (10 ∷ 10 ∷ 18 ∷ []) (0 ∷ 0 ∷ 0 ∷ 0 ∷ []))
    -- four are due to each of six members, and for n below 4 too
    ∷ says busy (totals 0 0 24)
    ∷ says (journal_header 3) (totals 0 0 12)
    ∷ says (journal_header 0) (totals 0 0 0)
    -- a member's fourth lowers due; a refused entry moves nothing, and a fifth leaves due
    ∷ says busy (totals 3 3 21)
    ∷ says busy (totals 4 4 20)
    ∷ says busy (totals 5 4 20)
    ∷ says busy (totals 6 5 20)
    -- a withdrawal from five leaves due too, one from four raises it
    ∷ says busy (totals 8 6 19)
    ∷ says busy (totals 9 5 19)
    ∷ says busy (totals 10 4 20)
    ∷ says busy (totals 11 4 20)
    -- a return restores both totals
    ∷ says busy (totals 12 5 20)
    -- a journal's header: under 7 bytes, of which zero bytes too
    ∷ says [] (heads (plain 1))
    ∷ says (take 6 (journal_header 2)) (heads (plain 1))
    -- a file's mark, whatever n, and another version
    ∷ says (mark ++ u16 1 ++ u16 2) (heads (plain 2))
    ∷ says (mark ++ u16 1 ++ u16 2049) (heads (plain 2))
    ∷ says (journal_mark ++ u16 2 ++ u16 2) (heads (plain 3))
    -- n: 2,048 is accepted, 2,049 is not
    ∷ says (journal_header 2048) (heads none)
    ∷ says (journal_header 2049) (heads (plain 4))
    -- an entry that is cut short
    ∷ says (journal_header 2 ++ u16 0) (heads (plain 6))
    -- two months with [2,3] (02, wish 10): a finding is equal to itself, and to the same one beside another link,
    ∷ says W (against W w_ring w_ring true)
    ∷ says W (against w_and_a_link w_ring w_ring true)
    -- but not to one with other members, nor to one over another n
    ∷ says W (against other_members w_ring other_ring false)
    ∷ says W (against w_and_a_member w_ring w_ring false)
    -- n of either: 2,048 is accepted, and its tables are short; 2,049 is not, whatever the tables
    ∷ says [] (compares 2048 [] [] 0 [] [] (plain 9))
    ∷ says [] (compares 2049 [] [] 0 [] [] (plain 4))
    ∷ says [] (compares 1 [] (2 ∷ []) 2049 [] [] (plain 4))
    -- a table that is short for its own n, before a byte that is neither 0 nor 1, on either side
    ∷ says [] (compares 1 (2 ∷ []) (1 ∷ []) 2 (1 ∷ 1 ∷ []) (1 ∷ []) (plain 9))
    ∷ says [] (compares 2 (1 ∷ []) (1 ∷ 1 ∷ []) 1 (1 ∷ []) (2 ∷ []) (plain 9))
    -- such a byte, also where the two n differ
    ∷ says [] (compares 1 (1 ∷ []) (2 ∷ []) 2 (1 ∷ 0 ∷ []) (0 ∷ 1 ∷ []) (plain 11))
    ∷ says [] (compares 1 (1 ∷ []) (1 ∷ []) 2 (1 ∷ 2 ∷ []) (0 ∷ 1 ∷ []) (plain 11))
    -- past its own n a byte does not count, and a table is not short for the other n
    ∷ says [] (compares 1 (1 ∷ 2 ∷ []) (1 ∷ []) 2 (1 ∷ 0 ∷ 2 ∷ []) (0 ∷ 1 ∷ []) none)
    -- given and received (02, wish 11): the links in both, which are the same with the files exchanged, and the ring in them
    ∷ says w_and_a_link (shares received confirmed 7 2 1)
    ∷ says received (shares w_and_a_link confirmed 7 1 2)
    ∷ says confirmed (finding 2 3 2 (0 ∷ 1 ∷ 2 ∷ []) (3 ∷ 4 ∷ []) 6)
    -- of a file with itself it is the file, of a link and the one the other way nothing, and of two that are empty the file without links
    ∷ says W (shares W w_of_kinds 8 0 0)
    ∷ says (header1 2 1 ++ edge_bytes 0 1) (shares (header1 2 1 ++ edge_bytes 1 0) (header2 2 0) 0 1 1)
    ∷ says [] (shares (header1 0 0) (header2 0 0) 0 0 0)
    -- two kinds of one weight are one link, which has the first file's kind, and a kind of another weight is another link (02, wish 13)
    ∷ says (header2 2 2 ++ kinded 0 0 1 ++ kinded 0 1 2) (shares (header2 2 2 ++ kinded 0 0 0 ++ kinded 0 1 3) (header2 2 1 ++ kinded 0 0 1) 1 1 1)
    ∷ says (header1 2 1 ++ edge_bytes 0 0) (shares (header2 2 1 ++ kinded 0 0 1) (header2 2 1 ++ kinded 0 0 0) 1 0 0)
    -- the first file's number comes before the second's, which comes before 21
    ∷ says mixed_w (pairs (take 8 W) 0 (at 15 1))
    ∷ says (header1 5 0) (pairs mixed_w 0 (at 15 1))
    -- n: 21, before 9, also of zero bytes
    ∷ says W (pairs w_and_a_member 0 (plain 21))
    ∷ says [] (pairs W 0 (plain 21))
    -- the output is to hold the links in both, and no more
    ∷ says w_and_a_link (pairs received 43 (plain 9))
    ∷ says w_and_a_link (pairs received 44 none)
    ∷ says [] (pairs [] 8 (plain 9))
    ∷ says [] (pairs [] 9 none)
    -- what one vouch can move (02, wish 12): the equal level, the level of 2 and the level across for 2 rise by 1,
    ∷ says one_short (finding 1 2 1 (0 ∷ 1 ∷ []) (3 ∷ []) 2)
    ∷ says one_more (finding 2 2 2 (0 ∷ 1 ∷ []) (2 ∷ 3 ∷ []) 4)
    ∷ says one_short (level 2 1)
    ∷ says one_more (level 2 2)
    ∷ says one_short (across 2 1)
    ∷ says one_more (across 2 2)
    -- the level of 1 stays, and so does that of 2 where the voucher is not in A
    ∷ says one_short (level 1 2)
    ∷ says one_more (level 1 2)
    ∷ says_in one_short (1 ∷ []) (2 ∷ 3 ∷ []) (level 2 1)
    ∷ says_in one_more (1 ∷ []) (2 ∷ 3 ∷ []) (level 2 1)
    -- kinds (02, wish 13): a ring that only weights make; the same links as orders find the star
    ∷ says visits (finding 3 3 3 (0 ∷ 1 ∷ []) (2 ∷ 3 ∷ []) 6)
    ∷ says orders_alone (finding 1 5 2 (1 ∷ 2 ∷ 3 ∷ 4 ∷ 5 ∷ []) (0 ∷ []) 5)
    -- cores, levels, the harmonic pair and layers by weights, of which the layers' E add up to 11, not to 9
    ∷ says visits (core 2 3 (0 ∷ 1 ∷ []) (2 ∷ 3 ∷ []) 6)
    ∷ says visits (core 3 4 [] [] 0)
    ∷ says visits (level 2 3)
    ∷ says visits (across 3 3)
    ∷ says visits (harmonic (0 ∷ 1 ∷ []) (2 ∷ 3 ∷ []) 6)
    ∷ says visits (layers (1 ∷ 1 ∷ 2 ∷ 1 ∷ 1 ∷ 2 ∷ 2 ∷ 2 ∷ 2 ∷ []) (
    record { x = 3; y = 3; S = 0 ∷ 1 ∷ []; T = 2 ∷ 3 ∷ []; E = 6 }
    ∷ record { x = 1; y = 5; S = 1 ∷ 2 ∷ 3 ∷ 4 ∷ 5 ∷ []; T = 0 ∷ []; E = 5 }
    ∷ []))
    -- versions: 0 and 3 are refused, and a length is that of its own version
    ∷ says (mark ++ u16 0 ++ u16 0 ++ u16 0) (gives (plain 3))
    ∷ says (mark ++ u16 3 ++ u16 0 ++ u16 0) (gives (plain 3))
    ∷ says (header2 2 1 ++ edge_bytes 0 1) (gives (plain 6))
    ∷ says (header1 2 1 ++ kinded 0 1 0) (gives (plain 6))
    ∷ says (header2 0 0) (has 0 0)
    -- a kind above 7: the first such link, after 7 and before 8; the same pair twice is a repeat even with two kinds
    ∷ says (header2 2 2 ++ kinded 0 0 7 ++ kinded 0 1 8) (gives (at 22 1))
    ∷ says (header2 2 3 ++ kinded 0 0 8 ++ kinded 0 0 0 ++ kinded 0 2 0) (gives (at 7 2))
    ∷ says (header2 2 3 ++ kinded 0 0 0 ++ kinded 0 0 0 ++ kinded 0 1 8) (gives (at 22 2))
    ∷ says (header2 2 2 ++ kinded 0 1 0 ++ kinded 0 1 7) (gives (at 8 1))
    ∷ []

-- every case's claim holds
abbrev pub Hold : List Case → Type 0
Hold [] = Unit {0}
Hold (c ∷ s) = Says c.file c.sources c.targets c.claim × Hold s
