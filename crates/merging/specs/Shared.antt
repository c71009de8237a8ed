-- Two networks of the same events: the links that are in both (02, wish 11).
use Rattle.std.specs.Prelude.{ℕ, Bool, not, ◌&&◌, eqb, ltb}
use Rattle.graph.specs.Range.{sum, if, first}
use Rattle.graph.specs.Graph.{Graph}

-- edge d of g and edge e of h are one link: 02, wish 13: only with equal weight
abbrev pub is_one : Graph → Graph → ℕ → ℕ → Bool
is_one g h d e = eqb (g.source d) (h.source e) && (eqb (g.target d) (h.target e) && eqb (g.weight d) (h.weight e))

-- edge d of g is a link of h too
unfoldable pub is_shared : Graph → Graph → ℕ → Bool
is_shared g h d = ltb (first (is_one g h d) h.size) h.size

-- 02: how many links of g are links of h too
abbrev pub shared : Graph → Graph → ℕ
shared g h = sum (λ d. if (is_shared g h d) 1) g.size

-- 02: and how many are in g only
abbrev pub unshared : Graph → Graph → ℕ
unshared g h = sum (λ d. if (not (is_shared g h d)) 1) g.size
