-- A plain set of links.
use Rattle.std.specs.Prelude.{ℕ, Bool, false, not, ◌&&◌, ◌||◌, eqb}

-- which links are in: a test on source and target
abbrev pub Links : Type 0
Links = ℕ → ℕ → Bool

-- no link
abbrev pub empty : Links
empty u v = false

-- the link from u to v is that from a to b
abbrev pub is : ℕ → ℕ → ℕ → ℕ → Bool
is a b u v = eqb u a && eqb v b

-- the links and the one from a to b
abbrev pub with : Links → ℕ → ℕ → Links
with S a b u v = is a b u v || S u v

-- the links but the one from a to b
abbrev pub without : Links → ℕ → ℕ → Links
without S a b u v = not (is a b u v) && S u v
