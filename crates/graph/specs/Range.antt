-- What runs over the numbers below n: sums, the first that passes a test, and lists.
use Rattle.std.specs.Prelude.{ℕ, zero, suc, ◌+◌, Bool, true, false, cond, List, [], ◌∷◌, ◌++◌}

-- f 0 + f 1 + .. + f (n - 1)
unfoldable pub sum : (ℕ → ℕ) → ℕ → ℕ
sum f zero = 0
sum f (suc n) = sum f n + f n

-- w where the test holds, and 0 where it fails
abbrev pub if : Bool → ℕ → ℕ
if true w = w
if false w = 0

-- the first number below n that passes the test, or n where none does
unfoldable pub first : (ℕ → Bool) → ℕ → ℕ
first p zero = zero
first p (suc n) = cond (p zero) zero (suc (first (λ i. p (suc i)) n))

-- f 0 ++ f 1 ++ .. ++ f (n - 1)
unfoldable pub flat : (ℕ → List ℕ) → ℕ → List ℕ
flat f zero = []
flat f (suc n) = flat f n ++ f n

-- the list of f 0, f 1, .., f (n - 1)
abbrev pub table : (ℕ → ℕ) → ℕ → List ℕ
table f = flat (λ i. f i ∷ [])
