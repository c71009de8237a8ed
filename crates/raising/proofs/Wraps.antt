-- One test for two: a difference that wraps round is a great number, so it is less than the length of a range exactly where nothing wraps and the
-- number is in the range.
use Rattle.std.proofs.Common.{◌≡◌, ℕ, ◌+◌, ◌-◌, ◌%◌, ◌<◌, ◌≤◌, ◌&&◌, ltb, leb, sym, ◌∙◌, mod-eq_of_lt, arith}
use Rattle.std.proofs.lemmas.Bool.Decides.{nat_tests}
use native.Mathlib.Decide.{dec_lt}
use native.Mathlib.Nat.{mod-eq-sub-mod}

-- r is the difference of a and b, or with N more where that is below 0
pub wraps-between : (N r b a e : ℕ) → r < N → b < N → e < N → b ≤ e → (r + b) % N ≡ a → ltb r (e - b) ≡ (leb b a && ltb a e)
wraps-between N r b a e i j k l q =
    elim (dec_lt (r + b) N) [
      | yes h ↦ let p : r + b ≡ a = sym (mod-eq_of_lt h) ∙ q in grind (arith, nat_tests)
      | no h ↦
          let p : a ≡ r + b - N = sym q ∙ mod-eq-sub-mod (omega arith) ∙ mod-eq_of_lt (omega arith) in
          grind (arith, nat_tests)
    ]
