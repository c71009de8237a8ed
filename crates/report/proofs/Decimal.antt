-- A number in decimal is what the library prints of it, up to 64 bits. And how many digits there are at most.
use Prim.Native.Nat.{ℕ, zero, suc, ◌/◌, ◌%◌, ◌^◌, ◌<◌, ◌≤◌}
use mathlib.Core.List.{◌++◌}
use native.Mathlib.Decide.{dec_le}
use mathlib.Core.Path.{◌≡◌, sym}
use native.Mathlib.Nat.{pow-suc}
use native.Mathlib.Omega.{arith}
use borrow.Author.Tests.{lt-ltb, le-ltb}
use lib.ListN.{length, length-append}
use Rattle.std.specs.Fmt.{decimal as printed}
use Rattle.std.proofs.lemmas.Fmt.{AppendsLastDigit, decimal_from_appends, length-decimal-le_succ}
use Rattle.report.specs.Text.{digit_text, digits_within, decimal}

-- the digits within any number above n are the same
digits-within : (most more n : ℕ) → n < most → n < more → digits_within most n ≡ digits_within more n
unfolding digits_within
digits-within zero more n h l = absurd (omega arith)
digits-within (suc most) zero n h l = absurd (omega arith)
digits-within (suc most) (suc more) n h l =
    elim (dec_le 10 n) [
      | yes k ↦ rw (le-ltb n 10 k, digits-within most more (n / 10) (omega arith) (omega arith))
      | no k ↦ rw (lt-ltb n 10 (omega arith))
    ]

-- a number of more digits is the number without its last digit, and this digit
pub decimal_more : (n : ℕ) → 10 ≤ n → decimal n ≡ decimal (n / 10) ++ digit_text (n % 10)
unfolding decimal digits_within
decimal_more n l = rw (le-ltb n 10 l, digits-within n (suc (n / 10)) (n / 10) (omega arith) (omega arith))

-- a number below 10 is its last digit, and in any other this digit stands after those of the number without it
last-digit : AppendsLastDigit digits_within
unfolding digits_within
last-digit =
    record {
      one = λ k n l. let e : n % 10 ≡ n = omega arith in rw (lt-ltb n 10 l, e);
      more = λ k n l. rw (le-ltb n 10 l);
    }

pub decimal_printed : (n : ℕ) → n < 2 ^ 64 → printed n ≡ decimal n
unfolding decimal
decimal_printed n h = sym (decimal_from_appends digits_within last-digit (suc n) n h (omega (arith, length-decimal-le_succ n h)))

-- a number below 10 ^ (k + 1) has at most k + 1 digits within any number
digits-within-length : (most n k : ℕ) → n < 10 ^ suc k → length (digits_within most n) ≤ suc k
unfolding digits_within
digits-within-length zero n k l = omega arith
digits-within-length (suc most) n zero l = rw (lt-ltb n 10 (omega arith)) (omega arith)
digits-within-length (suc most) n (suc k) l =
    elim (dec_le 10 n) [
      | yes h ↦ rw (le-ltb n 10 h, length-append (digits_within most (n / 10)) (digit_text (n % 10)))
          (omega (arith, digits-within-length most (n / 10) k (omega (arith, pow-suc 10 (suc k)))))
      | no h ↦ rw (lt-ltb n 10 (omega arith)) (omega arith)
    ]

-- and in decimal
pub decimal-length : (n k : ℕ) → n < 10 ^ suc k → length (decimal n) ≤ suc k
unfolding decimal
decimal-length n k l = digits-within-length (suc n) n k l
