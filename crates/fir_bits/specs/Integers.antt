-- The integers that values stand for.
-- A UInt stands for its number, and an SInt for its two's complement: 2 to the width less where its top bit is set.
use Rattle.std.specs.Prelude.{ℕ, zero, ◌-◌, ◌^◌, ◌%◌, Bool, ◌&&◌, if◌then◌else◌, ℤ, pos, negsuc, ◌-ℤ◌, neg_ℤ, int_div, int_rem}
use Rattle.std.specs.Int.{int_div_euclid}
use Rattle.fir_bits.specs.Values.{is_negative}

-- the integer that n of w bits stands for
abbrev pub reading : Bool → ℕ → ℕ → ℤ
reading signed w n = if signed && is_negative w n then pos n -ℤ pos (2 ^ w) else pos n

-- the low w bits of an integer
abbrev pub bits_of : ℕ → ℤ → ℕ
bits_of w (pos n) = n % 2 ^ w
bits_of w (negsuc n) = 2 ^ w - 1 - n % 2 ^ w

-- a sign and a magnitude
abbrev pub of_sign : Bool → ℕ → ℤ
of_sign negative magnitude = if negative then neg_ℤ (pos magnitude) else pos magnitude

-- rounded towards zero; by zero it is 0, a choice of this project
abbrev pub quotient : ℤ → ℤ → ℤ
quotient x (pos zero) = pos 0
quotient x y = int_div x y

-- what the quotient leaves, with the sign of the first; by zero it is 0, a choice of this project
abbrev pub remainder : ℤ → ℤ → ℤ
remainder x (pos zero) = pos 0
remainder x y = int_rem x y

-- divided by 2 ^ n, rounded down
abbrev pub shifted_down : ℤ → ℕ → ℤ
shifted_down x n = int_div_euclid x (pos (2 ^ n))
