-- How the words of a trace are spelled.
-- A value is hexadecimal digits in either case, an address and a clock are decimal digits; leading zeros are free, and there may be any number of digits.
-- A clock list is `-`, or rising numbers parted by commas.
use Rattle.std.specs.Prelude.{ℕ, ◌+◌, ◌*◌, List, [], ◌∷◌, map, codes, Bool, true, false, ◌&&◌, ◌||◌, nat_eq, nat_le, if◌then◌else◌, is_some, unwrap_or}
use Rattle.std.specs.List.{list_all, slice_split}
use Rattle.std.specs.Str.{bytes_eq}
use Rattle.fir_base.specs.Bytes.{is_digit}
use Rattle.fir_base.specs.Digits.{digit_value}

abbrev pub is_hexadecimal : ℕ → Bool
is_hexadecimal b = is_some (digit_value b)

-- the number of a digit
abbrev pub digit_number : ℕ → ℕ
digit_number b = unwrap_or (digit_value b) 0

-- the number of digits in a base, behind a number
abbrev pub number_from : ℕ → ℕ → List ℕ → ℕ
number_from base n [] = n
number_from base n (b ∷ bs) = number_from base (base * n + digit_number b) bs

abbrev pub is_filled : List ℕ → Bool
is_filled [] = false
is_filled (b ∷ bs) = true

abbrev pub is_value : List ℕ → Bool
is_value word = is_filled word && list_all is_hexadecimal word

abbrev pub hexadecimal_of : List ℕ → ℕ
hexadecimal_of = number_from 16 0

abbrev pub is_decimal : List ℕ → Bool
is_decimal word = is_filled word && list_all is_digit word

abbrev pub decimal_of : List ℕ → ℕ
decimal_of = number_from 10 0

-- what stands between commas
abbrev pub listed : List ℕ → List (List ℕ)
listed = slice_split (λ b. nat_eq b 44)

-- each number greater than the one before it, the first at least low
abbrev pub are_rising : ℕ → List ℕ → Bool
are_rising low [] = true
are_rising low (n ∷ ns) = nat_le low n && are_rising (n + 1) ns

abbrev pub is_no_clock : List ℕ → Bool
is_no_clock word = bytes_eq word (codes "-")

abbrev pub are_clocks : List (List ℕ) → Bool
are_clocks pieces = list_all is_decimal pieces && are_rising 0 (map decimal_of pieces)

abbrev pub is_clock_list : List ℕ → Bool
is_clock_list word = is_no_clock word || are_clocks (listed word)

-- the numbers of the clocks that a list names
abbrev pub clocks_of : List ℕ → List ℕ
clocks_of word = if is_no_clock word then [] else map decimal_of (listed word)
