-- Words that the code reads as numbers.
use Rattle.std.specs.Prelude.{◌≡◌, ℕ, ◌^◌, ◌≤◌, Bool, true, false, ◌&&◌, List, nat_lt, Option, Some, None}
use Rattle.std.specs.List.{list_all}
use Rattle.trace_text.specs.declared.number.Reading.{Reading}
use Rattle.trace_text.specs.declared.number.Reading.TheVariants.{Misspelled, Wide, Number}
use Rattle.trace_text.specs.Spelling.{is_hexadecimal, digit_number, number_from, is_filled, is_value, hexadecimal_of, is_decimal, decimal_of}

-- a digit of a base of up to 16
abbrev pub is_digit_in : ℕ → ℕ → Bool
is_digit_in base b = is_hexadecimal b && nat_lt (digit_number b) base

abbrev pub is_number : ℕ → List ℕ → Bool
is_number base word = is_filled word && list_all (is_digit_in base) word

-- a number in 128 bits, or that it has more
abbrev pub IsHeld : Option ℕ → ℕ → Type 0
IsHeld None n = 2 ^ 128 ≤ n
IsHeld (Some m) n = m ≡ n

-- the number of a word that is spelled
abbrev pub IsNumber : Reading → ℕ → Type 0
IsNumber Misspelled n = ⊥
IsNumber Wide n = 2 ^ 128 ≤ n
IsNumber (Number m) n = m ≡ n

-- a word that the test passes is read as this number
abbrev pub ReadsWord : Bool → ℕ → Reading → Type 0
ReadsWord spelled n Misspelled = spelled ≡ false
ReadsWord spelled n Wide = (spelled ≡ true) × (2 ^ 128 ≤ n)
ReadsWord spelled n (Number m) = (spelled ≡ true) × (m ≡ n)

abbrev pub Reads : ℕ → List ℕ → Reading → Type 0
Reads base word = ReadsWord (is_number base word) (number_from base 0 word)

abbrev pub ReadsValue : List ℕ → Reading → Type 0
ReadsValue word = ReadsWord (is_value word) (hexadecimal_of word)

abbrev pub ReadsDecimal : List ℕ → Reading → Type 0
ReadsDecimal word = ReadsWord (is_decimal word) (decimal_of word)
