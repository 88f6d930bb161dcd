-- Bytes of words: letters, digits, and with which bytes a word begins and goes on.
use Rattle.std.specs.Prelude.{ℕ, Bool, ◌||◌, ◌&&◌, nat_le, nat_eq}

abbrev pub is_letter : ℕ → Bool
is_letter b = (nat_le 97 b && nat_le b 122) || (nat_le 65 b && nat_le b 90)

abbrev pub is_digit : ℕ → Bool
is_digit b = nat_le 48 b && nat_le b 57

-- a letter or an underscore
abbrev pub is_word_start : ℕ → Bool
is_word_start b = is_letter b || nat_eq b 95

-- or a digit, or a dollar sign
abbrev pub is_word_byte : ℕ → Bool
is_word_byte b = is_word_start b || (is_digit b || nat_eq b 36)
