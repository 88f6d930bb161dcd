-- The word of a value reads back to it, as a trace is read.
-- It has lower-case hexadecimal digits, whose number is the value's. They are as many as show every value of the width, and no fewer digits do; a word has a
-- digit at least, so that a width of no bits has one.
use Rattle.std.specs.Prelude.{◌≡◌, ℕ, ◌^◌, ◌<◌, ◌≤◌, List, length, Bool, true, ◌&&◌, ◌||◌, nat_le}
use Rattle.std.specs.List.{list_all}
use Rattle.fir_base.specs.Bytes.{is_digit}
use Rattle.fir_bits.specs.Values.{BitVector, IsBitVector}
use Rattle.trace_text.specs.Spelling.{is_value, hexadecimal_of}
use Rattle.trace_text.specs.OutputLines.{value_text}

-- a hexadecimal digit whose letters are in lower case
abbrev pub is_lower_digit : ℕ → Bool
is_lower_digit b = is_digit b || (nat_le 97 b && nat_le b 102)

-- a word of so many digits, in either case, with this number
pub record HasWord (count number : ℕ) : Type 0 where
  pub word : List ℕ
  pub long : length word ≡ count
  pub spelled : is_value word ≡ true
  pub is : hexadecimal_of word ≡ number

-- so many digits show every value of the width
abbrev pub ShowsAll : ℕ → ℕ → Type 0
ShowsAll width count = (n : ℕ) → n < 2 ^ width → HasWord count n

pub record ReadsBack (v : BitVector) (word : List ℕ) : Type 0 where
  pub digits : list_all is_lower_digit word ≡ true
  pub number : hexadecimal_of word ≡ v.number
  pub enough : ShowsAll v.width (length word)
  pub least : (count : ℕ) → ShowsAll v.width count → length word ≤ count

abbrev pub WordReadsBack : Type 0
WordReadsBack = (v : BitVector) → IsBitVector v → ReadsBack v (value_text v)
