-- Numbers with a sign.
use Rattle.std.proofs.Common.{◌≡◌, ℕ, ◌≤◌, Bool, true, false, List, [], ◌∷◌, length, take, drop, ◌-◌, get_or, Option, Some, None, refl, arith}
use Rattle.std.specs.Prelude.{nat_eq}
use Rattle.std.proofs.lemmas.Grind.{common_steps}
use Rattle.fir_base.specs.Digits.{decimal_value}
use Rattle.fir_lex.specs.working.Numbers.{digits_of}
use Rattle.fir_parse.specs.Numbers.{numeral, is_in_range, integer_value, digits_value, signed_digits}
use Rattle.fir_parse.specs.working.Ranges.{has_minus, number_within, numeral_within}

by_range : (negative : Bool) (n : ℕ) (b : Bool) → is_in_range n ≡ b → numeral negative (number_within (Some n)) ≡ numeral_within (numeral negative (Some n))
by_range negative n true e = rw e refl
by_range negative n false e = rw e refl

-- a sign changes no range
pub signed_within : (negative : Bool) (o : Option ℕ) → numeral negative (number_within o) ≡ numeral_within (numeral negative o)
signed_within negative None = refl
signed_within negative (Some n) = by_range negative n (is_in_range n) refl

-- the numeral of an integer, by its first byte
integer_by_sign : (b : ℕ) (bs : List ℕ) (n : ℕ) (negative t u : Bool) → nat_eq b 45 ≡ t → nat_eq b 43 ≡ u → n ≡ decimal_value (digits_of (b ∷ bs)) → negative ≡ has_minus (b ∷ bs) → numeral negative (Some n) ≡ Some (integer_value (b ∷ bs))
integer_by_sign b bs n negative true true e f number minus = rw (number, minus, e, f) refl
integer_by_sign b bs n negative true false e f number minus = rw (number, minus, e, f) refl
integer_by_sign b bs n negative false true e f number minus = rw (number, minus, e, f) refl
integer_by_sign b bs n negative false false e f number minus = rw (number, minus, e, f) refl

pub integer_is : (s : List ℕ) (n : ℕ) (negative : Bool) → n ≡ decimal_value (digits_of s) → negative ≡ has_minus s → numeral negative (Some n) ≡ Some (integer_value s)
integer_is [] n negative number minus = rw (number, minus) refl
integer_is (b ∷ bs) n negative number minus = integer_by_sign b bs n negative (nat_eq b 45) (nat_eq b 43) refl refl number minus

-- what a pattern takes behind a first byte
pub rest_taken : (text : List ℕ) → take (length text - 1) (drop 1 text) ≡ drop 1 text
rest_taken text = grind (arith, common_steps)

pub behind_minus : (radix : ℕ) (text : List ℕ) → 1 ≤ length text → get_or text 0 0 ≡ 45 → signed_digits radix text ≡ numeral true (digits_value radix (drop 1 text))
behind_minus radix [] h e = absurd (omega (arith, h))
behind_minus radix (b ∷ bs) h e = rw e refl

pub behind_plus : (radix : ℕ) (text : List ℕ) → 1 ≤ length text → get_or text 0 0 ≡ 43 → signed_digits radix text ≡ numeral false (digits_value radix (drop 1 text))
behind_plus radix [] h e = absurd (omega (arith, h))
behind_plus radix (b ∷ bs) h e = rw e refl
