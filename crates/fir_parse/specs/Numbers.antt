-- The numbers of integers and of literals (FIRRTL spec, "Details about Syntax", "Literals").
use Rattle.std.specs.Prelude.{ℕ, ◌+◌, ◌*◌, ◌^◌, List, [], ◌∷◌, Bool, true, false, not, ◌&&◌, ◌||◌, nat_eq, nat_lt, Option, Some, None, if◌then◌else◌}
use Rattle.fir_base.specs.Digits.{digit_value, decimal_value}
use Rattle.fir_ast.specs.declared.place.Place.{Place}
use Rattle.fir_ast.specs.declared.expressions.Literal.{Literal}

-- whether it is below zero, and how far from zero
pub record Numeral : Type 0 where
  pub negative : Bool
  pub magnitude : ℕ

abbrev pub is_in_range : ℕ → Bool
is_in_range n = nat_lt n (2 ^ 128)

-- an integer of the text: digits, behind a sign or none
abbrev pub integer_value : List ℕ → Numeral
integer_value [] = record { negative = false; magnitude = 0 }
integer_value (b ∷ bs) =
    if nat_eq b 45 then record { negative = true; magnitude = decimal_value bs }
    else if nat_eq b 43 then record { negative = false; magnitude = decimal_value bs }
    else record { negative = false; magnitude = decimal_value (b ∷ bs) }

abbrev pub has_sign : List ℕ → Bool
has_sign [] = false
has_sign (b ∷ bs) = nat_eq b 43 || nat_eq b 45

abbrev pub next_value : ℕ → ℕ → Option ℕ → Option ℕ
next_value radix n None = None
next_value radix n (Some d) = if nat_lt d radix then Some (n * radix + d) else None

-- digits of the radix behind those that are read
abbrev pub digits_from : ℕ → Option ℕ → List ℕ → Option ℕ
digits_from radix None bs = None
digits_from radix (Some n) [] = Some n
digits_from radix (Some n) (b ∷ bs) = digits_from radix (next_value radix n (digit_value b)) bs

-- one digit at least
abbrev pub digits_value : ℕ → List ℕ → Option ℕ
digits_value radix [] = None
digits_value radix (b ∷ bs) = digits_from radix (Some 0) (b ∷ bs)

abbrev pub numeral : Bool → Option ℕ → Option Numeral
numeral negative None = None
numeral negative (Some n) = Some (record { negative = negative; magnitude = n })

-- a sign or none, then digits
abbrev pub signed_digits : ℕ → List ℕ → Option Numeral
signed_digits radix [] = None
signed_digits radix (b ∷ bs) =
    if nat_eq b 45 then numeral true (digits_value radix bs)
    else if nat_eq b 43 then numeral false (digits_value radix bs)
    else numeral false (digits_value radix (b ∷ bs))

-- the letter of a radix: b, o or h
abbrev pub radix_of : ℕ → Option ℕ
radix_of b =
    if nat_eq b 98 then Some 2
    else if nat_eq b 111 then Some 8
    else if nat_eq b 104 then Some 16
    else None

-- behind a sign a letter and digits
abbrev pub behind_sign : Bool → List ℕ → Option Numeral
behind_sign negative [] = None
behind_sign negative (b ∷ bs) = by_radix (radix_of b)
  where
    by_radix : Option ℕ → Option Numeral
    by_radix None = None
    by_radix (Some radix) = numeral negative (digits_value radix bs)

-- a string of a literal: a letter, a sign before or after it or none, and digits
abbrev pub text_value : List ℕ → Option Numeral
text_value [] = None
text_value (b ∷ bs) =
    if nat_eq b 45 then behind_sign true bs
    else if nat_eq b 43 then behind_sign false bs
    else by_radix (radix_of b)
  where
    by_radix : Option ℕ → Option Numeral
    by_radix None = None
    by_radix (Some radix) = signed_digits radix bs

-- a numeral that a literal may have: below 2^128 in size, and for a UInt not negative
abbrev pub is_allowed : Bool → Option Numeral → Bool
is_allowed signed None = false
is_allowed signed (Some n) = is_in_range n.magnitude && (signed || not (n.negative && not (nat_eq n.magnitude 0)))

abbrev pub literal_of : Place → Bool → Option ℕ → Option Numeral → Literal
literal_of p signed width None = record { place = p; signed = signed; width = width; negative = false; magnitude = 0 }
literal_of p signed width (Some n) =
    record { place = p; signed = signed; width = width; negative = n.negative && not (nat_eq n.magnitude 0); magnitude = n.magnitude }
