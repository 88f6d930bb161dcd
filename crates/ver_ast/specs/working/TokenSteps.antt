-- The tokens of a text, byte by byte.
-- White space and comments are free between tokens, and the longest token is taken. A constant is one token: a width, a quote, a letter for the base,
-- and digits of it. A text has no tokens where a byte is in none, or where a constant is not ended or a block comment not closed.
use Rattle.std.specs.Prelude.{ℕ, ◌+◌, ◌-◌, ◌*◌, List, [], ◌∷◌, ◌++◌, length, slice_index, codes, Bool, false, ◌||◌, ◌&&◌, nat_eq, nat_lt, if◌then◌else◌, Option, Some, None, option_map}
use Rattle.std.specs.List.{list_any}
use Rattle.fir_base.specs.Bytes.{is_digit, is_word_start, is_word_byte}
use Rattle.fir_base.specs.Digits.{digit_value}
use Rattle.ver_ast.specs.Tokens.{VToken, word, digit_zero, number, constant, sign, double, signed_shift, signed_word, question_digit, Base, binary, decimal, hexadecimal, radix, lone_signs, doubles}

-- what is not yet closed: a word; a byte that may begin a longer sign or a comment; `>>`; so many bytes of `$signed`; a number, with whether it is the
-- one digit 0 so far; a constant behind its quote, behind its base, and within its digits; a comment; a comment's star
pub data Pending : Type 0 where
  between : Pending
  in_word : List ℕ → Pending
  in_sign : ℕ → Pending
  in_shift : Pending
  in_signed : ℕ → Pending
  in_number : Bool → ℕ → Pending
  at_base : ℕ → Pending
  at_digits : ℕ → Base → Pending
  in_constant : ℕ → Base → ℕ → Pending
  in_line_comment : Pending
  in_block_comment : Pending
  in_block_star : Pending

abbrev pub is_sign : ℕ → Bool
is_sign b = list_any (λ c. nat_eq b c) lone_signs

-- (* *) <= >= == != << >>
abbrev pub is_double : ℕ → ℕ → Bool
is_double a b = list_any (λ d. nat_eq a d.0 && nat_eq b d.1) doubles

-- a byte with which a longer sign or a comment begins: ( * < > = ! /
abbrev pub is_start : ℕ → Bool
is_start b = list_any (λ c. nat_eq b c) (codes "(*<>=!/")

-- space, tab, carriage return, newline
abbrev pub is_blank : ℕ → Bool
is_blank b = nat_eq b 32 || (nat_eq b 9 || (nat_eq b 13 || nat_eq b 10))

abbrev pub number_token : Bool → ℕ → VToken
number_token one_zero value = if one_zero then digit_zero else number value

-- the tokens that a byte closes, and what is pending behind it
abbrev pub TokenStep : Type 0
TokenStep = Option (List VToken × Pending)

-- a byte where nothing is pending
abbrev pub begin : ℕ → TokenStep
begin b =
    if is_word_start b then Some ([], in_word (b ∷ []))
    else if is_digit b then Some ([], in_number (nat_eq b 48) (b - 48))
    else if is_start b then Some ([], in_sign b)
    else if is_sign b then Some (sign b ∷ [], between)
    else if is_blank b then Some ([], between)
    else if nat_eq b 36 then Some ([], in_signed 1)
    else None

-- a byte that closes the pending token
abbrev pub close_and_begin : VToken → ℕ → TokenStep
close_and_begin token b = option_map (λ s. (token ∷ s.0, s.1)) (begin b)

-- the base of a letter
abbrev pub base_of : ℕ → Option Base
base_of b = if nat_eq b 104 then Some hexadecimal else if nat_eq b 100 then Some decimal else if nat_eq b 98 then Some binary else None

-- the number of a digit of the base
abbrev pub digit_below : ℕ → Option ℕ → Option ℕ
digit_below limit None = None
digit_below limit (Some d) = if nat_lt d limit then Some d else None

abbrev pub digit_in : Base → ℕ → Option ℕ
digit_in base b = digit_below (radix base) (digit_value b)

-- a letter behind the quote
abbrev pub with_base : ℕ → Option Base → TokenStep
with_base width None = None
with_base width (Some base) = Some ([], at_digits width base)

-- the first digit
abbrev pub with_digit : ℕ → Base → Option ℕ → TokenStep
with_digit width base None = None
with_digit width base (Some d) = Some ([], in_constant width base d)

-- a byte behind a digit: a further digit, a `?`, or the end
abbrev pub with_next : ℕ → Base → ℕ → Option ℕ → ℕ → TokenStep
with_next width base value (Some d) b = Some ([], in_constant width base (radix base * value + d))
with_next width base value None b =
    if nat_eq b 63 then Some (constant width value ∷ question_digit ∷ [], between)
    else close_and_begin (constant width value) b

-- a byte behind one that is a sign alone
abbrev pub behind_lone_sign : ℕ → ℕ → TokenStep
behind_lone_sign a b = if is_sign a then close_and_begin (sign a) b else None

-- a byte behind one that may begin a longer sign or a comment
abbrev pub with_second : ℕ → ℕ → TokenStep
with_second a b =
    if nat_eq a 62 && nat_eq b 62 then Some ([], in_shift)
    else if is_double a b then Some (double a b ∷ [], between)
    else if nat_eq a 47 && nat_eq b 47 then Some ([], in_line_comment)
    else if nat_eq a 47 && nat_eq b 42 then Some ([], in_block_comment)
    else behind_lone_sign a b

abbrev pub signed_bytes : List ℕ
signed_bytes = codes "$signed"

-- a byte behind the first k of `$signed`
abbrev pub with_signed : ℕ → ℕ → TokenStep
with_signed k b =
    if nat_eq b (slice_index signed_bytes k)
    then (if nat_eq (k + 1) (length signed_bytes) then Some (signed_word ∷ [], between) else Some ([], in_signed (k + 1)))
    else None

abbrev pub step : Pending → ℕ → TokenStep
step between b = begin b
step (in_word w) b = if is_word_byte b then Some ([], in_word (w ++ b ∷ [])) else close_and_begin (word w) b
step (in_sign a) b = with_second a b
step in_shift b = if nat_eq b 62 then Some (signed_shift ∷ [], between) else close_and_begin (double 62 62) b
step (in_signed k) b = with_signed k b
step (in_number one_zero value) b =
    if is_digit b then Some ([], in_number false (10 * value + (b - 48)))
    else if nat_eq b 39 then Some ([], at_base value)
    else close_and_begin (number_token one_zero value) b
step (at_base width) b = with_base width (base_of b)
step (at_digits width base) b = with_digit width base (digit_in base b)
step (in_constant width base value) b = with_next width base value (digit_in base b) b
step in_line_comment b = Some ([], if nat_eq b 10 then between else in_line_comment)
step in_block_comment b = Some ([], if nat_eq b 42 then in_block_star else in_block_comment)
step in_block_star b = Some ([], if nat_eq b 47 then between else if nat_eq b 42 then in_block_star else in_block_comment)

-- the tokens at the end of the text
abbrev pub last : Pending → Option (List VToken)
last between = Some []
last (in_word w) = Some (word w ∷ [])
last (in_sign a) = if is_sign a then Some (sign a ∷ []) else None
last in_shift = Some (double 62 62 ∷ [])
last (in_signed k) = None
last (in_number one_zero value) = Some (number_token one_zero value ∷ [])
last (at_base width) = None
last (at_digits width base) = None
last (in_constant width base value) = Some (constant width value ∷ [])
last in_line_comment = Some []
last in_block_comment = None
last in_block_star = None

-- the closed tokens stand before those of the rest
abbrev pub go_on : TokenStep → (Pending → Option (List VToken)) → Option (List VToken)
go_on None rest = None
go_on (Some s) rest = option_map (λ ts. s.0 ++ ts) (rest s.1)

unfoldable pub tokens_from : Pending → List ℕ → Option (List VToken)
tokens_from pending [] = last pending
tokens_from pending (b ∷ bs) = go_on (step pending b) (λ next. tokens_from next bs)

abbrev pub tokens : List ℕ → Option (List VToken)
tokens = tokens_from between
