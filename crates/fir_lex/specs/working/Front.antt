-- What stands at the front of a text, within a line: the longest token, or bytes that are no token, or a fault.
use Rattle.std.specs.Prelude.{ℕ, suc, ◌+◌, ◌-◌, ◌^◌, List, [], ◌∷◌, ◌++◌, length, take, drop, take_while, position, Bool, true, false, ◌||◌, ◌&&◌, not, nat_eq, nat_le, nat_lt, if◌then◌else◌, Option, Some, None, option_map, codes, slice_index}
use Rattle.std.specs.List.{starts_with}
use Rattle.fir_lex.specs.Tokens.{Token, word, dash_word, integer, text, sign, annotations}
use Rattle.fir_lex.specs.working.Bytes.{ends_line, starts_with_byte, is_blank}
use Rattle.fir_base.specs.Bytes.{is_digit, is_word_start, is_word_byte}
use Rattle.fir_base.specs.working.Bytes.{starts_with_digit}
use Rattle.fir_base.specs.Digits.{decimal_value}

-- a token and its length; a number of bytes that are no token; a byte in no token, so many bytes on; a literal out of form or range
pub data Front : Type 0 where
  found : Token → ℕ → Front
  passed : ℕ → Front
  bad_byte : ℕ → ℕ → Front
  bad_literal : Front

-- the first of the four words with a dash that stands at the front
abbrev pub dash_word_at : List ℕ → Option (List ℕ)
dash_word_at bytes =
    if starts_with nat_eq bytes (codes "data-type") then Some (codes "data-type")
    else if starts_with nat_eq bytes (codes "read-latency") then Some (codes "read-latency")
    else if starts_with nat_eq bytes (codes "write-latency") then Some (codes "write-latency")
    else if starts_with nat_eq bytes (codes "read-under-write") then Some (codes "read-under-write")
    else None

-- a word with a dash is longer than the word that it begins with
abbrev pub dash_or_word : List ℕ → Option (List ℕ) → Front
dash_or_word bytes (Some w) = found (dash_word w) (length w)
dash_or_word bytes None = let w = take_while is_word_byte bytes in found (word w) (length w)

abbrev pub word_front : List ℕ → Front
word_front bytes = dash_or_word bytes (dash_word_at bytes)

-- digits behind a sign or none
abbrev pub integer_front : List ℕ → List ℕ → Front
integer_front plus_or_minus digits_on =
    let digits = take_while is_digit digits_on in
    if nat_lt (decimal_value digits) (2 ^ 128) then found (integer (plus_or_minus ++ digits)) (length plus_or_minus + length digits) else bad_literal

-- how many bytes stand before the quote that closes a string on its line; a backslash takes the byte behind it along
abbrev pub string_length : Bool → List ℕ → Option ℕ
string_length escaped [] = None
string_length escaped (b ∷ bs) =
    if ends_line (b ∷ bs) then None
    else if not escaped && nat_eq b 34 then Some 0
    else option_map suc (string_length (not escaped && nat_eq b 92) bs)

abbrev pub closed_string : List ℕ → Option ℕ → Front
closed_string content None = found (text content) (length content + 2)
closed_string content (Some k) = bad_byte (k + 1) (slice_index content k)

abbrev pub string_front : List ℕ → Option ℕ → Front
string_front bytes None = bad_literal
string_front bytes (Some n) = closed_string (take n bytes) (position (λ b. nat_le 128 b) (take n bytes))

-- how many bytes stand before the bracket that closes file information on its line; one behind a backslash closes nothing
abbrev pub information_length : Bool → List ℕ → Option ℕ
information_length backslash [] = None
information_length backslash (b ∷ bs) =
    if ends_line (b ∷ bs) then None
    else if not backslash && nat_eq b 93 then Some 0
    else option_map suc (information_length (nat_eq b 92) bs)

-- where an annotation block stands: at a depth of open brackets, or within a string at one, behind a backslash or not
pub data Within : Type 0 where
  in_brackets : ℕ → Within
  in_string : Bool → ℕ → Within

abbrev pub bracket_step : ℕ → ℕ → Within
bracket_step depth b =
    if nat_eq b 34 then in_string false depth else if nat_eq b 91 then in_brackets (depth + 1) else if nat_eq b 93 then in_brackets (depth - 1) else in_brackets depth

abbrev pub string_step : Bool → ℕ → ℕ → Within
string_step true depth b = in_string false depth
string_step false depth b = if nat_eq b 34 then in_brackets depth else in_string (nat_eq b 92) depth

abbrev pub within_step : Within → ℕ → Within
within_step (in_brackets depth) b = bracket_step depth b
within_step (in_string escaped depth) b = string_step escaped depth b

abbrev pub is_closed : Within → Bool
is_closed (in_brackets depth) = nat_eq depth 0
is_closed (in_string escaped depth) = false

-- how many bytes an annotation block has from here on, to the bracket that closes it
abbrev pub block_length : Within → List ℕ → Option ℕ
block_length within [] = None
block_length within (b ∷ bs) = let next = within_step within b in if is_closed next then Some 1 else option_map suc (block_length next bs)

-- how many bytes stand before the line's end, or the text's
abbrev pub comment_length : List ℕ → ℕ
comment_length [] = 0
comment_length (b ∷ bs) = if ends_line (b ∷ bs) then 0 else suc (comment_length bs)

abbrev pub information_front : Option ℕ → Front
information_front None = bad_byte 0 64
information_front (Some n) = passed (n + 3)

abbrev pub annotations_front : Option ℕ → Front
annotations_front None = bad_byte 0 37
annotations_front (Some n) = found annotations (n + 2)

-- ( ) [ ] { } , : . > always stand alone
abbrev pub is_single : ℕ → Bool
is_single b = nat_eq b 62 || (nat_eq b 40 || (nat_eq b 41 || (nat_eq b 91 || (nat_eq b 93 || (nat_eq b 123 || (nat_eq b 125 || (nat_eq b 44 || (nat_eq b 58 || nat_eq b 46))))))))

abbrev pub sign_front : List ℕ → Front
sign_front s = found (sign s) (length s)

-- a sign, or a byte in no token
abbrev pub sign_at : ℕ → List ℕ → Front
sign_at b bs =
    if nat_eq b 60 && starts_with_byte 61 bs then sign_front (codes "<=")
    else if nat_eq b 60 && starts_with_byte 45 bs then sign_front (codes "<-")
    else if nat_eq b 60 then sign_front (codes "<")
    else if nat_eq b 61 && starts_with_byte 62 bs then sign_front (codes "=>")
    else if nat_eq b 61 then sign_front (codes "=")
    else if is_single b then sign_front (b ∷ [])
    else bad_byte 0 b

-- a string, file information, an annotation block, a sign, or a byte in no token
abbrev pub marked_at : ℕ → List ℕ → Front
marked_at b bs =
    if nat_eq b 34 then string_front bs (string_length false bs)
    else if nat_eq b 64 && starts_with_byte 91 bs then information_front (information_length false (drop 1 bs))
    else if nat_eq b 37 && starts_with_byte 91 bs then annotations_front (block_length (in_brackets 1) (drop 1 bs))
    else sign_at b bs

-- within a line, at no line's end; the bytes behind b are bs
abbrev pub front : ℕ → List ℕ → Front
front b bs =
    if is_blank b then passed 1
    else if nat_eq b 59 then passed (comment_length (b ∷ bs))
    else if is_word_start b then word_front (b ∷ bs)
    else if is_digit b then integer_front [] (b ∷ bs)
    else if (nat_eq b 43 || nat_eq b 45) && starts_with_digit bs then integer_front (b ∷ []) bs
    else marked_at b bs
