-- What stands at the front of a text: white space, a comment, or the longest token; or none of them.
use Rattle.std.specs.Prelude.{ℕ, suc, ◌+◌, List, [], ◌∷◌, length, drop, take_while, Bool, false, ◌&&◌, not, nat_eq, if◌then◌else◌, Option, Some, None, option_map, codes}
use Rattle.std.specs.List.{starts_with}
use Rattle.fir_base.specs.Bytes.{is_word_start, is_word_byte, is_digit}
use Rattle.ver_ast.specs.working.TokenSteps.{is_blank, is_sign, is_double}
use Rattle.ver_lex.specs.declared.kind.Kind.{Kind}
use Rattle.ver_lex.specs.declared.kind.Kind.TheVariants as kind
use Rattle.ver_lex.specs.declared.piece.Piece.{Piece}
use Rattle.ver_lex.specs.declared.piece.Piece.TheVariants as piece
use Rattle.ver_lex.specs.working.Bytes.{starts_with_byte, is_base, radix_of, is_digit_below}

-- ---- words, numbers and constants

abbrev pub word_length : List ℕ → ℕ
word_length bytes = length (take_while is_word_byte bytes)

abbrev pub digits_length : List ℕ → ℕ
digits_length bytes = length (take_while is_digit bytes)

abbrev pub digits_below : ℕ → List ℕ → ℕ
digits_below radix bytes = length (take_while (is_digit_below radix) bytes)

-- digits, if there are any, and two bytes before them
abbrev pub with_two : ℕ → ℕ
with_two n = if nat_eq n 0 then 0 else n + 2

-- how many bytes a quote, a base and its digits have at the front; 0 where these do not stand there
abbrev pub based_length : List ℕ → ℕ
based_length [] = 0
based_length (q ∷ []) = 0
based_length (q ∷ l ∷ ds) = if nat_eq q 39 && is_base l then with_two (digits_below (radix_of l) ds) else 0

abbrev pub number_kind : List ℕ → ℕ → Kind
number_kind bytes n = if nat_eq n 1 && starts_with_byte 48 bytes then kind.Zero else kind.Number

-- so many digits, and so many bytes of a constant behind them
abbrev pub number_or_constant : List ℕ → ℕ → ℕ → Piece
number_or_constant bytes n based =
    if nat_eq based 0 then piece.Token (number_kind bytes n) n
    else if starts_with_byte 63 (drop (n + based) bytes) then piece.Questioned (n + based)
    else piece.Token kind.Constant (n + based)

abbrev pub number_front : List ℕ → Piece
number_front bytes = number_or_constant bytes (digits_length bytes) (based_length (drop (digits_length bytes) bytes))

-- ---- comments

-- how many bytes stand before the line's end, or the text's
abbrev pub line_length : List ℕ → ℕ
line_length bytes = length (take_while (λ b. not (nat_eq b 10)) bytes)

abbrev pub ends_block : List ℕ → Bool
ends_block [] = false
ends_block (b ∷ bs) = nat_eq b 42 && starts_with_byte 47 bs

-- how many bytes stand before the end of a block comment
abbrev pub block_length : List ℕ → Option ℕ
block_length [] = None
block_length (b ∷ bs) = if ends_block (b ∷ bs) then Some 0 else option_map suc (block_length bs)

abbrev pub block_front : Option ℕ → Piece
block_front None = piece.Nothing
block_front (Some n) = piece.Passed (n + 4)

-- ---- signs

abbrev pub begins_double : List ℕ → Bool
begins_double [] = false
begins_double (a ∷ []) = false
begins_double (a ∷ b ∷ bs) = is_double a b

abbrev pub begins_sign : List ℕ → Bool
begins_sign [] = false
begins_sign (a ∷ bs) = is_sign a

abbrev pub sign_front : List ℕ → Piece
sign_front bytes =
    if starts_with nat_eq bytes (codes ">>>") then piece.Token kind.SignedShift 3
    else if begins_double bytes then piece.Token kind.Double 2
    else if begins_sign bytes then piece.Token kind.Sign 1
    else piece.Nothing

-- ---- all together

abbrev pub begins_blank : List ℕ → Bool
begins_blank [] = false
begins_blank (b ∷ bs) = is_blank b

abbrev pub begins_word : List ℕ → Bool
begins_word [] = false
begins_word (b ∷ bs) = is_word_start b

abbrev pub begins_digit : List ℕ → Bool
begins_digit [] = false
begins_digit (b ∷ bs) = is_digit b

-- what begins with a mark
abbrev pub marked_front : List ℕ → Piece
marked_front bytes =
    if starts_with nat_eq bytes (codes "//") then piece.Passed (2 + line_length (drop 2 bytes))
    else if starts_with nat_eq bytes (codes "/*") then block_front (block_length (drop 2 bytes))
    else if starts_with nat_eq bytes (codes "$signed") then piece.Token kind.SignedWord 7
    else sign_front bytes

abbrev pub front : List ℕ → Piece
front bytes =
    if begins_blank bytes then piece.Passed 1
    else if begins_word bytes then piece.Token kind.Word (word_length bytes)
    else if begins_digit bytes then number_front bytes
    else marked_front bytes
