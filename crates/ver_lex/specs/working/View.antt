-- What the code's values are, in plain data.
-- A token of the code is a kind and the bytes that spell it.
use Rattle.std.specs.Prelude.{ℕ, ◌+◌, ◌*◌, ◌≤◌, List, length, drop, take_while, slice_index, slice_range, fold, Option, Some, None}
use Rattle.fir_base.specs.Bytes.{is_digit}
use Rattle.fir_base.specs.Digits.{digit_value, decimal_value}
use Rattle.ver_ast.specs.Tokens.{VToken, word, digit_zero, number, constant, sign, double, signed_shift, signed_word, question_digit}
use Rattle.ver_ast.specs.Pieces.{PlacedToken}
use Rattle.ver_lex.specs.declared.kind.Kind.{Kind}
use Rattle.ver_lex.specs.declared.kind.Kind.TheVariants as kind
use Rattle.ver_lex.specs.declared.kind.Item.{Item}
use Rattle.ver_lex.specs.working.Bytes.{radix_of}
use Rattle.ver_lex.specs.working.Fronts.{digits_length}

-- the number of a digit, and 0 for any other byte
abbrev pub digit_or_zero : Option ℕ → ℕ
digit_or_zero None = 0
digit_or_zero (Some d) = d

-- the number of digits with this radix
abbrev pub number_in : ℕ → List ℕ → ℕ
number_in radix = fold (λ n b. radix * n + digit_or_zero (digit_value b)) 0

-- the width of a constant stands before its quote, and its number behind its base
abbrev pub width_of : List ℕ → ℕ
width_of s = decimal_value (take_while is_digit s)

abbrev pub value_of : List ℕ → ℕ
value_of s = number_in (radix_of (slice_index s (digits_length s + 1))) (drop (digits_length s + 2) s)

abbrev pub token_of : Kind → List ℕ → VToken
token_of kind.Word s = word s
token_of kind.Zero s = digit_zero
token_of kind.Number s = number (decimal_value s)
token_of kind.Constant s = constant (width_of s) (value_of s)
token_of kind.Sign s = sign (slice_index s 0)
token_of kind.Double s = double (slice_index s 0) (slice_index s 1)
token_of kind.SignedShift s = signed_shift
token_of kind.SignedWord s = signed_word
token_of kind.QuestionDigit s = question_digit

-- so many bytes at least are read of its spelling
abbrev pub least_bytes : Kind → List ℕ → ℕ
least_bytes kind.Constant s = digits_length s + 2
least_bytes kind.Sign s = 1
least_bytes kind.Double s = 2
least_bytes _ s = 0

abbrev pub HasBytes : Kind → List ℕ → Type 0
HasBytes k s = least_bytes k s ≤ length s

-- the bytes that spell a token stand in the text
pub record IsWithin (bytes : List ℕ) (item : Item) : Type 0 where
  pub ordered : item.start ≤ item.end
  pub within : item.end ≤ length bytes
  pub has_bytes : HasBytes item.kind (slice_range bytes item.start item.end)

abbrev pub spelled : List ℕ → Item → PlacedToken
spelled bytes item = record { token = token_of item.kind (slice_range bytes item.start item.end); place = item.place }
