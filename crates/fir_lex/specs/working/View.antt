-- What the code's values are, in plain data.
-- A token of the code is a kind and the bytes that spell it.
use Rattle.std.specs.Prelude.{◌≡◌, ℕ, ◌≤◌, List, [], ◌∷◌, length, slice_range, true}
use Rattle.fir_lex.specs.declared.token.Kind.{Kind}
use Rattle.fir_lex.specs.declared.token.Kind.TheVariants as kind
use Rattle.fir_lex.specs.declared.token.Item.{Item}
use Rattle.fir_lex.specs.declared.token.TokenRef.{TokenRef}
use Rattle.fir_lex.specs.declared.piece.Piece.{Piece}
use Rattle.fir_lex.specs.declared.piece.Piece.TheVariants as piece
use Rattle.fir_lex.specs.Tokens.{Token, Placed, word, dash_word, integer, text, sign, annotations, line_end, level_opens, level_closes}
use Rattle.fir_base.specs.Bytes.{is_word_start}
use Rattle.fir_lex.specs.working.Numbers.{HasNumber}
use Rattle.fir_lex.specs.working.Front.{Front, found, passed, bad_byte, bad_literal}

abbrev pub token_of : Kind → List ℕ → Token
token_of kind.Word s = word s
token_of kind.DashWord s = dash_word s
token_of (kind.Integer n) s = integer s
token_of kind.Text s = text s
token_of kind.Sign s = sign s
token_of kind.Annotations s = annotations
token_of kind.LineEnd s = line_end
token_of kind.LevelOpens s = level_opens
token_of kind.LevelCloses s = level_closes

abbrev pub placed : TokenRef → Placed
placed t = record { token = token_of t.kind t.spelling.now; place = t.place }

-- the bytes that spell a token stand in the text
pub record IsWithin (bytes : List ℕ) (item : Item) : Type 0 where
  pub ordered : item.start ≤ item.end
  pub within : item.end ≤ length bytes
  pub number : HasNumber item.kind (slice_range bytes item.start item.end)

abbrev pub spelled : List ℕ → Item → Placed
spelled bytes item = record { token = token_of item.kind (slice_range bytes item.start item.end); place = item.place }

-- what stands at the front of these bytes
abbrev pub front_of : List ℕ → Piece → Front
front_of bytes (piece.Found f) = found (token_of f.kind (slice_range bytes f.from f.upto)) f.length
front_of bytes (piece.Passed n) = passed n
front_of bytes (piece.BadByte n b) = bad_byte n b
front_of bytes piece.BadLiteral = bad_literal

-- it stands within them, and goes on by a byte at least; an integer has its number
abbrev pub IsWithinBytes : List ℕ → Piece → Type 0
IsWithinBytes bytes (piece.Found f) = (f.length ≤ length bytes) × HasNumber f.kind (slice_range bytes f.from f.upto)
IsWithinBytes bytes (piece.Passed n) = (1 ≤ n) × (n ≤ length bytes)
IsWithinBytes bytes (piece.BadByte n b) = n ≤ length bytes
IsWithinBytes bytes piece.BadLiteral = Unit {0}

abbrev pub AtWord : List ℕ → Type 0
AtWord [] = ⊥
AtWord (b ∷ bs) = is_word_start b ≡ true
