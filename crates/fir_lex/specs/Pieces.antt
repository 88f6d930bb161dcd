-- The pieces of a line (FIRRTL spec, "Details about Syntax").
-- A blank is a space or a tab. File information stands between `@[` and the next `]` that no backslash stands directly before, on the same line. All
-- else are tokens, the longest that begin there. A comment, `;` and what follows it on its line, ends the line and is no piece.
use Rattle.std.specs.Prelude.{◌≡◌, ◌⊎◌, ℕ, List, [], ◌∷◌, ◌++◌, flat_map, codes}
use Rattle.fir_lex.specs.Tokens.{Token}
use Rattle.fir_lex.specs.Spelled.{IsOnOneLine, IsSpelledToken}
use Rattle.fir_lex.specs.Longest.{IsLongest}

-- a blank; file information by what stands within it; a token with the bytes that spell it
pub data Piece : Type 0 where
  blank : (b : ℕ) → Piece
  information : (content : List ℕ) → Piece
  spelled : (t : Token) (s : List ℕ) → Piece

abbrev pub piece_bytes : Piece → List ℕ
piece_bytes (blank b) = b ∷ []
piece_bytes (information content) = codes "@[" ++ content ++ codes "]"
piece_bytes (spelled t s) = s

-- space or tab
abbrev pub IsBlank : ℕ → Type 0
IsBlank b = (b ≡ 32) ⊎ (b ≡ 9)

abbrev pub EndsIn : ℕ → List ℕ → Type 0
EndsIn b bytes = (front : List ℕ) × (bytes ≡ front ++ b ∷ [])

-- a backslash stands before each bracket in it, and none before the one that closes it
abbrev pub IsInformation : List ℕ → Type 0
IsInformation content =
    IsOnOneLine content × ((front back : List ℕ) → content ≡ front ++ 93 ∷ back → EndsIn 92 front) × (EndsIn 92 content → ⊥)

-- a piece, with the bytes behind it
abbrev pub IsPiece : Piece → List ℕ → Type 0
IsPiece (blank b) behind = IsBlank b
IsPiece (information content) behind = IsInformation content
IsPiece (spelled t s) behind = IsSpelledToken t s × IsLongest t behind

abbrev pub bytes_of_pieces : List Piece → List ℕ
bytes_of_pieces = flat_map piece_bytes

abbrev pub ArePieces : List Piece → List ℕ → Type 0
ArePieces [] behind = Unit {0}
ArePieces (p ∷ ps) behind = IsPiece p (bytes_of_pieces ps ++ behind) × ArePieces ps behind
