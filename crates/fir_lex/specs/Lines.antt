-- The lines of a text (FIRRTL spec, "Details about Syntax").
-- A line ends with \n or \r\n; the last may lack it. A blank line, or one with a comment alone, counts for nothing: it is idle. Every other line is
-- spaces without a tab, pieces, of which the first is no blank, and a comment or none.
use Rattle.std.specs.Prelude.{◌≡◌, ◌⊎◌, ℕ, List, [], ◌∷◌, ◌++◌, All, flat_map, replicate}
use Rattle.fir_lex.specs.Spelled.{IsOnOneLine}
use Rattle.fir_lex.specs.Pieces.{Piece, blank, information, spelled, IsBlank, EndsIn, bytes_of_pieces, ArePieces}

-- an idle line, and any other; a comment or an end that a line lacks has no bytes
pub data Line : Type 0 where
  idle : (blanks comment end : List ℕ) → Line
  full : (spaces : ℕ) (pieces : List Piece) (comment end : List ℕ) → Line

abbrev pub line_bytes : Line → List ℕ
line_bytes (idle blanks comment end) = blanks ++ comment ++ end
line_bytes (full spaces pieces comment end) = replicate spaces 32 ++ bytes_of_pieces pieces ++ comment ++ end

abbrev pub text_of : List Line → List ℕ
text_of = flat_map line_bytes

-- none, or a semicolon and bytes on one line
abbrev pub IsComment : List ℕ → Type 0
IsComment comment = (comment ≡ []) ⊎ ((bytes : List ℕ) × (comment ≡ 59 ∷ bytes) × IsOnOneLine bytes)

-- \n or \r\n, or nothing at the end of the text; a \r directly before the \n is of the line's end, and not of the comment
abbrev pub EndsLine : List ℕ → List ℕ → List ℕ → Type 0
EndsLine comment end behind = (end ≡ 10 ∷ []) × (EndsIn 13 comment → ⊥) ⊎ (end ≡ 13 ∷ 10 ∷ []) ⊎ (end ≡ []) × (behind ≡ [])

-- the first piece is no blank
abbrev pub BeginsLine : List Piece → Type 0
BeginsLine [] = ⊥
BeginsLine (blank b ∷ ps) = ⊥
BeginsLine (information content ∷ ps) = Unit {0}
BeginsLine (spelled t s ∷ ps) = Unit {0}

-- a line, with the bytes behind it
abbrev pub IsLine : Line → List ℕ → Type 0
IsLine (idle blanks comment end) behind = All IsBlank blanks × IsComment comment × EndsLine comment end behind
IsLine (full spaces pieces comment end) behind =
    BeginsLine pieces × ArePieces pieces (comment ++ end ++ behind) × IsComment comment × EndsLine comment end behind

abbrev pub AreLines : List Line → Type 0
AreLines [] = Unit {0}
AreLines (l ∷ ls) = IsLine l (text_of ls) × AreLines ls
