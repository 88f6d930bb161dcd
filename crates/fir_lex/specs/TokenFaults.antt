-- The first fault of a text that shows in its tokens (FIRRTL spec, "Details about Syntax").
-- Whole lines stand before it. On its own line it is the first tab of the indentation (E02); or the indentation, where that meets no open level (E02) and
-- where no byte in no token stands behind it; or, behind other pieces or none, a byte in no token, a byte past 127 in a string (E01), an integer of
-- 2^128 or more, or a string that is not closed on the line (E03). A byte in no token counts before the indentation that it stands behind.
use Rattle.std.specs.Prelude.{◌≡◌, ◌≢◌, ◌⊎◌, ℕ, ◌<◌, ◌≤◌, ◌^◌, List, [], ◌∷◌, ◌++◌, All, replicate, codes, decimal}
use Rattle.fir_base.specs.Digits.{decimal_value}
use Rattle.fir_ast.specs.declared.place.Place.{Place}
use Rattle.fir_ast.specs.Faults.{Fault, E01, E02, E03}
use Rattle.fir_ast.specs.Texts.{hex_byte}
use Rattle.fir_lex.specs.Enclosed.{AreCharacters}
use Rattle.fir_lex.specs.Tokens.{Token}
use Rattle.fir_lex.specs.Spelled.{IsDigit, IsOnOneLine}
use Rattle.fir_lex.specs.Longest.{BeginsWithNo}
use Rattle.fir_lex.specs.Pieces.{Piece, piece_bytes, bytes_of_pieces, IsBlank, IsPiece, ArePieces}
use Rattle.fir_lex.specs.Lines.{Line, idle, full, text_of, BeginsLine, IsLine}
use Rattle.fir_lex.specs.TokensOf.{OpensLevel, ClosesLevels, place_after}

abbrev pub byte_fault : Place → ℕ → Fault
byte_fault p b = record { code = E01; place = p; evidence = codes "byte " ++ hex_byte b }

abbrev pub indent_fault : Place → ℕ → Fault
indent_fault p spaces = record { code = E02; place = p; evidence = codes "indent " ++ decimal spaces }

abbrev pub tab_fault : Place → Fault
tab_fault p = record { code = E02; place = p; evidence = codes "tab" }

abbrev pub literal_fault : Place → Fault
literal_fault p = record { code = E03; place = p; evidence = codes "literal" }

-- a piece begins there
abbrev pub BeginsPiece : List ℕ → Type 0
BeginsPiece bytes = (p : Piece) × (behind : List ℕ) × (bytes ≡ piece_bytes p ++ behind) × IsPiece p behind

-- an integer begins there that is 2^128 or more in size
abbrev pub BeginsTooLarge : List ℕ → Type 0
BeginsTooLarge bytes =
    (plus_or_minus : List ℕ) × (digits : List ℕ) × (behind : List ℕ) × (bytes ≡ plus_or_minus ++ digits ++ behind)
    × ((plus_or_minus ≡ []) ⊎ (plus_or_minus ≡ codes "+") ⊎ (plus_or_minus ≡ codes "-"))
    × (digits ≢ []) × All IsDigit digits × BeginsWithNo IsDigit behind × (2 ^ 128 ≤ decimal_value digits)

-- a quote stands there, and none closes it on its line
abbrev pub BeginsUnclosed : List ℕ → Type 0
BeginsUnclosed bytes =
    (bs : List ℕ) × (bytes ≡ 34 ∷ bs)
    × ((content behind : List ℕ) → bs ≡ content ++ 34 ∷ behind → AreCharacters content → IsOnOneLine content → ⊥)

-- neither the line nor the text ends there, and no comment begins
abbrev pub GoesOn : List ℕ → Type 0
GoesOn [] = ⊥
GoesOn (b ∷ bs) = (b ≢ 10) × (b ≡ 13 → BeginsWithNo (λ next. next ≡ 10) bs) × (b ≢ 59)

-- the byte at the front is in no token, and may not stand between tokens; a quote always begins a string, closed or not
abbrev pub BeginsBadly : ℕ → List ℕ → Type 0
BeginsBadly b bs = GoesOn (b ∷ bs) × (b ≢ 34) × (BeginsPiece (b ∷ bs) → ⊥) × (BeginsTooLarge (b ∷ bs) → ⊥)

-- behind the bytes before it a byte is in no token
abbrev pub IsInNoToken : List ℕ → List ℕ → Place → ℕ → Type 0
IsInNoToken before bytes p b = (bs : List ℕ) × (bytes ≡ b ∷ bs) × BeginsBadly b bs × (p ≡ place_after before)

-- a string begins there that is closed on its line, and this is the first byte past 127 in it
abbrev pub IsPastAscii : List ℕ → List ℕ → Place → ℕ → Type 0
IsPastAscii before bytes p b =
    (front : List ℕ) × (back : List ℕ) × (behind : List ℕ) × (bytes ≡ 34 ∷ (front ++ b ∷ back) ++ 34 ∷ behind)
    × AreCharacters (front ++ b ∷ back) × IsOnOneLine (front ++ b ∷ back) × All (λ c. c < 128) front × (128 ≤ b) × (p ≡ place_after (before ++ 34 ∷ front))

-- the fault at the front of the bytes behind some others, where a token should begin
abbrev pub FrontFault : List ℕ → List ℕ → Fault → Type 0
FrontFault before bytes f =
    ((p : Place) × (b : ℕ) × (f ≡ byte_fault p b) × (IsInNoToken before bytes p b ⊎ IsPastAscii before bytes p b))
    ⊎ ((f ≡ literal_fault (place_after before)) × (BeginsTooLarge bytes ⊎ BeginsUnclosed bytes))

-- a line of so many spaces meets these levels, which are then those behind it
abbrev pub Meets : ℕ → List ℕ → List ℕ → Type 0
Meets spaces levels after = (moves : List Token) × (OpensLevel spaces levels moves after ⊎ ClosesLevels spaces levels moves after)

-- what stands behind the blanks of a line that is not idle
abbrev pub IsNotIdle : List ℕ → Type 0
IsNotIdle bytes = GoesOn bytes × BeginsWithNo IsBlank bytes

-- the first tab of an indentation
abbrev pub HasTab : List ℕ → List ℕ → Place → Type 0
HasTab before bytes p =
    (spaces : ℕ) × (blanks : List ℕ) × (behind : List ℕ) × (bytes ≡ replicate spaces 32 ++ 9 ∷ blanks ++ behind)
    × All IsBlank blanks × IsNotIdle behind × (p ≡ place_after (before ++ replicate spaces 32))

-- so many spaces that meet no level, and what stands behind them
abbrev pub MeetsNone : List ℕ → ℕ → List ℕ → List ℕ → Type 0
MeetsNone levels spaces bytes behind =
    (bytes ≡ replicate spaces 32 ++ behind) × IsNotIdle behind × ((after : List ℕ) → Meets spaces levels after → ⊥)

abbrev pub IsIndent : List ℕ → List ℕ → List ℕ → Place → ℕ → Type 0
IsIndent before levels bytes p spaces =
    (behind : List ℕ) × MeetsNone levels spaces bytes behind × (p ≡ place_after (before ++ replicate spaces 32))
    × ((b : ℕ) (bs : List ℕ) → behind ≡ b ∷ bs → BeginsBadly b bs → ⊥)

-- a byte in no token behind spaces that meet no level
abbrev pub IsBadBehindIndent : List ℕ → List ℕ → List ℕ → Place → ℕ → Type 0
IsBadBehindIndent before levels bytes p b =
    (spaces : ℕ) × (behind : List ℕ) × MeetsNone levels spaces bytes behind × IsInNoToken (before ++ replicate spaces 32) behind p b

-- the first piece of a line, where it has one, is no blank
abbrev pub MayBeginLine : List Piece → Type 0
MayBeginLine [] = Unit {0}
MayBeginLine (p ∷ ps) = BeginsLine (p ∷ ps)

-- behind spaces that meet a level, and pieces
abbrev pub IsWithinLine : List ℕ → List ℕ → List ℕ → Fault → Type 0
IsWithinLine before levels bytes f =
    (spaces : ℕ) × (pieces : List Piece) × (behind : List ℕ) × (after : List ℕ)
    × (bytes ≡ replicate spaces 32 ++ bytes_of_pieces pieces ++ behind) × Meets spaces levels after
    × MayBeginLine pieces × ArePieces pieces behind × FrontFault (before ++ replicate spaces 32 ++ bytes_of_pieces pieces) behind f

-- the fault of the line that begins there, behind the bytes before it and with these levels open
abbrev pub LineFault : List ℕ → List ℕ → List ℕ → Fault → Type 0
LineFault before levels bytes f =
    ((p : Place) × (f ≡ tab_fault p) × HasTab before bytes p)
    ⊎ ((p : Place) × (spaces : ℕ) × (f ≡ indent_fault p spaces) × IsIndent before levels bytes p spaces)
    ⊎ ((p : Place) × (b : ℕ) × (f ≡ byte_fault p b) × IsBadBehindIndent before levels bytes p b)
    ⊎ IsWithinLine before levels bytes f

-- whole lines, with the bytes behind them
abbrev pub AreLinesBefore : List Line → List ℕ → Type 0
AreLinesBefore [] behind = Unit {0}
AreLinesBefore (l ∷ ls) behind = IsLine l (text_of ls ++ behind) × AreLinesBefore ls behind

-- the levels that are open behind lines
abbrev pub LevelsBehind : List ℕ → List Line → List ℕ → Type 0
LevelsBehind levels [] after = after ≡ levels
LevelsBehind levels (idle blanks comment end ∷ ls) after = LevelsBehind levels ls after
LevelsBehind levels (full spaces pieces comment end ∷ ls) after = (next : List ℕ) × Meets spaces levels next × LevelsBehind next ls after

-- the first fault in the tokens of a text
abbrev pub TokenFault : List ℕ → Fault → Type 0
TokenFault bytes f =
    (lines : List Line) × (levels : List ℕ) × (behind : List ℕ) × (bytes ≡ text_of lines ++ behind) × AreLinesBefore lines behind
    × LevelsBehind (0 ∷ []) lines levels × LineFault (text_of lines) levels behind f
