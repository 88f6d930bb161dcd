-- The tokens of a text: those of its lines, each with its place, and the levels that open and close.
-- A line deeper than the innermost open level opens a level; any other closes the levels that are deeper than it, and then it is as deep as an open
-- one. The base level 0 is always open. What else is open at the end is closed there. Lines and columns count from 1, columns in bytes.
use Rattle.std.specs.Prelude.{◌≡◌, ◌⊎◌, ℕ, ◌+◌, ◌<◌, List, [], ◌∷◌, ◌++◌, All, map, replicate, count_by, not, nat_eq}
use Rattle.std.specs.List.{suffix_len}
use Rattle.fir_ast.specs.declared.place.Place.{Place}
use Rattle.fir_lex.specs.Tokens.{Token, Placed, line_end, level_opens, level_closes}
use Rattle.fir_lex.specs.Pieces.{Piece, blank, information, spelled, piece_bytes, bytes_of_pieces}
use Rattle.fir_lex.specs.Lines.{Line, idle, full, line_bytes, text_of, AreLines}

-- behind these bytes: one more than the newlines in them, and one more than the bytes behind the last newline
abbrev pub place_after : List ℕ → Place
place_after before = record { line = 1 + count_by (λ b. nat_eq b 10) before; col = 1 + suffix_len (λ b. not (nat_eq b 10)) before }

-- a token that begins directly behind these bytes
abbrev pub stands_after : List ℕ → Token → Placed
stands_after before t = record { token = t; place = place_after before }

-- at a line of so many spaces; the innermost open level stands first
abbrev pub OpensLevel : ℕ → List ℕ → List Token → List ℕ → Type 0
OpensLevel spaces levels tokens after =
    (innermost : ℕ) × (outer : List ℕ) × (levels ≡ innermost ∷ outer) × (innermost < spaces) × (tokens ≡ level_opens ∷ []) × (after ≡ spaces ∷ levels)

abbrev pub ClosesLevels : ℕ → List ℕ → List Token → List ℕ → Type 0
ClosesLevels spaces levels tokens after =
    (closed : List ℕ) × (outer : List ℕ) × (levels ≡ closed ++ spaces ∷ outer) × All (λ level. spaces < level) closed
    × (tokens ≡ map (λ level. level_closes) closed) × (after ≡ spaces ∷ outer)

-- behind the bytes before them; blanks and file information are no tokens
abbrev pub tokens_of_pieces : List ℕ → List Piece → List Placed
tokens_of_pieces before [] = []
tokens_of_pieces before (blank b ∷ ps) = tokens_of_pieces (before ++ piece_bytes (blank b)) ps
tokens_of_pieces before (information content ∷ ps) = tokens_of_pieces (before ++ piece_bytes (information content)) ps
tokens_of_pieces before (spelled t s ∷ ps) = stands_after before t ∷ tokens_of_pieces (before ++ s) ps

-- lines have these tokens, behind the bytes before them and with these levels open
abbrev pub HaveTokens : List ℕ → List ℕ → List Line → List Placed → Type 0
HaveTokens before levels [] ts = (closed : List ℕ) × (levels ≡ closed ++ 0 ∷ []) × (ts ≡ map (λ level. stands_after before level_closes) closed)
HaveTokens before levels (idle blanks comment end ∷ ls) ts = HaveTokens (before ++ line_bytes (idle blanks comment end)) levels ls ts
HaveTokens before levels (full spaces pieces comment end ∷ ls) ts =
    let first = before ++ replicate spaces 32 in
    (moves : List Token) × (after : List ℕ) × (rest : List Placed) × (OpensLevel spaces levels moves after ⊎ ClosesLevels spaces levels moves after)
    × (ts ≡ map (stands_after first) moves ++ tokens_of_pieces first pieces ++ stands_after (first ++ bytes_of_pieces pieces ++ comment) line_end ∷ rest)
    × HaveTokens (before ++ line_bytes (full spaces pieces comment end)) after ls rest

-- the text is these lines, and they have these tokens
abbrev pub AreTokensOf : List ℕ → List Placed → Type 0
AreTokensOf bytes ts = (lines : List Line) × (bytes ≡ text_of lines) × AreLines lines × HaveTokens [] (0 ∷ []) lines ts
