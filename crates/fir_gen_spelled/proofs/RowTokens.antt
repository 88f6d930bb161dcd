-- The tokens of rows, each in its place, as the grammar sees them.
use Rattle.std.proofs.Common.{◌≡◌, ℕ, zero, suc, List, [], ◌∷◌, ◌++◌, map, replicate, refl, sym, ap, ◌∙◌, subst, append_assoc, append-nil}
use Rattle.std.proofs.lemmas.List.{map-append}
use Rattle.fir_ast.specs.declared.place.Place.{Place}
use Rattle.fir_lex.specs.Tokens.{Token, Placed}
use Rattle.fir_lex.specs.Tokens as token
use Rattle.fir_lex.specs.Pieces.{Piece, blank, information, spelled, piece_bytes, bytes_of_pieces}
use Rattle.fir_lex.specs.Lines.{Line, line_bytes, text_of}
use Rattle.fir_lex.specs.TokensOf.{place_after, stands_after, tokens_of_pieces, HaveTokens}
use Rattle.fir_parse.specs.Lexemes.{Terminal, lexeme_of, terminal_of, line_end}
use Rattle.fir_parse.specs.Spells.{terminals}
use Rattle.fir_parse.proofs.FormsFound.{token_at}
use Rattle.fir_gen_spelled.proofs.Rows.{Row, line_of, lines_of}
use Rattle.fir_gen_spelled.proofs.RowLevels.{Moves, AreMoves}
use Rattle.fir_gen_spelled.proofs.Parts.{Part, pieces_of}

-- ---- places

-- of a line: behind its spaces, of its parts, and of its end
pub record LinePlaces : Type 0 where
  pub begins : Place
  pub part : ℕ → Place
  pub ends : Place

abbrev pub piece_place : List ℕ → List Piece → ℕ → Place
piece_place before [] i = place_after before
piece_place before (p ∷ ps) zero = place_after before
piece_place before (p ∷ ps) (suc i) = piece_place (before ++ piece_bytes p) ps i

abbrev pub line_places : List ℕ → Row → LinePlaces
line_places before r =
    let first = before ++ replicate r.spaces 32 in
    record { begins = place_after first; part = piece_place first (pieces_of r.parts); ends = place_after (first ++ bytes_of_pieces (pieces_of r.parts) ++ []) }

-- of rows behind these bytes
abbrev pub places_of : List ℕ → List Row → ℕ → LinePlaces
places_of before [] l = record { begins = place_after before; part = λ i. place_after before; ends = place_after before }
places_of before (r ∷ rs) zero = line_places before r
places_of before (r ∷ rs) (suc l) = places_of (before ++ line_bytes (line_of r)) rs l

-- ---- tokens

abbrev pub terminals_at : (ℕ → Place) → List Piece → List Terminal
terminals_at p [] = []
terminals_at p (blank b ∷ ps) = terminals_at (λ i. p (suc i)) ps
terminals_at p (information content ∷ ps) = terminals_at (λ i. p (suc i)) ps
terminals_at p (spelled t s ∷ ps) = token_at (lexeme_of t) (p 0) ∷ terminals_at (λ i. p (suc i)) ps

abbrev pub behind_moves : LinePlaces → List Part → List Terminal → List Terminal
behind_moves q parts ts = terminals_at q.part (pieces_of parts) ++ token_at line_end q.ends ∷ ts

abbrev pub row_tokens : LinePlaces → Row → List Terminal → List Terminal
row_tokens q r ts = map (λ t. token_at (lexeme_of t) q.begins) r.moves ++ behind_moves q r.parts ts

abbrev pub rows_tokens : (ℕ → LinePlaces) → List Row → List Terminal → List Terminal
rows_tokens p [] ts = ts
rows_tokens p (r ∷ rs) ts = row_tokens (p 0) r (rows_tokens (λ l. p (suc l)) rs ts)

-- lines with their tokens, as the grammar sees them
pub record Lexes (before levels : List ℕ) (ls : List Line) (us : List Terminal) : Type 0 where
  pub tokens : List Placed
  pub have : HaveTokens before levels ls tokens
  pub terminals_are : terminals tokens ≡ us

pieces_have : (before : List ℕ) (ps : List Piece) → terminals (tokens_of_pieces before ps) ≡ terminals_at (piece_place before ps) ps
pieces_have before [] = refl
pieces_have before (blank b ∷ ps) = pieces_have (before ++ b ∷ []) ps
pieces_have before (information content ∷ ps) = pieces_have (before ++ piece_bytes (information content)) ps
pieces_have before (spelled t s ∷ ps) = ap (λ ts. token_at (lexeme_of t) (place_after before) ∷ ts) (pieces_have (before ++ s) ps)

moves_have : (before : List ℕ) (moves : List Token) → terminals (map (stands_after before) moves) ≡ map (λ t. token_at (lexeme_of t) (place_after before)) moves
moves_have before [] = refl
moves_have before (t ∷ ts) = ap (λ us. token_at (lexeme_of t) (place_after before) ∷ us) (moves_have before ts)

-- a row before lines
row_lexes : (r : Row) (before levels next : List ℕ) (ls : List Line) (us : List Terminal) → Moves r.spaces levels r.moves next
    → Lexes (before ++ line_bytes (line_of r)) next ls us
    → Lexes before levels (line_of r ∷ ls) (row_tokens (line_places before r) r us)
row_lexes r before levels next ls us moves rest =
    let first = before ++ replicate r.spaces 32 in
    let ps = pieces_of r.parts in
    let moved = map (stands_after first) r.moves in
    let own = tokens_of_pieces first ps in
    let end = stands_after (first ++ bytes_of_pieces ps ++ []) token.line_end in
    record {
      tokens = moved ++ own ++ end ∷ rest.tokens;
      have = (r.moves, next, rest.tokens, moves, refl, rest.have);
      terminals_are =
          map-append terminal_of (moved ++ own) (end ∷ rest.tokens)
          ∙ ap (λ ts. ts ++ terminals (end ∷ rest.tokens)) (map-append terminal_of moved own)
          ∙ rw (moves_have first r.moves, pieces_have first ps, rest.terminals_are)
          (append_assoc (map (λ t. token_at (lexeme_of t) (place_after first)) r.moves) (terminals_at (piece_place first ps) ps) (terminal_of end ∷ us));
    }

-- rows before lines
pub rows_lex : (rs : List Row) (before levels after : List ℕ) (ls : List Line) (us : List Terminal) → AreMoves levels rs after
    → Lexes (before ++ text_of (lines_of rs)) after ls us
    → Lexes before levels (lines_of rs ++ ls) (rows_tokens (places_of before rs) rs us)
rows_lex [] before levels after ls us e rest =
    subst (λ x. Lexes x levels ls us) (append-nil before)
    (subst (λ x. Lexes (before ++ []) x ls us) (sym e) rest)
rows_lex (r ∷ rs) before levels after ls us (next, moves, more) rest =
    let own = line_bytes (line_of r) in
    row_lexes r before levels next (lines_of rs ++ ls) (rows_tokens (places_of (before ++ own) rs) rs us) moves
    (rows_lex rs (before ++ own) next after ls us more
    (subst (λ x. Lexes x after ls us) (sym (append_assoc before own (text_of (lines_of rs)))) rest))
