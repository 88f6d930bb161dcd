-- A text that is lines with tokens is lexed as these tokens.
use Rattle.std.proofs.Common.{◌≡◌, ℕ, List, [], ◌∷◌, ◌++◌, map, replicate, Ok, sym, ap, ◌∙◌, subst, append_assoc, append-nil}
use Rattle.std.proofs.lemmas.List.{append_cancel_right}
use Rattle.fir_lex.specs.Tokens.{Token, Placed, line_end}
use Rattle.fir_lex.specs.working.Lexed.{Lexed, with_tokens, closed_at, lexed}
use Rattle.fir_lex.specs.Pieces.{Piece, blank, information, spelled, piece_bytes, bytes_of_pieces, IsPiece, ArePieces}
use Rattle.fir_lex.specs.Lines.{Line, idle, full, line_bytes, text_of, IsLine, AreLines}
use Rattle.fir_lex.specs.TokensOf.{place_after, stands_after, tokens_of_pieces, HaveTokens, AreTokensOf}
use Rattle.fir_lex.proofs.LevelMoves.{with_base, Taken, move_taken}
use Rattle.fir_lex.proofs.LineSteps.{in_line_after, at_line_after, token_over, blank_over, information_over, closes_at_line, tail_over, idle_over, pieces_met, spaces_over}

abbrev ok : List Placed → Lexed
ok ts = Ok ts

pieces_lexed : (ps : List Piece) (behind before levels : List ℕ) (rest : List Placed) → ArePieces ps behind
    → in_line_after levels (before ++ bytes_of_pieces ps) behind ≡ Ok rest
    → in_line_after levels before (bytes_of_pieces ps ++ behind) ≡ Ok (tokens_of_pieces before ps ++ rest)
pieces_lexed [] behind before levels rest are h = ap (λ (x : List ℕ). in_line_after levels x behind) (sym (append-nil before)) ∙ h
pieces_lexed (p ∷ ps) behind before levels rest are h =
    ap (in_line_after levels before) (append_assoc (piece_bytes p) (bytes_of_pieces ps) behind)
    ∙ first p are.0 (pieces_lexed ps behind (before ++ piece_bytes p) levels rest are.1
    (ap (λ (x : List ℕ). in_line_after levels x behind) (append_assoc before (piece_bytes p) (bytes_of_pieces ps)) ∙ h))
  where
    first : (p : Piece) → IsPiece p (bytes_of_pieces ps ++ behind)
        → in_line_after levels (before ++ piece_bytes p) (bytes_of_pieces ps ++ behind) ≡ Ok (tokens_of_pieces (before ++ piece_bytes p) ps ++ rest)
        → in_line_after levels before (piece_bytes p ++ (bytes_of_pieces ps ++ behind)) ≡ Ok (tokens_of_pieces before (p ∷ ps) ++ rest)
    first (blank b) is h = blank_over b (bytes_of_pieces ps ++ behind) before levels is ∙ h
    first (information content) is h = information_over content (bytes_of_pieces ps ++ behind) before levels is ∙ h
    first (spelled t s) is h = token_over t s (bytes_of_pieces ps ++ behind) before levels is.0 is.1 ∙ ap (with_tokens (place_after before) (t ∷ [])) h

abbrev behind_spaces : List ℕ → List Piece → List ℕ → List Placed → List Placed
behind_spaces first pieces comment rest = tokens_of_pieces first pieces ++ stands_after ((first ++ bytes_of_pieces pieces) ++ comment) line_end ∷ rest

-- a line that is not idle, and what is lexed behind it
full_lexed : (spaces : ℕ) (pieces : List Piece) (comment end behind levels before after : List ℕ) (moves : List Token) (rest : List Placed)
    → IsLine (full spaces pieces comment end) behind → Taken spaces levels moves after
    → ((inner : List ℕ) → with_base inner ≡ after → at_line_after inner (before ++ line_bytes (full spaces pieces comment end)) behind ≡ Ok rest)
    → at_line_after levels before (line_bytes (full spaces pieces comment end) ++ behind)
    ≡ Ok (map (stands_after (before ++ replicate spaces 32)) moves ++ behind_spaces (before ++ replicate spaces 32) pieces comment rest)
full_lexed spaces pieces comment end behind levels before after moves rest is taken h =
    let first : List ℕ = before ++ replicate spaces 32 in
    let own : List ℕ = bytes_of_pieces pieces in
    let m = taken.move in
    let are : ArePieces pieces ((comment ++ end) ++ behind) = is.1 in
    let parts : line_bytes (full spaces pieces comment end) ++ behind ≡ replicate spaces 32 ++ (own ++ ((comment ++ end) ++ behind)) = simp append_assoc in
    let whole : ((first ++ own) ++ comment) ++ end ≡ before ++ line_bytes (full spaces pieces comment end) = simp append_assoc in
    ap (at_line_after levels before) parts
    ∙ spaces_over spaces levels before (own ++ ((comment ++ end) ++ behind)) m (pieces_met pieces ((comment ++ end) ++ behind) is.0 are) taken.moves
    ∙ ap (with_tokens (place_after first) m.tokens)
    (pieces_lexed pieces ((comment ++ end) ++ behind) first m.levels (stands_after ((first ++ own) ++ comment) line_end ∷ rest) are
    (tail_over m.levels (first ++ own) comment end behind is.2 is.3
    ∙ ap (with_tokens (place_after ((first ++ own) ++ comment)) (line_end ∷ []))
    (ap (λ (x : List ℕ). at_line_after m.levels x behind) whole ∙ h m.levels taken.levels_are)))
    ∙ ap (λ (ts : List Token). ok (map (stands_after first) ts ++ behind_spaces first pieces comment rest)) taken.tokens_are

lines_lexed : (ls : List Line) (before levels : List ℕ) (ts : List Placed) → AreLines ls → HaveTokens before (with_base levels) ls ts
    → at_line_after levels before (text_of ls) ≡ Ok ts
lines_lexed [] before levels ts are h =
    let same = append_cancel_right levels h.0 (0 ∷ []) h.1 in
    closes_at_line levels (place_after before) ∙ ap (λ (x : List ℕ). ok (closed_at (place_after before) x)) same ∙ ap ok (sym h.2)
lines_lexed (idle blanks comment end ∷ ls) before levels ts are h =
    idle_over levels before blanks comment end (text_of ls) are.0.0 are.0.1 are.0.2
    ∙ lines_lexed ls (before ++ line_bytes (idle blanks comment end)) levels ts are.1 h
lines_lexed (full spaces pieces comment end ∷ ls) before levels ts are h =
    let first : List ℕ = before ++ replicate spaces 32 in
    let moves = h.0 in
    let after = h.1 in
    let rest = h.2 in
    full_lexed spaces pieces comment end (text_of ls) levels before after moves rest are.0 (move_taken spaces levels moves after h.3)
    (λ inner e. lines_lexed ls (before ++ line_bytes (full spaces pieces comment end)) inner rest are.1
    (subst (λ (x : List ℕ). HaveTokens (before ++ line_bytes (full spaces pieces comment end)) x ls rest) (sym e) h.5))
    ∙ ap ok
    (sym (append_assoc (map (stands_after first) moves) (tokens_of_pieces first pieces)
    (stands_after ((first ++ bytes_of_pieces pieces) ++ comment) line_end ∷ rest))
    ∙ sym h.4)

pub spelled_is_lexed : (bytes : List ℕ) (ts : List Placed) → AreTokensOf bytes ts → lexed bytes ≡ Ok ts
spelled_is_lexed bytes ts h = ap lexed h.1 ∙ lines_lexed h.0 [] [] ts h.2 h.3
