-- Texts joined from the left and from the right are the same.
use Rattle.std.proofs.Common.{◌≡◌, ℕ, List, [], ◌∷◌, ◌++◌, replicate, refl, sym, ap, ◌∙◌, append_assoc, append-nil}
use Rattle.fir_lex.specs.Pieces.{Piece, piece_bytes, bytes_of_pieces}
use Rattle.fir_lex.specs.Lines.{line_bytes, text_of}
use Rattle.fir_gen_spelled.proofs.Parts.{pieces_of}
use Rattle.fir_gen_spelled.proofs.Rows.{Row, line_of, lines_of}

-- pieces of text behind a text
abbrev pub from_left : List ℕ → List (List ℕ) → List ℕ
from_left a [] = a
from_left a (x ∷ xs) = from_left (a ++ x) xs

abbrev pub from_right : List (List ℕ) → List ℕ
from_right [] = []
from_right (x ∷ xs) = x ++ from_right xs

pub left_is_right : (a : List ℕ) (xs : List (List ℕ)) → from_left a xs ≡ a ++ from_right xs
left_is_right a [] = sym (append-nil a)
left_is_right a (x ∷ xs) = left_is_right (a ++ x) xs ∙ append_assoc a x (from_right xs)

-- the bytes of parts, and those of rows, before a text
abbrev pub pieces_before : List Piece → List ℕ → List ℕ
pieces_before [] behind = behind
pieces_before (p ∷ ps) behind = piece_bytes p ++ pieces_before ps behind

abbrev pub rows_before : List Row → List ℕ → List ℕ
rows_before [] behind = behind
rows_before (r ∷ rs) behind = replicate r.spaces 32 ++ pieces_before (pieces_of r.parts) (10 ∷ rows_before rs behind)

pieces_joined : (ps : List Piece) (behind : List ℕ) → bytes_of_pieces ps ++ behind ≡ pieces_before ps behind
pieces_joined [] behind = refl
pieces_joined (p ∷ ps) behind =
    append_assoc (piece_bytes p) (bytes_of_pieces ps) behind ∙ ap (λ x. piece_bytes p ++ x) (pieces_joined ps behind)

row_joined : (r : Row) (behind : List ℕ) → line_bytes (line_of r) ++ behind ≡ replicate r.spaces 32 ++ pieces_before (pieces_of r.parts) (10 ∷ behind)
row_joined r behind =
    let own = bytes_of_pieces (pieces_of r.parts) in
    append_assoc (replicate r.spaces 32 ++ own ++ []) (10 ∷ []) behind
    ∙ append_assoc (replicate r.spaces 32 ++ own) [] (10 ∷ behind)
    ∙ append_assoc (replicate r.spaces 32) own (10 ∷ behind)
    ∙ ap (λ x. replicate r.spaces 32 ++ x) (pieces_joined (pieces_of r.parts) (10 ∷ behind))

pub rows_joined : (rs : List Row) → text_of (lines_of rs) ≡ rows_before rs []
rows_joined [] = refl
rows_joined (r ∷ rs) = ap (λ x. line_bytes (line_of r) ++ x) (rows_joined rs) ∙ row_joined r (rows_before rs [])
