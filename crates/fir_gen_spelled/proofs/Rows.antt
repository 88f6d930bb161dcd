-- The rows of a text: its lines by their parts, with the levels that open and close before them. They are lines.
use Rattle.std.proofs.Common.{◌≡◌, ℕ, ◌^◌, ◌<◌, Bool, true, false, ◌&&◌, List, [], ◌∷◌, ◌++◌, map, refl, inl}
use Rattle.std.specs.Prelude.{flat_map}
use Rattle.fir_base.proofs.Each.{all_left, all_right}
use Rattle.fir_base.proofs.Tests.{both}
use Rattle.fir_lex.specs.Tokens.{Token}
use Rattle.fir_lex.specs.Pieces.{Piece, blank, information, spelled}
use Rattle.fir_lex.specs.Lines.{Line, full, text_of, EndsLine, BeginsLine, AreLines}
use Rattle.fir_gen_spelled.proofs.Parts.{Part, pieces_of, all_stand, numbers_in, AreSmall, parts_are_pieces}

pub record Row : Type 0 where
  pub moves : List Token
  pub spaces : ℕ
  pub parts : List Part

abbrev pub row : List Token → ℕ → List Part → Row
row moves spaces parts = record { moves = moves; spaces = spaces; parts = parts }

abbrev pub line_of : Row → Line
line_of r = full r.spaces (pieces_of r.parts) [] (10 ∷ [])

abbrev pub lines_of : List Row → List Line
lines_of = map line_of

-- ---- lines

-- the first piece is no blank
abbrev begins_line : List Piece → Bool
begins_line [] = false
begins_line (blank b ∷ ps) = false
begins_line (information content ∷ ps) = true
begins_line (spelled t s ∷ ps) = true

abbrev row_stands : Row → Bool
row_stands r = begins_line (pieces_of r.parts) && all_stand r.parts

abbrev pub rows_stand : List Row → Bool
rows_stand [] = true
rows_stand (r ∷ rs) = row_stands r && rows_stand rs

abbrev pub AreSound : List Row → Type 0
AreSound rs = (rows_stand rs ≡ true) × AreSmall (flat_map (λ r. numbers_in r.parts) rs)

begins : (ps : List Piece) → begins_line ps ≡ true → BeginsLine ps
begins [] h = cc
begins (blank b ∷ ps) h = cc
begins (information content ∷ ps) h = tt
begins (spelled t s ∷ ps) h = tt

newline_ends : (behind : List ℕ) → EndsLine [] (10 ∷ []) behind
newline_ends behind = inl (refl, ends_in_none)
  where
    ends_in_none : (front : List ℕ) × ([] ≡ front ++ 13 ∷ []) → ⊥
    ends_in_none ([], e) = cc
    ends_in_none (b ∷ bs, e) = cc

pub rows_are_lines : (rs : List Row) (ls : List Line) → AreSound rs → AreLines ls → AreLines (lines_of rs ++ ls)
rows_are_lines [] ls sound are = are
rows_are_lines (r ∷ rs) ls (stand, small) are =
    let t = both (row_stands r) (rows_stand rs) stand in
    let u = both (begins_line (pieces_of r.parts)) (all_stand r.parts) t.0 in
    let own = numbers_in r.parts in
    let others = flat_map (λ x. numbers_in x.parts) rs in
    let behind = text_of (lines_of rs ++ ls) in
    let is_small = λ (k : ℕ). k < 2 ^ 64 in
    let pieces = parts_are_pieces r.parts behind (all_left is_small own others small) u.1 in (
      (begins (pieces_of r.parts) u.0, pieces, inl refl, newline_ends behind),
      rows_are_lines rs ls (t.1, all_right is_small own others small) are,
    )
