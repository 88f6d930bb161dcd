-- Where a line is lexed from within, it is pieces, a comment or none, and an end.
use Rattle.std.proofs.Common.{◌≡◌, ℕ, ◌<◌, Bool, true, false, eqb, List, [], ◌∷◌, ◌++◌, length, Ok, Err, refl, sym, ap, ◌∙◌, inl, inr, subst, append_assoc, append-nil, length-append, arith}
use Rattle.std.proofs.lemmas.Bool.{eqb-true}
use Rattle.std.proofs.lemmas.List.{nil_from_length}
use Rattle.fir_ast.specs.declared.place.Place.{Place}
use Rattle.fir_lex.specs.Tokens.{Token, Placed, line_end}
use Rattle.fir_lex.specs.working.Bytes.{ends_line}
use Rattle.fir_lex.specs.working.Front.{Front, found, passed, bad_byte, bad_literal, front}
use Rattle.fir_lex.specs.working.Lexed.{Lexed, placed_at, with_tokens, closed_at}
use Rattle.fir_lex.specs.Pieces.{Piece, blank, information, spelled, piece_bytes, bytes_of_pieces, IsPiece, ArePieces}
use Rattle.fir_lex.specs.Lines.{Line, text_of, IsComment, EndsLine, AreLines}
use Rattle.fir_lex.specs.TokensOf.{place_after, stands_after, tokens_of_pieces, HaveTokens}
use Rattle.fir_lex.proofs.Way.{way_bad_byte, way_bad_literal}
use Rattle.fir_lex.proofs.Fronts.{FrontHas, front_has}
use Rattle.fir_lex.proofs.FrontsTaken.{token_some}
use Rattle.fir_lex.proofs.LevelMoves.{with_base}
use Rattle.fir_lex.proofs.LineEndsFound.{TailFound, no_comment, semicolon}
use Rattle.fir_lex.proofs.LineSteps.{in_line_after, at_line_after, token_over, blank_over, information_over, closes_at_line, tail_over}

-- ---- what is found

-- within a line: its pieces and its end, and the lines behind it
pub record InLine (levels before bytes : List ℕ) (ts : List Placed) : Type 0 where
  pub pieces : List Piece
  pub comment : List ℕ
  pub end : List ℕ
  pub lines : List Line
  pub rest : List Placed
  pub parts : bytes ≡ bytes_of_pieces pieces ++ ((comment ++ end) ++ text_of lines)
  pub are : ArePieces pieces ((comment ++ end) ++ text_of lines)
  pub is_comment : IsComment comment
  pub ends : EndsLine comment end (text_of lines)
  pub are_lines : AreLines lines
  pub tokens : ts ≡ tokens_of_pieces before pieces ++ stands_after ((before ++ bytes_of_pieces pieces) ++ comment) line_end ∷ rest
  pub have : HaveTokens (((before ++ bytes_of_pieces pieces) ++ comment) ++ end) (with_base levels) lines rest

-- at the beginning of a line: the lines from there on
pub record AtLine (levels before bytes : List ℕ) (ts : List Placed) : Type 0 where
  pub lines : List Line
  pub parts : bytes ≡ text_of lines
  pub are : AreLines lines
  pub have : HaveTokens before (with_base levels) lines ts

abbrev pub FindsInLine : List ℕ → Type 0
FindsInLine bytes = (levels before : List ℕ) (ts : List Placed) → in_line_after levels before bytes ≡ Ok ts → InLine levels before bytes ts

abbrev pub FindsAtLine : List ℕ → Type 0
FindsAtLine bytes = (levels before : List ℕ) (ts : List Placed) → at_line_after levels before bytes ≡ Ok ts → AtLine levels before bytes ts

abbrev pub ShorterInLine : List ℕ → Type 0
ShorterInLine bytes = (bs : List ℕ) → length bs < length bytes → FindsInLine bs

abbrev pub ShorterAtLine : List ℕ → Type 0
ShorterAtLine bytes = (bs : List ℕ) → length bs < length bytes → FindsAtLine bs

pub record Split (p : Place) (us : List Token) (l : Lexed) (ts : List Placed) : Type 0 where
  pub rest : List Placed
  pub is : l ≡ Ok rest
  pub tokens : ts ≡ placed_at p us ++ rest

pub split : (p : Place) (us : List Token) (l : Lexed) (ts : List Placed) → with_tokens p us l ≡ Ok ts → Split p us l ts
split p us (Ok rest) ts h = record { rest = rest; is = refl; tokens = cc }
split p us (Err f) ts h = absurd (cc)

-- ---- the end of a line

pub nothing_left : FindsAtLine []
nothing_left levels before ts h =
    let same : Ok (closed_at (place_after before) levels) ≡ Ok ts = sym (closes_at_line levels (place_after before)) ∙ h in record {
      lines = [];
      parts = refl;
      are = tt;
      have = (levels, refl, (cc));
    }

behind_tail : (bytes : List ℕ) (t : TailFound bytes) → ShorterAtLine bytes → FindsAtLine t.behind
behind_tail [] t shorter =
    let none : t.behind ≡ [] =
    nil_from_length t.behind (omega (arith, ap length t.parts, length-append t.comment (t.end ++ t.behind), length-append t.end t.behind)) in
    subst FindsAtLine (sym none) nothing_left
behind_tail (b ∷ bs) t shorter = shorter t.behind (t.shorter (λ e. absurd (cc)))

-- where no piece is left
line_ends : (bytes : List ℕ) (t : TailFound bytes) → FindsAtLine t.behind → FindsInLine bytes
line_ends bytes t deeper levels before ts h =
    let e = sym (tail_over levels before t.comment t.end t.behind t.is_comment t.ends)
    ∙ ap (in_line_after levels before) (append_assoc t.comment t.end t.behind ∙ sym t.parts) ∙ h in
    let s = split (place_after (before ++ t.comment)) (line_end ∷ []) (at_line_after levels ((before ++ t.comment) ++ t.end) t.behind) ts e in
    ended s.rest s.tokens (deeper levels ((before ++ t.comment) ++ t.end) s.rest s.is)
  where
    ended : (rest : List Placed) → ts ≡ stands_after (before ++ t.comment) line_end ∷ rest → AtLine levels ((before ++ t.comment) ++ t.end) t.behind rest
        → InLine levels before bytes ts
    ended rest tokens a = record {
      pieces = [];
      comment = t.comment;
      end = t.end;
      lines = a.lines;
      rest = rest;
      parts = t.parts ∙ sym (append_assoc t.comment t.end t.behind) ∙ ap (λ (x : List ℕ). (t.comment ++ t.end) ++ x) a.parts;
      are = tt;
      is_comment = t.is_comment;
      ends = subst (EndsLine t.comment t.end) a.parts t.ends;
      are_lines = a.are;
      tokens = tokens ∙ ap {B = List Placed} (λ (x : List ℕ). stands_after (x ++ t.comment) line_end ∷ rest) (sym (append-nil before));
      have = subst (λ (x : List ℕ). HaveTokens ((x ++ t.comment) ++ t.end) (with_base levels) a.lines rest) (sym (append-nil before)) a.have;
    }

-- ---- pieces

abbrev own_tokens : List ℕ → Piece → List Placed
own_tokens before (blank b) = []
own_tokens before (information content) = []
own_tokens before (spelled t s) = stands_after before t ∷ []

tokens_more : (before : List ℕ) (p : Piece) (ps : List Piece)
    → own_tokens before p ++ tokens_of_pieces (before ++ piece_bytes p) ps ≡ tokens_of_pieces before (p ∷ ps)
tokens_more before (blank b) ps = refl
tokens_more before (information content) ps = refl
tokens_more before (spelled t s) ps = refl

piece_more : (p : Piece) (levels before behind bytes : List ℕ) (rest ts : List Placed) → bytes ≡ piece_bytes p ++ behind → IsPiece p behind
    → ts ≡ own_tokens before p ++ rest → InLine levels (before ++ piece_bytes p) behind rest → InLine levels before bytes ts
piece_more p levels before behind bytes rest ts parts is tokens l =
    let regroup : (before ++ piece_bytes p) ++ bytes_of_pieces l.pieces ≡ before ++ bytes_of_pieces (p ∷ l.pieces) =
    append_assoc before (piece_bytes p) (bytes_of_pieces l.pieces) in record {
      pieces = p ∷ l.pieces;
      comment = l.comment;
      end = l.end;
      lines = l.lines;
      rest = l.rest;
      parts =
          parts ∙ ap (λ (x : List ℕ). piece_bytes p ++ x) l.parts
          ∙ sym (append_assoc (piece_bytes p) (bytes_of_pieces l.pieces) ((l.comment ++ l.end) ++ text_of l.lines));
      are = (subst (IsPiece p) l.parts is, l.are);
      is_comment = l.is_comment;
      ends = l.ends;
      are_lines = l.are_lines;
      tokens =
          tokens ∙ ap (λ (x : List Placed). own_tokens before p ++ x) l.tokens
          ∙ sym (append_assoc (own_tokens before p) (tokens_of_pieces (before ++ piece_bytes p) l.pieces)
          (stands_after (((before ++ piece_bytes p) ++ bytes_of_pieces l.pieces) ++ l.comment) line_end ∷ l.rest))
          ∙ ap (λ (x : List Placed). x ++ stands_after (((before ++ piece_bytes p) ++ bytes_of_pieces l.pieces) ++ l.comment) line_end ∷ l.rest)
          (tokens_more before p l.pieces)
          ∙ ap (λ (x : List ℕ). tokens_of_pieces before (p ∷ l.pieces) ++ stands_after (x ++ l.comment) line_end ∷ l.rest) regroup;
      have = subst (λ (x : List ℕ). HaveTokens ((x ++ l.comment) ++ l.end) (with_base levels) l.lines l.rest) regroup l.have;
    }

by_front : (b : ℕ) (bs : List ℕ) (f : Front) → ends_line (b ∷ bs) ≡ false → front b bs ≡ f → FrontHas (b ∷ bs) f → ShorterInLine (b ∷ bs) → FindsInLine (b ∷ bs)
by_front b bs (found t n) e is (s, a) shorter levels before ts h =
    let over = sym (token_over t s a.behind before levels a.piece.0 a.piece.1) ∙ ap (in_line_after levels before) (sym a.parts) ∙ h in
    let r = split (place_after before) (t ∷ []) (in_line_after levels (before ++ s) a.behind) ts over in
    piece_more (spelled t s) levels before a.behind (b ∷ bs) r.rest ts a.parts a.piece r.tokens
    (shorter a.behind (omega (arith, ap length a.parts, length-append s a.behind, token_some t s a.piece.0)) levels (before ++ s) r.rest r.is)
by_front b bs (passed n) e is (inl (c, a)) shorter levels before ts h =
    piece_more (blank c) levels before a.behind (b ∷ bs) ts ts a.parts a.piece refl
    (shorter a.behind (omega (arith, ap length a.parts)) levels (before ++ c ∷ []) ts (sym (blank_over c a.behind before levels a.piece)
    ∙ ap (in_line_after levels before) (sym a.parts) ∙ h))
by_front b bs (passed n) e is (inr (content, a)) shorter levels before ts h =
    piece_more (information content) levels before a.behind (b ∷ bs) ts ts a.parts a.piece refl
    (shorter a.behind (omega (arith, ap length a.parts, length-append ((64 ∷ 91 ∷ content) ++ 93 ∷ []) a.behind, length-append content (93 ∷ []))) levels
    (before ++ ((64 ∷ 91 ∷ content) ++ 93 ∷ [])) ts
    (sym (information_over content a.behind before levels a.piece) ∙ ap (in_line_after levels before) (sym a.parts) ∙ h))
by_front b bs (bad_byte k c) e is has shorter levels before ts h =
    let off = sym (way_bad_byte levels (place_after before) (b ∷ bs) k c (omega arith) e is) ∙ h in absurd (cc)
by_front b bs bad_literal e is has shorter levels before ts h =
    let off = sym (way_bad_literal levels (place_after before) (b ∷ bs) (omega arith) e is) ∙ h in absurd (cc)

by_byte : (b : ℕ) (bs : List ℕ) (t u : Bool) → ends_line (b ∷ bs) ≡ t → eqb b 59 ≡ u → ShorterInLine (b ∷ bs) → ShorterAtLine (b ∷ bs) → FindsInLine (b ∷ bs)
by_byte b bs true u e f shorter lines = let t = no_comment (b ∷ bs) (inr e) in line_ends (b ∷ bs) t (behind_tail (b ∷ bs) t lines)
by_byte b bs false true e f shorter lines = let t = semicolon b bs (eqb-true b 59 f) in line_ends (b ∷ bs) t (behind_tail (b ∷ bs) t lines)
by_byte b bs false false e f shorter lines = by_front b bs (front b bs) e refl (front_has b bs f) shorter

pub in_line : (bytes : List ℕ) → ShorterInLine bytes → ShorterAtLine bytes → FindsInLine bytes
in_line [] shorter lines = let t = no_comment [] (inl refl) in line_ends [] t (behind_tail [] t lines)
in_line (b ∷ bs) shorter lines = by_byte b bs (ends_line (b ∷ bs)) (eqb b 59) refl refl shorter lines
