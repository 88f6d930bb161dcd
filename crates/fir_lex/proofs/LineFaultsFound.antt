-- Where a line is lexed from within and a fault is told, it stands behind pieces of the line, or in a later line.
use Rattle.std.proofs.Common.{◌≡◌, ℕ, ◌<◌, Bool, true, false, eqb, List, [], ◌∷◌, ◌++◌, length, take, Ok, Err, refl, sym, ap, ◌∙◌, inl, inr, ◌⊎◌, subst, append_assoc, append-nil, length-append, arith}
use Rattle.std.proofs.lemmas.Bool.{eqb-true, or_from}
use Rattle.std.proofs.lemmas.List.{nil_from_length}
use Rattle.fir_ast.specs.declared.place.Place.{Place}
use Rattle.fir_ast.specs.declared.fault.FirFault.{FirFault}
use Rattle.fir_ast.specs.declared.fault.FirFault.TheVariants as fault
use Rattle.fir_ast.specs.Faults.{Fault}
use Rattle.fir_ast.specs.working.CodeFaults.{fault_of}
use Rattle.fir_lex.specs.Tokens.{Token, line_end}
use Rattle.fir_lex.specs.working.Bytes.{place_behind, ends_line}
use Rattle.fir_lex.specs.working.Front.{Front, found, passed, bad_byte, bad_literal, front}
use Rattle.fir_lex.specs.working.Lexed.{Lexed, with_tokens, closed_at}
use Rattle.fir_lex.specs.Pieces.{Piece, blank, information, spelled, piece_bytes, bytes_of_pieces, IsPiece, ArePieces}
use Rattle.fir_lex.specs.Lines.{Line, text_of, IsComment, EndsLine}
use Rattle.fir_lex.specs.TokensOf.{place_after}
use Rattle.fir_lex.specs.TokenFaults.{FrontFault, LineFault, AreLinesBefore, LevelsBehind}
use Rattle.fir_lex.proofs.Way.{way_bad_byte, way_bad_literal}
use Rattle.fir_lex.proofs.Fronts.{FrontHas, front_has}
use Rattle.fir_lex.proofs.FrontsTaken.{token_some}
use Rattle.fir_lex.proofs.LevelMoves.{with_base}
use Rattle.fir_lex.proofs.LineEndsFound.{TailFound, no_comment, semicolon}
use Rattle.fir_lex.proofs.LineSteps.{in_line_after, at_line_after, token_over, blank_over, information_over, closes_at_line, tail_over}
use Rattle.fir_lex.proofs.BusyBytes.{goes_on_there}
use Rattle.fir_lex.proofs.FrontsWrong.{Wrong, front_wrong}
use Rattle.fir_lex.proofs.FrontFaults.{byte_found}

-- ---- what is found

-- at the beginning of a line: the lines up to that of the fault, and the fault of that line
pub record LinesFault (levels before bytes : List ℕ) (f : Fault) : Type 0 where
  pub lines : List Line
  pub after : List ℕ
  pub behind : List ℕ
  pub parts : bytes ≡ text_of lines ++ behind
  pub are : AreLinesBefore lines behind
  pub levels_are : LevelsBehind (with_base levels) lines after
  pub fault : LineFault (before ++ text_of lines) after behind f

-- within a line: behind pieces of it
pub record Here (before bytes : List ℕ) (f : Fault) : Type 0 where
  pub pieces : List Piece
  pub behind : List ℕ
  pub parts : bytes ≡ bytes_of_pieces pieces ++ behind
  pub are : ArePieces pieces behind
  pub fault : FrontFault (before ++ bytes_of_pieces pieces) behind f

-- or behind its end
pub record Later (levels before bytes : List ℕ) (f : Fault) : Type 0 where
  pub pieces : List Piece
  pub comment : List ℕ
  pub end : List ℕ
  pub behind : List ℕ
  pub parts : bytes ≡ bytes_of_pieces pieces ++ ((comment ++ end) ++ behind)
  pub are : ArePieces pieces ((comment ++ end) ++ behind)
  pub is_comment : IsComment comment
  pub ends : EndsLine comment end behind
  pub deep : LinesFault levels (((before ++ bytes_of_pieces pieces) ++ comment) ++ end) behind f

abbrev pub LineHas : List ℕ → List ℕ → List ℕ → Fault → Type 0
LineHas levels before bytes f = Here before bytes f ⊎ Later levels before bytes f

abbrev pub FailsInLine : List ℕ → Type 0
FailsInLine bytes = (levels before : List ℕ) (f : FirFault) → in_line_after levels before bytes ≡ Err f → LineHas levels before bytes (fault_of f)

abbrev pub FailsAtLine : List ℕ → Type 0
FailsAtLine bytes = (levels before : List ℕ) (f : FirFault) → at_line_after levels before bytes ≡ Err f → LinesFault levels before bytes (fault_of f)

abbrev pub ShorterFailsInLine : List ℕ → Type 0
ShorterFailsInLine bytes = (bs : List ℕ) → length bs < length bytes → FailsInLine bs

abbrev pub ShorterFailsAtLine : List ℕ → Type 0
ShorterFailsAtLine bytes = (bs : List ℕ) → length bs < length bytes → FailsAtLine bs

-- tokens before it change no fault
pub fails_behind : (p : Place) (us : List Token) (l : Lexed) (f : FirFault) → with_tokens p us l ≡ Err f → l ≡ Err f
fails_behind p us (Ok rest) f h = absurd (cc)
fails_behind p us (Err g) f h = h

pub same_fault : (f g : FirFault) (l : Lexed) → l ≡ Err f → l ≡ Err g → f ≡ g
same_fault f g l d e = let same : Err f ≡ Err g = sym d ∙ e in cc

-- ---- the end of a line

pub nothing_fails : FailsAtLine []
nothing_fails levels before f h =
    let off : Ok (closed_at (place_after before) levels) ≡ Err f = sym (closes_at_line levels (place_after before)) ∙ h in absurd (cc)

behind_tail : (bytes : List ℕ) (t : TailFound bytes) → ShorterFailsAtLine bytes → FailsAtLine t.behind
behind_tail [] t shorter =
    let none : t.behind ≡ [] =
    nil_from_length t.behind (omega (arith, ap length t.parts, length-append t.comment (t.end ++ t.behind), length-append t.end t.behind)) in
    subst FailsAtLine (sym none) nothing_fails
behind_tail (b ∷ bs) t shorter = shorter t.behind (t.shorter (λ e. absurd (cc)))

-- where no piece is left
line_ends : (bytes : List ℕ) (t : TailFound bytes) → FailsAtLine t.behind → FailsInLine bytes
line_ends bytes t deeper levels before f h =
    let e = sym (tail_over levels before t.comment t.end t.behind t.is_comment t.ends)
    ∙ ap (in_line_after levels before) (append_assoc t.comment t.end t.behind ∙ sym t.parts) ∙ h in
    let l = at_line_after levels ((before ++ t.comment) ++ t.end) t.behind in
    let a = deeper levels ((before ++ t.comment) ++ t.end) f (fails_behind (place_after (before ++ t.comment)) (line_end ∷ []) l f e) in
    inr record {
      pieces = [];
      comment = t.comment;
      end = t.end;
      behind = t.behind;
      parts = t.parts ∙ sym (append_assoc t.comment t.end t.behind);
      are = tt;
      is_comment = t.is_comment;
      ends = t.ends;
      deep = subst (λ (x : List ℕ). LinesFault levels ((x ++ t.comment) ++ t.end) t.behind (fault_of f)) (sym (append-nil before)) a;
    }

-- ---- pieces

here : (before bytes : List ℕ) (f : Fault) → FrontFault before bytes f → Here before bytes f
here before bytes f h = record {
  pieces = [];
  behind = bytes;
  parts = refl;
  are = tt;
  fault = subst (λ (x : List ℕ). FrontFault x bytes f) (sym (append-nil before)) h;
}

piece_more : (p : Piece) (levels before behind bytes : List ℕ) (f : Fault) → bytes ≡ piece_bytes p ++ behind → IsPiece p behind
    → LineHas levels (before ++ piece_bytes p) behind f → LineHas levels before bytes f
piece_more p levels before behind bytes f parts is (inl l) =
    inl record {
      pieces = p ∷ l.pieces;
      behind = l.behind;
      parts = parts ∙ ap (λ (x : List ℕ). piece_bytes p ++ x) l.parts ∙ sym (append_assoc (piece_bytes p) (bytes_of_pieces l.pieces) l.behind);
      are = (subst (IsPiece p) l.parts is, l.are);
      fault = subst (λ (x : List ℕ). FrontFault x l.behind f) (append_assoc before (piece_bytes p) (bytes_of_pieces l.pieces)) l.fault;
    }
piece_more p levels before behind bytes f parts is (inr l) =
    inr record {
      pieces = p ∷ l.pieces;
      comment = l.comment;
      end = l.end;
      behind = l.behind;
      parts =
          parts ∙ ap (λ (x : List ℕ). piece_bytes p ++ x) l.parts
          ∙ sym (append_assoc (piece_bytes p) (bytes_of_pieces l.pieces) ((l.comment ++ l.end) ++ l.behind));
      are = (subst (IsPiece p) l.parts is, l.are);
      is_comment = l.is_comment;
      ends = l.ends;
      deep =
          subst (λ (x : List ℕ). LinesFault levels ((x ++ l.comment) ++ l.end) l.behind f) (append_assoc before (piece_bytes p) (bytes_of_pieces l.pieces))
          l.deep;
    }

by_front : (b : ℕ) (bs : List ℕ) (g : Front) → ends_line (b ∷ bs) ≡ false → eqb b 59 ≡ false → front b bs ≡ g → FrontHas (b ∷ bs) g → Wrong (b ∷ bs) g
    → ShorterFailsInLine (b ∷ bs) → FailsInLine (b ∷ bs)
by_front b bs (found t n) e no_comment is (s, a) wrong shorter levels before f h =
    let over = sym (token_over t s a.behind before levels a.piece.0 a.piece.1) ∙ ap (in_line_after levels before) (sym a.parts) ∙ h in
    piece_more (spelled t s) levels before a.behind (b ∷ bs) (fault_of f) a.parts a.piece
    (shorter a.behind (omega (arith, ap length a.parts, length-append s a.behind, token_some t s a.piece.0)) levels (before ++ s) f
    (fails_behind (place_after before) (t ∷ []) (in_line_after levels (before ++ s) a.behind) f over))
by_front b bs (passed n) e no_comment is (inl (c, a)) wrong shorter levels before f h =
    piece_more (blank c) levels before a.behind (b ∷ bs) (fault_of f) a.parts a.piece
    (shorter a.behind (omega (arith, ap length a.parts)) levels (before ++ c ∷ []) f (sym (blank_over c a.behind before levels a.piece)
    ∙ ap (in_line_after levels before) (sym a.parts) ∙ h))
by_front b bs (passed n) e no_comment is (inr (content, a)) wrong shorter levels before f h =
    piece_more (information content) levels before a.behind (b ∷ bs) (fault_of f) a.parts a.piece
    (shorter a.behind (omega (arith, ap length a.parts, length-append ((64 ∷ 91 ∷ content) ++ 93 ∷ []) a.behind, length-append content (93 ∷ []))) levels
    (before ++ ((64 ∷ 91 ∷ content) ++ 93 ∷ [])) f
    (sym (information_over content a.behind before levels a.piece) ∙ ap (in_line_after levels before) (sym a.parts) ∙ h))
by_front b bs (bad_byte k c) e no_comment is has wrong shorter levels before f h =
    let same = same_fault (fault.Byte (place_behind (place_after before) (take k (b ∷ bs))) c) f (in_line_after levels before (b ∷ bs))
    (way_bad_byte levels (place_after before) (b ∷ bs) k c (omega arith) e is) h in
    inl (here before (b ∷ bs) (fault_of f) (subst (λ g. FrontFault before (b ∷ bs) (fault_of g)) same
    (byte_found before (b ∷ bs) k c (goes_on_there (b ∷ bs) (or_from (ends_line (b ∷ bs)) (eqb b 59) e no_comment)) is wrong)))
by_front b bs bad_literal e no_comment is has wrong shorter levels before f h =
    let same = same_fault (fault.BadLiteral (place_after before)) f (in_line_after levels before (b ∷ bs))
    (way_bad_literal levels (place_after before) (b ∷ bs) (omega arith) e is) h in
    inl (here before (b ∷ bs) (fault_of f) (subst (λ g. FrontFault before (b ∷ bs) (fault_of g)) same (inr (refl, wrong))))

by_byte : (b : ℕ) (bs : List ℕ) (t u : Bool) → ends_line (b ∷ bs) ≡ t → eqb b 59 ≡ u → ShorterFailsInLine (b ∷ bs) → ShorterFailsAtLine (b ∷ bs)
    → FailsInLine (b ∷ bs)
by_byte b bs true u e g shorter lines = let t = no_comment (b ∷ bs) (inr e) in line_ends (b ∷ bs) t (behind_tail (b ∷ bs) t lines)
by_byte b bs false true e g shorter lines = let t = semicolon b bs (eqb-true b 59 g) in line_ends (b ∷ bs) t (behind_tail (b ∷ bs) t lines)
by_byte b bs false false e g shorter lines = by_front b bs (front b bs) e g refl (front_has b bs g) (front_wrong b bs) shorter

pub in_line_fails : (bytes : List ℕ) → ShorterFailsInLine bytes → ShorterFailsAtLine bytes → FailsInLine bytes
in_line_fails [] shorter lines = let t = no_comment [] (inl refl) in line_ends [] t (behind_tail [] t lines)
in_line_fails (b ∷ bs) shorter lines = by_byte b bs (ends_line (b ∷ bs)) (eqb b 59) refl refl shorter lines
