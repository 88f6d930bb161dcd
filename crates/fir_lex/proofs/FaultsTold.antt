-- The first fault of a text's tokens is told of it.
use Rattle.std.proofs.Common.{◌≡◌, ℕ, List, [], ◌∷◌, ◌++◌, replicate, Err, sym, ap, ◌∙◌, inl, inr, subst, append_assoc, append-nil}
use Rattle.std.proofs.lemmas.List.Elements.{recursion_from_All}
use Rattle.fir_ast.specs.declared.place.Place.{Place}
use Rattle.fir_ast.specs.declared.fault.FirFault.{FirFault}
use Rattle.fir_ast.specs.declared.fault.FirFault.TheVariants as fault
use Rattle.fir_ast.specs.Faults.{Fault}
use Rattle.fir_ast.specs.working.CodeFaults.{fault_of}
use Rattle.fir_lex.specs.Tokens.{Token, line_end}
use Rattle.fir_lex.specs.working.Lexed.{Lexed, with_tokens, lexed}
use Rattle.fir_lex.specs.Pieces.{Piece, blank, information, spelled, piece_bytes, IsBlank, bytes_of_pieces, IsPiece, ArePieces}
use Rattle.fir_lex.specs.Lines.{Line, idle, full, line_bytes, text_of, IsLine}
use Rattle.fir_lex.specs.TokensOf.{place_after}
use Rattle.fir_lex.specs.TokenFaults.{FrontFault, HasTab, MayBeginLine, IsWithinLine, LineFault, AreLinesBefore, LevelsBehind, TokenFault}
use Rattle.fir_lex.proofs.LevelMoves.{with_base, Taken, move_taken}
use Rattle.fir_lex.proofs.LineSteps.{in_line_after, at_line_after, token_over, blank_over, information_over, tail_over, idle_over, Met, read_met, pieces_met, spaces_over}
use Rattle.fir_lex.proofs.FrontFaults.{fault_read}
use Rattle.fir_lex.proofs.IndentFaults.{met_there, tab_over, indent_told, bad_behind_told}

-- ---- behind pieces

pieces_fail : (ps : List Piece) (behind before levels : List ℕ) (f : FirFault) → ArePieces ps behind
    → in_line_after levels (before ++ bytes_of_pieces ps) behind ≡ Err f → in_line_after levels before (bytes_of_pieces ps ++ behind) ≡ Err f
pieces_fail [] behind before levels f are h = ap (λ (x : List ℕ). in_line_after levels x behind) (sym (append-nil before)) ∙ h
pieces_fail (p ∷ ps) behind before levels f are h =
    ap (in_line_after levels before) (append_assoc (piece_bytes p) (bytes_of_pieces ps) behind)
    ∙ first p are.0 (pieces_fail ps behind (before ++ piece_bytes p) levels f are.1
    (ap (λ (x : List ℕ). in_line_after levels x behind) (append_assoc before (piece_bytes p) (bytes_of_pieces ps)) ∙ h))
  where
    first : (p : Piece) → IsPiece p (bytes_of_pieces ps ++ behind)
        → in_line_after levels (before ++ piece_bytes p) (bytes_of_pieces ps ++ behind) ≡ Err f
        → in_line_after levels before (piece_bytes p ++ (bytes_of_pieces ps ++ behind)) ≡ Err f
    first (blank b) is h = blank_over b (bytes_of_pieces ps ++ behind) before levels is ∙ h
    first (information content) is h = information_over content (bytes_of_pieces ps ++ behind) before levels is ∙ h
    first (spelled t s) is h = token_over t s (bytes_of_pieces ps ++ behind) before levels is.0 is.1 ∙ ap (with_tokens (place_after before) (t ∷ [])) h

-- ---- the line of the fault

-- lexing ends with this fault
abbrev EndsWith : Lexed → Fault → Type 0
EndsWith l f = (g : FirFault) × (l ≡ Err g) × (f ≡ fault_of g)

begins_met : (ps : List Piece) (before behind : List ℕ) (f : Fault) → MayBeginLine ps → ArePieces ps behind → FrontFault before behind f
    → Met (bytes_of_pieces ps ++ behind)
begins_met [] before behind f first are h = let r = (fault_read before behind f h).1 in read_met behind r.read r.some r.reads r.stays
begins_met (p ∷ ps) before behind f first are h = pieces_met (p ∷ ps) behind first are

within_told : (before levels bytes : List ℕ) (f : Fault) → IsWithinLine before (with_base levels) bytes f → EndsWith (at_line_after levels before bytes) f
within_told before levels bytes f h =
    let n = h.0 in
    let pieces = h.1 in
    let behind = h.2 in
    let first : List ℕ = before ++ replicate n 32 in
    let t = move_taken n levels h.5.0 h.3 h.5.1 in
    let own : List ℕ = bytes_of_pieces pieces in
    let given = fault_read (first ++ own) behind f h.8 in
    let r = given.1 in (
      given.0,
      ap (at_line_after levels before) (h.4 ∙ append_assoc (replicate n 32) own behind)
          ∙ spaces_over n levels before (own ++ behind) t.move (begins_met pieces (first ++ own) behind f h.6 h.7 h.8) t.moves
          ∙ ap (with_tokens (place_after first) t.move.tokens) (pieces_fail pieces behind first t.move.levels given.0 h.7 (r.told t.move.levels)),
      given.2,
    )

tab_told : (before levels bytes : List ℕ) (p : Place) → HasTab before bytes p → at_line_after levels before bytes ≡ Err (fault.Tab p)
tab_told before levels bytes p h =
    ap (at_line_after levels before) h.3
    ∙ tab_over h.0 levels before h.1 h.2 (recursion_from_All IsBlank h.1 h.4) (met_there h.2 h.5)
    ∙ ap {B = Lexed} (λ (q : Place). Err (fault.Tab q)) (sym h.6)

line_told : (before levels bytes : List ℕ) (f : Fault) → LineFault before (with_base levels) bytes f → EndsWith (at_line_after levels before bytes) f
line_told before levels bytes f (inl (p, e, h)) = (fault.Tab p, tab_told before levels bytes p h, e)
line_told before levels bytes f (inr (inl (p, n, e, h))) = (fault.Indent p n, indent_told before levels bytes p n h, e)
line_told before levels bytes f (inr (inr (inl (p, b, e, h)))) = (fault.Byte p b, bad_behind_told before levels bytes p b h, e)
line_told before levels bytes f (inr (inr (inr h))) = within_told before levels bytes f h

-- ---- the lines before it

full_fails : (spaces : ℕ) (pieces : List Piece) (comment end behind levels before after : List ℕ) (moves : List Token) (f : Fault)
    → IsLine (full spaces pieces comment end) behind → Taken spaces levels moves after
    → ((inner : List ℕ) → with_base inner ≡ after → EndsWith (at_line_after inner (before ++ line_bytes (full spaces pieces comment end)) behind) f)
    → EndsWith (at_line_after levels before (line_bytes (full spaces pieces comment end) ++ behind)) f
full_fails spaces pieces comment end behind levels before after moves f is taken h =
    let first : List ℕ = before ++ replicate spaces 32 in
    let own : List ℕ = bytes_of_pieces pieces in
    let m = taken.move in
    let are : ArePieces pieces ((comment ++ end) ++ behind) = is.1 in
    let parts : line_bytes (full spaces pieces comment end) ++ behind ≡ replicate spaces 32 ++ (own ++ ((comment ++ end) ++ behind)) = simp append_assoc in
    let whole : ((first ++ own) ++ comment) ++ end ≡ before ++ line_bytes (full spaces pieces comment end) = simp append_assoc in
    let rest = h m.levels taken.levels_are in (
      rest.0,
      ap (at_line_after levels before) parts
          ∙ spaces_over spaces levels before (own ++ ((comment ++ end) ++ behind)) m (pieces_met pieces ((comment ++ end) ++ behind) is.0 are) taken.moves
          ∙ ap (with_tokens (place_after first) m.tokens)
          (pieces_fail pieces ((comment ++ end) ++ behind) first m.levels rest.0 are
          (tail_over m.levels (first ++ own) comment end behind is.2 is.3
          ∙ ap (with_tokens (place_after ((first ++ own) ++ comment)) (line_end ∷ []))
          (ap (λ (x : List ℕ). at_line_after m.levels x behind) whole ∙ rest.1))),
      rest.2,
    )

lines_fail : (ls : List Line) (before levels after behind : List ℕ) (f : Fault) → AreLinesBefore ls behind → LevelsBehind (with_base levels) ls after
    → LineFault (before ++ text_of ls) after behind f → EndsWith (at_line_after levels before (text_of ls ++ behind)) f
lines_fail [] before levels after behind f are same h =
    line_told before levels behind f
    (subst (λ (x : List ℕ). LineFault x (with_base levels) behind f) (append-nil before)
    (subst (λ (x : List ℕ). LineFault (before ++ []) x behind f) same h))
lines_fail (idle blanks comment end ∷ ls) before levels after behind f are levels_are h =
    let line : List ℕ = line_bytes (idle blanks comment end) in
    let rest =
    lines_fail ls (before ++ line) levels after behind f are.1 levels_are
    (subst (λ (x : List ℕ). LineFault x after behind f) (sym (append_assoc before line (text_of ls))) h) in (
      rest.0,
      ap (at_line_after levels before) (append_assoc line (text_of ls) behind)
          ∙ idle_over levels before blanks comment end (text_of ls ++ behind) are.0.0 are.0.1 are.0.2 ∙ rest.1,
      rest.2,
    )
lines_fail (full spaces pieces comment end ∷ ls) before levels after behind f are levels_are h =
    let line : List ℕ = line_bytes (full spaces pieces comment end) in
    let next = levels_are.0 in
    let meets = levels_are.1 in
    let told =
    full_fails spaces pieces comment end (text_of ls ++ behind) levels before next meets.0 f are.0 (move_taken spaces levels meets.0 next meets.1)
    (λ inner e. lines_fail ls (before ++ line) inner after behind f are.1 (subst (λ (x : List ℕ). LevelsBehind x ls after) (sym e) levels_are.2)
    (subst (λ (x : List ℕ). LineFault x after behind f) (sym (append_assoc before line (text_of ls))) h)) in
    (told.0, ap (at_line_after levels before) (append_assoc line (text_of ls) behind) ∙ told.1, told.2)

pub fault_told : (bytes : List ℕ) (f : Fault) → TokenFault bytes f → EndsWith (lexed bytes) f
fault_told bytes f h = let told = lines_fail h.0 [] [] h.1 h.2 f h.4 h.5 h.6 in (told.0, ap lexed h.3 ∙ told.1, told.2)
