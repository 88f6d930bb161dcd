-- The way of the lexer: a piece more is read.
use Rattle.std.proofs.Common.{◌≡◌, ℕ, ◌+◌, ◌≤◌, ◌<◌, Bool, true, false, Option, Some, None, inl, inr, List, [], ◌∷◌, ◌++◌, length, take, drop, flat_map, refl, sym, ap, ◌∙◌, subst, append_assoc, append-nil, length-append, arith}
use Rattle.std.proofs.Math.Seq.{take-append_seam, drop-append_seam, take-add}
use Rattle.std.proofs.lemmas.List.{length-drop, drop-drop, take_all, drop_all, take-append-drop}
use Rattle.ver_ast.specs.declared.place.VPlace.{VPlace}
use Rattle.ver_ast.specs.Pieces.{VPiece, bytes_of_piece, PlacedToken, place_after, tokens_of_piece, tokens_of_pieces, IsVPiece, AreVPieces, HasTokens}
use Rattle.ver_ast.specs.Tokens.{VToken, question_digit}
use Rattle.ver_lex.specs.declared.draft.Draft.{Draft}
use Rattle.ver_lex.specs.declared.kind.Kind.{Kind}
use Rattle.ver_lex.specs.declared.kind.Kind.TheVariants as kind
use Rattle.ver_lex.specs.declared.lexer.Lexer.{Lexer}
use Rattle.ver_lex.specs.declared.piece.Piece.{Piece}
use Rattle.ver_lex.specs.declared.bad_byte.BadByte.{BadByte}
use Rattle.ver_lex.specs.working.Lexed.{Lexed, IsLexed}
use Rattle.ver_lex.specs.Lexed.{AreVPiecesBefore, BeginsNoPiece, StopsAt}
use Rattle.ver_lex.specs.working.Bytes.{place_behind}
use Rattle.ver_lex.specs.working.Fronts.{front}
use Rattle.ver_lex.specs.working.View.{token_of}
use Rattle.ver_lex.specs.working.Ways.{tokens_in, before, rest_of, HasRead, Passes, StepsTo}
use Rattle.ver_lex.proofs.Places.{place_on, place_behind_both}
use Rattle.ver_lex.proofs.FrontPieces.{front_stands}
use Rattle.ver_lex.proofs.Standing.{Stands, TokenStands, QuestionStands, no_tokens, with_question, FrontStands}

-- ---- one piece more

bytes_more : (ps : List VPiece) (p : VPiece) → flat_map bytes_of_piece (ps ++ p ∷ []) ≡ flat_map bytes_of_piece ps ++ bytes_of_piece p
bytes_more [] p = append-nil (bytes_of_piece p)
bytes_more (q ∷ ps) p =
    ap (λ (x : List ℕ). bytes_of_piece q ++ x) (bytes_more ps p)
    ∙ sym (append_assoc (bytes_of_piece q) (flat_map bytes_of_piece ps) (bytes_of_piece p))

pieces_more : (ps : List VPiece) (p : VPiece) (behind : List ℕ) → AreVPiecesBefore ps (bytes_of_piece p ++ behind) → IsVPiece p behind
    → AreVPiecesBefore (ps ++ p ∷ []) behind
pieces_more [] p behind h is = (is, tt)
pieces_more (q ∷ ps) p behind h is =
    let text : flat_map bytes_of_piece ps ++ (bytes_of_piece p ++ behind) ≡ flat_map bytes_of_piece (ps ++ p ∷ []) ++ behind =
    sym (append_assoc (flat_map bytes_of_piece ps) (bytes_of_piece p) behind) ∙ ap (λ (x : List ℕ). x ++ behind) (sym (bytes_more ps p)) in
    (subst (IsVPiece q) text h.0, pieces_more ps p behind h.1 is)

tokens_more : (first : List ℕ) (ps : List VPiece) (p : VPiece)
    → tokens_of_pieces first (ps ++ p ∷ []) ≡ tokens_of_pieces first ps ++ tokens_of_piece (first ++ flat_map bytes_of_piece ps) p
tokens_more first [] p =
    append-nil (tokens_of_piece first p) ∙ ap (λ (x : List ℕ). tokens_of_piece x p) (sym (append-nil first))
tokens_more first (q ∷ ps) p =
    let rest = tokens_more (first ++ bytes_of_piece q) ps p in
    let grouped = append_assoc first (bytes_of_piece q) (flat_map bytes_of_piece ps) in
    ap (λ (x : List PlacedToken). tokens_of_piece first q ++ x) (rest ∙ ap (λ (x : List ℕ). tokens_of_pieces (first ++ bytes_of_piece q) ps ++ tokens_of_piece x p) grouped)
    ∙ sym (append_assoc (tokens_of_piece first q) (tokens_of_pieces (first ++ bytes_of_piece q) ps) (tokens_of_piece (first ++ flat_map bytes_of_piece (q ∷ ps)) p))

-- ---- the lexer moves on

-- what stands at the cursor
pub front_at : (l : Lexer) (bytes : List ℕ) (f : Piece) → l.cursor.index < length l.draft.text.items → bytes ≡ rest_of l → f ≡ front bytes
    → FrontStands (rest_of l) f
front_at l bytes f some e h =
    subst (λ (x : Piece). FrontStands (rest_of l) x) (sym (h ∙ ap front e)) (of_bytes (rest_of l) (omega (arith, length-drop l.cursor.index l.draft.text.items)))
  where
    of_bytes : (bytes : List ℕ) → 1 ≤ length bytes → FrontStands bytes (front bytes)
    of_bytes [] some = absurd (omega arith)
    of_bytes (b ∷ bs) some = front_stands b bs

pub within : (l : Lexer) (n : ℕ) (ts : List ℕ → List PlacedToken) → l.cursor.index < length l.draft.text.items → Stands (rest_of l) n ts
    → l.cursor.index + n ≤ length l.draft.text.items
within l n ts some st =
    omega (arith, length-drop l.cursor.index l.draft.text.items, ap length st.bytes_are, length-append (bytes_of_piece st.piece) st.behind, st.count)

module _ (old new : Lexer) (n : ℕ) (ts : List ℕ → List PlacedToken) (read : HasRead old) (st : Stands (rest_of old) n ts)
    (text : new.draft.text.items ≡ old.draft.text.items) (index : new.cursor.index ≡ old.cursor.index + n) where
  abbrev s : List ℕ
  s = bytes_of_piece st.piece

  pub taken : take n (rest_of old) ≡ s
  taken =
      ap (take n) st.bytes_are ∙ ap (λ (k : ℕ). take k (s ++ st.behind)) (sym st.count) ∙ take-append_seam s st.behind

  behind_is : drop n (rest_of old) ≡ st.behind
  behind_is =
      ap (drop n) st.bytes_are ∙ ap (λ (k : ℕ). drop k (s ++ st.behind)) (sym st.count) ∙ drop-append_seam s st.behind

  pub before_is : before new ≡ before old ++ s
  before_is =
      ap (take new.cursor.index) text ∙ ap (λ (k : ℕ). take k old.draft.text.items) index ∙ take-add old.cursor.index n old.draft.text.items
      ∙ ap (λ (x : List ℕ). before old ++ x) taken

  rest_is : rest_of new ≡ st.behind
  rest_is =
      ap (drop new.cursor.index) text ∙ ap (λ (k : ℕ). drop k old.draft.text.items) index ∙ sym (drop-drop n old.cursor.index old.draft.text.items) ∙ behind_is

  pub reads_more : new.cursor.place ≡ place_behind old.cursor.place (take n (rest_of old)) → tokens_in new.draft ≡ tokens_in old.draft ++ ts (before old)
      → StepsTo true old new
  reads_more place tokens = (
    record {
      pieces = read.pieces ++ st.piece ∷ [];
      bytes_are = before_is ∙ ap (λ (x : List ℕ). x ++ s) read.bytes_are ∙ sym (bytes_more read.pieces st.piece);
      each = subst (AreVPiecesBefore (read.pieces ++ st.piece ∷ [])) (sym rest_is)
          (pieces_more read.pieces st.piece st.behind (subst (AreVPiecesBefore read.pieces) st.bytes_are read.each) st.is);
      place_is = place ∙ ap (place_behind old.cursor.place) taken ∙ ap (λ (p : VPlace). place_behind p s) read.place_is ∙ sym (place_on (before old) s)
          ∙ ap place_after (sym before_is);
      tokens_are = tokens ∙ ap (λ (x : List PlacedToken). x ++ ts (before old)) read.tokens_are
          ∙ ap (λ (x : List PlacedToken). tokens_of_pieces [] read.pieces ++ x) (sym (st.tokens (before old)))
          ∙ ap (λ (x : List ℕ). tokens_of_pieces [] read.pieces ++ tokens_of_piece x st.piece) read.bytes_are ∙ sym (tokens_more [] read.pieces st.piece);
    },
    omega (arith, index, st.some),
  )

pub passed_read : (old new : Lexer) (n : ℕ) → HasRead old → Stands (rest_of old) n no_tokens → new.draft ≡ old.draft → Passes old n new → StepsTo true old new
passed_read old new n read st same p =
    reads_more old new n no_tokens read st (ap (λ (d : Draft). d.text.items) same) p.index p.place (ap tokens_in same ∙ sym (append-nil (tokens_in old.draft)))

abbrev placed : VToken → VPlace → PlacedToken
placed t p = record { token = t; place = p }

pub token_read : (old new : Lexer) (k : Kind) (n : ℕ) → HasRead old → TokenStands k n (rest_of old) → new.draft.text.items ≡ old.draft.text.items
    → Passes old n new
    → tokens_in new.draft ≡ tokens_in old.draft ++ placed (token_of k (take n (rest_of old))) old.cursor.place ∷ []
    → StepsTo true old new
token_read old new k n read t text p tokens =
    reads_more old new n _ read t.stands text p.index p.place
    (tokens ∙ ap (λ (q : VPlace). tokens_in old.draft ++ placed (token_of k (take n (rest_of old))) q ∷ []) read.place_is)

pub question_read : (old mid new : Lexer) (n : ℕ) → HasRead old → QuestionStands n (rest_of old)
    → mid.draft.text.items ≡ old.draft.text.items → Passes old n mid
    → tokens_in mid.draft ≡ tokens_in old.draft ++ placed (token_of kind.Constant (take n (rest_of old))) old.cursor.place ∷ []
    → new.draft.text.items ≡ mid.draft.text.items → Passes mid 1 new
    → tokens_in new.draft ≡ tokens_in mid.draft ++ placed question_digit mid.cursor.place ∷ []
    → StepsTo true old new
question_read old mid new n read q text p tokens text2 p2 tokens2 =
    reads_more old new (n + 1) _ read q.stands (text2 ∙ text) (omega (arith, p.index, p2.index)) place all
  where
    first : List ℕ
    first = take n (rest_of old)

    rest_mid : rest_of mid ≡ drop n (rest_of old)
    rest_mid = ap (drop mid.cursor.index) text ∙ ap (λ (k : ℕ). drop k old.draft.text.items) p.index ∙ sym (drop-drop n old.cursor.index old.draft.text.items)

    place : new.cursor.place ≡ place_behind old.cursor.place (take (n + 1) (rest_of old))
    place =
        p2.place ∙ ap (λ (x : VPlace). place_behind x (take 1 (rest_of mid))) p.place
        ∙ ap (λ (x : List ℕ). place_behind (place_behind old.cursor.place (take n (rest_of old))) (take 1 x)) rest_mid
        ∙ sym (place_behind_both old.cursor.place (take n (rest_of old)) (take 1 (drop n (rest_of old))))
        ∙ ap (place_behind old.cursor.place) (sym (take-add n 1 (rest_of old)))

    place_mid : mid.cursor.place ≡ place_after (before old ++ take n (rest_of old))
    place_mid =
        p.place ∙ ap (λ (x : VPlace). place_behind x (take n (rest_of old))) read.place_is ∙ sym (place_on (before old) (take n (rest_of old)))

    all : tokens_in new.draft ≡ tokens_in old.draft ++ with_question (token_of kind.Constant (take n (rest_of old))) (take n (rest_of old)) (before old)
    all =
        tokens2 ∙ ap (λ (x : List PlacedToken). x ++ placed question_digit mid.cursor.place ∷ []) tokens
        ∙ append_assoc (tokens_in old.draft) (placed (token_of kind.Constant (take n (rest_of old))) old.cursor.place ∷ []) (placed question_digit mid.cursor.place ∷ [])
        ∙ ap (λ (x : VPlace). tokens_in old.draft ++ placed (token_of kind.Constant (take n (rest_of old))) x ∷ placed question_digit mid.cursor.place ∷ []) read.place_is
        ∙ ap (λ (x : VPlace). tokens_in old.draft ++ placed (token_of kind.Constant (take n (rest_of old))) (place_after (before old)) ∷ placed question_digit x ∷ []) place_mid

-- ---- where the way ends

pub all_before : (ps : List VPiece) → AreVPiecesBefore ps [] → AreVPieces ps
all_before [] h = tt
all_before (p ∷ ps) h = (subst (IsVPiece p) (append-nil (flat_map bytes_of_piece ps)) h.0, all_before ps h.1)

pub has_tokens : (l : Lexer) → HasRead l → length l.draft.text.items ≤ l.cursor.index → HasTokens l.draft.text.items (tokens_in l.draft)
has_tokens l read past =
    record {
      pieces = read.pieces;
      bytes_are = sym (take_all l.cursor.index l.draft.text.items past) ∙ read.bytes_are;
      each = all_before read.pieces (subst (AreVPiecesBefore read.pieces) (drop_all l.cursor.index l.draft.text.items past) read.each);
      tokens_are = read.tokens_are;
    }

pub stops_at : (l : Lexer) (bad : BadByte) → HasRead l → BeginsNoPiece (rest_of l) → bad.place ≡ l.cursor.place
    → rest_of l ≡ bad.byte ∷ drop (l.cursor.index + 1) l.draft.text.items
    → StopsAt l.draft.text.items (tokens_in l.draft) bad
stops_at l bad read none place byte =
    record {
      pieces = read.pieces;
      rest = rest_of l;
      more = drop (l.cursor.index + 1) l.draft.text.items;
      bytes_are = sym (take-append-drop l.cursor.index l.draft.text.items) ∙ ap (λ (x : List ℕ). x ++ rest_of l) read.bytes_are;
      each = read.each;
      rest_is = byte;
      place_is = place ∙ read.place_is ∙ ap place_after read.bytes_are;
      no_piece = none;
      tokens_are = read.tokens_are;
    }

abbrev lexed : Lexer → Option BadByte → Lexed
lexed l stop = record { text = l.draft.text.items; tokens = tokens_in l.draft; stop = stop }

pub all_lexed : (l : Lexer) (bytes : List ℕ) (t : Lexed) → l.draft.text.items ≡ bytes → HasRead l → length l.draft.text.items ≤ l.cursor.index
    → t ≡ lexed l None
    → IsLexed bytes t
all_lexed l bytes t text read past e =
    subst (IsLexed bytes) (sym e) (text, inl (refl, subst (λ (b : List ℕ). HasTokens b (tokens_in l.draft)) text (has_tokens l read past)))

nothing_found : (found : Bool) (old new : Lexer) → found ≡ false → StepsTo found old new → (new ≡ old) × BeginsNoPiece (rest_of old)
nothing_found true old new h s = absurd cc
nothing_found false old new h s = s

pub stop_lexed : (found : Bool) (old new : Lexer) (bytes : List ℕ) (bad : BadByte) (t : Lexed) → HasRead old → found ≡ false → StepsTo found old new
    → new.draft.text.items ≡ bytes
    → bad.place ≡ new.cursor.place
    → rest_of new ≡ bad.byte ∷ drop (new.cursor.index + 1) new.draft.text.items
    → t ≡ lexed new (Some bad)
    → IsLexed bytes t
stop_lexed found old new bytes bad t read h s text place byte e =
    let n = nothing_found found old new h s in
    let none : BeginsNoPiece (rest_of new) = subst (λ (l : Lexer). BeginsNoPiece (rest_of l)) (sym n.0) n.1 in
    let stop = stops_at new bad (subst HasRead (sym n.0) read) none place byte in
    subst (IsLexed bytes) (sym e) (text, inr (bad, refl, subst (λ (b : List ℕ). StopsAt b (tokens_in new.draft) bad) text stop))
