-- What is lexed of a piece, of the end of a line, of an idle line, and of the spaces of a line, before what stands behind them.
use Rattle.std.proofs.Common.{◌≡◌, ℕ, zero, suc, ◌+◌, ◌<◌, ◌≤◌, Bool, true, false, eqb, List, [], ◌∷◌, ◌++◌, length, take, drop, replicate, All, Some, position, refl, sym, ap, ◌∙◌, inl, inr, subst, append_assoc, append-nil, length-append, take_at, drop_at, Ok, None, arith}
use Rattle.std.specs.Prelude.{take_while}
use Rattle.std.specs.List.{AllByRecursion}
use Rattle.std.proofs.lemmas.Bool.{or_from, ne_eqb}
use Rattle.std.proofs.lemmas.List.{length-replicate}
use Rattle.std.proofs.lemmas.List.Elements.{recursion_from_All}
use Rattle.fir_base.proofs.Empty.{empty_left}
use Rattle.fir_ast.specs.declared.place.Place.{Place}
use Rattle.fir_lex.specs.Tokens.{Token, line_end}
use Rattle.fir_lex.specs.working.Bytes.{place_behind, ends_line, is_blank}
use Rattle.fir_lex.specs.working.Front.{Front, found, passed, comment_length}
use Rattle.fir_lex.specs.working.Levels.{Move, move_to}
use Rattle.fir_lex.specs.working.Lexed.{Lexed, with_tokens, is_idle, idle_length, closed_at, lexed_from}
use Rattle.fir_lex.specs.Spelled.{IsSpelledToken}
use Rattle.fir_lex.specs.Longest.{BeginsWithNo, IsLongest}
use Rattle.fir_lex.specs.Pieces.{Piece, blank, information, spelled, IsBlank, IsInformation, bytes_of_pieces, ArePieces}
use Rattle.fir_lex.specs.Lines.{IsComment, EndsLine, BeginsLine}
use Rattle.fir_lex.specs.TokensOf.{place_after}
use Rattle.fir_lex.proofs.Way.{front_at, way_ends, way_found, way_passed, way_idle, way_met, blanks_of}
use Rattle.fir_lex.proofs.Runs.{blank_kind, run_taken}
use Rattle.fir_lex.proofs.Positions.{none_found}
use Rattle.fir_lex.proofs.FrontsTaken.{Reads, blank_read, information_read, token_read, token_some}
use Rattle.fir_lex.proofs.Places.{place_on}
use Rattle.fir_lex.proofs.LineEnds.{Tail, tail}

-- what is lexed within a line, and at its beginning, behind the bytes before
abbrev pub in_line_after : List ℕ → List ℕ → List ℕ → Lexed
in_line_after levels before bytes = lexed_from levels false 0 (place_after before) bytes

abbrev pub at_line_after : List ℕ → List ℕ → List ℕ → Lexed
at_line_after levels before bytes = lexed_from levels true 0 (place_after before) bytes

arrives : (levels : List ℕ) (start : Bool) (before s behind : List ℕ)
    → lexed_from levels start 0 (place_behind (place_after before) (take (length s) (s ++ behind))) (drop (length s) (s ++ behind))
    ≡ lexed_from levels start 0 (place_after (before ++ s)) behind
arrives levels start before s behind =
    ap (λ (x : List ℕ). lexed_from levels start 0 (place_behind (place_after before) x) (drop (length s) (s ++ behind))) (take_at s behind (length s) refl)
    ∙ ap (lexed_from levels start 0 (place_behind (place_after before) s)) (drop_at s behind (length s) refl)
    ∙ ap (λ (p : Place). lexed_from levels start 0 p behind) (sym (place_on before s))

-- ---- pieces

some_bytes : (s behind : List ℕ) → 1 ≤ length s → (0 < length (s ++ behind)) × (length s ≤ length (s ++ behind))
some_bytes s behind some = (omega (arith, length-append s behind), omega (arith, length-append s behind))

pub token_over : (t : Token) (s behind before levels : List ℕ) → IsSpelledToken t s → IsLongest t behind
    → in_line_after levels before (s ++ behind) ≡ with_tokens (place_after before) (t ∷ []) (in_line_after levels (before ++ s) behind)
token_over t s behind before levels is longest =
    let some = token_some t s is in
    let bounds = some_bytes s behind some in
    let r = token_read t s behind is longest in
    way_found levels (place_after before) (s ++ behind) t (length s) bounds.0 r.0 r.1 some bounds.1
    ∙ ap (with_tokens (place_after before) (t ∷ [])) (arrives levels false before s behind)

passed_over : (s behind before levels : List ℕ) (n : ℕ) → Reads (s ++ behind) (passed n) → n ≡ length s → 1 ≤ length s
    → in_line_after levels before (s ++ behind) ≡ in_line_after levels (before ++ s) behind
passed_over s behind before levels n r long some =
    let bounds = some_bytes s behind some in
    way_passed levels (place_after before) (s ++ behind) (length s) bounds.0 r.0 (r.1 ∙ ap passed long) some bounds.1 ∙ arrives levels false before s behind

pub blank_over : (b : ℕ) (behind before levels : List ℕ) → IsBlank b → in_line_after levels before (b ∷ behind) ≡ in_line_after levels (before ++ b ∷ []) behind
blank_over b behind before levels is = passed_over (b ∷ []) behind before levels 1 (blank_read b behind is) refl (omega arith)

pub information_over : (content behind before levels : List ℕ) → IsInformation content
    → in_line_after levels before (((64 ∷ 91 ∷ content) ++ 93 ∷ []) ++ behind) ≡ in_line_after levels (before ++ ((64 ∷ 91 ∷ content) ++ 93 ∷ [])) behind
information_over content behind before levels is =
    passed_over ((64 ∷ 91 ∷ content) ++ 93 ∷ []) behind before levels (length content + 3) (information_read content behind is)
    (omega (arith, length-append content (93 ∷ []))) (omega arith)

-- ---- the end of a line

pub closes_at_line : (levels : List ℕ) (p : Place) → lexed_from levels true 0 p [] ≡ Ok (closed_at p levels)
unfolding lexed_from
closes_at_line levels p = refl

closes_in_line : (levels : List ℕ) (p : Place) → lexed_from levels false 0 p [] ≡ with_tokens p (line_end ∷ []) (lexed_from levels true 0 p [])
unfolding lexed_from
closes_in_line levels p = refl

abbrev EndOver : List ℕ → List ℕ → List ℕ → List ℕ → Type 0
EndOver levels before end behind =
    in_line_after levels before (end ++ behind) ≡ with_tokens (place_after before) (line_end ∷ []) (at_line_after levels (before ++ end) behind)

end_over : (levels before comment end behind : List ℕ) → EndsLine comment end behind → EndOver levels before end behind
end_over levels before comment end behind (inl e) =
    subst (λ (x : List ℕ). EndOver levels before x behind) (sym e.0)
    (way_ends levels (place_after before) (10 ∷ behind) (omega arith) refl
    ∙ ap (with_tokens (place_after before) (line_end ∷ [])) (arrives levels true before (10 ∷ []) behind))
end_over levels before comment end behind (inr (inl e)) =
    subst (λ (x : List ℕ). EndOver levels before x behind) (sym e)
    (way_ends levels (place_after before) (13 ∷ 10 ∷ behind) (omega arith) refl
    ∙ ap (with_tokens (place_after before) (line_end ∷ [])) (arrives levels true before (13 ∷ 10 ∷ []) behind))
end_over levels before comment end behind (inr (inr e)) =
    subst (λ (x : List ℕ). EndOver levels before x behind) (sym e.0)
    (subst (EndOver levels before []) (sym e.1)
    (closes_in_line levels (place_after before)
    ∙ ap (λ (x : List ℕ). with_tokens (place_after before) (line_end ∷ []) (at_line_after levels x [])) (sym (append-nil before))))

comment_over : (levels before comment end behind : List ℕ) → IsComment comment → EndsLine comment end behind
    → in_line_after levels before (comment ++ (end ++ behind)) ≡ in_line_after levels (before ++ comment) (end ++ behind)
comment_over levels before comment end behind (inl none) e =
    subst (λ (x : List ℕ). in_line_after levels before (x ++ (end ++ behind)) ≡ in_line_after levels (before ++ x) (end ++ behind)) (sym none)
    (ap (λ (x : List ℕ). in_line_after levels x (end ++ behind)) (sym (append-nil before)))
comment_over levels before comment end behind (inr some) e =
    let t : Tail comment end behind = tail comment end behind (inr some) e in
    let reads : Reads (comment ++ (end ++ behind)) (passed (comment_length (comment ++ (end ++ behind)))) =
    subst (λ (x : List ℕ). Reads (x ++ (end ++ behind)) (passed (comment_length (x ++ (end ++ behind))))) (sym some.1) (refl, refl) in
    passed_over comment (end ++ behind) before levels (comment_length (comment ++ (end ++ behind))) reads t.comment_long (omega (arith, ap length some.1))

-- a comment or none, and the end
pub tail_over : (levels before comment end behind : List ℕ) → IsComment comment → EndsLine comment end behind
    → in_line_after levels before ((comment ++ end) ++ behind)
    ≡ with_tokens (place_after (before ++ comment)) (line_end ∷ []) (at_line_after levels ((before ++ comment) ++ end) behind)
tail_over levels before comment end behind c e =
    ap (in_line_after levels before) (append_assoc comment end behind) ∙ comment_over levels before comment end behind c e
    ∙ end_over levels (before ++ comment) comment end behind e

-- ---- idle lines

-- so many blanks, and so many bytes up to the end
blanks_over : (levels before line behind bytes : List ℕ) (n : ℕ) → bytes ≡ line ++ behind → n ≡ length (take_while is_blank bytes)
    → is_idle (drop n bytes) ≡ true → n + idle_length (drop n bytes) ≡ length line
    → at_line_after levels before bytes ≡ at_line_after levels (before ++ line) behind
blanks_over levels before line behind [] n parts blanks counts_nothing long =
    let none = empty_left line behind (sym parts) in
    ap (at_line_after levels before) (parts ∙ ap (λ (x : List ℕ). x ++ behind) none)
    ∙ ap (λ (x : List ℕ). at_line_after levels x behind) (sym (ap (λ (x : List ℕ). before ++ x) none ∙ append-nil before))
blanks_over levels before line behind (b ∷ bs) n parts blanks counts_nothing long =
    way_idle levels (place_after before) (b ∷ bs) n (omega arith) blanks counts_nothing
    ∙ ap (λ (k : ℕ). lexed_from levels true 0 (place_behind (place_after before) (take k (b ∷ bs))) (drop k (b ∷ bs))) long
    ∙ ap (λ (x : List ℕ). lexed_from levels true 0 (place_behind (place_after before) (take (length line) x)) (drop (length line) x)) parts
    ∙ arrives levels true before line behind

pub idle_over : (levels before blanks comment end behind : List ℕ) → All IsBlank blanks → IsComment comment → EndsLine comment end behind
    → at_line_after levels before (((blanks ++ comment) ++ end) ++ behind) ≡ at_line_after levels (before ++ ((blanks ++ comment) ++ end)) behind
idle_over levels before blanks comment end behind all c e =
    let t : Tail comment end behind = tail comment end behind c e in
    let bytes : List ℕ = ((blanks ++ comment) ++ end) ++ behind in
    let parts : bytes ≡ blanks ++ (comment ++ (end ++ behind)) = simp append_assoc in
    let taken : take_while is_blank bytes ≡ blanks =
    ap (take_while is_blank) parts ∙ run_taken blank_kind blanks (comment ++ (end ++ behind)) (recursion_from_All IsBlank blanks all) t.no_blank in
    let left : drop (length blanks) bytes ≡ comment ++ (end ++ behind) =
    ap (drop (length blanks)) parts ∙ drop_at blanks (comment ++ (end ++ behind)) (length blanks) refl in
    blanks_over levels before ((blanks ++ comment) ++ end) behind bytes (length blanks) refl (ap length (sym taken)) (ap is_idle left ∙ t.idle)
    (omega (arith, ap idle_length left ∙ t.idle_long, length-append (blanks ++ comment) end, length-append blanks comment))

-- ---- the spaces of other lines

-- no blank stands behind them, and no idle line
pub record Met (bytes : List ℕ) : Type 0 where
  pub no_blank : BeginsWithNo IsBlank bytes
  pub busy : is_idle bytes ≡ false

-- blanks and comments are passed over
pub read_met : (bytes : List ℕ) (f : Front) → 0 < length bytes → Reads bytes f → ((n : ℕ) → f ≡ passed n → ⊥) → Met bytes
read_met [] f some r stays = absurd (omega arith)
read_met (b ∷ bs) f some r stays = record {
  no_blank = λ h. stays 1 (sym r.1 ∙ (blank_read b bs h).1);
  busy = or_from (ends_line (b ∷ bs)) (eqb b 59) r.0 (ne_eqb b 59 semicolon);
}
  where
    semicolon : b ≡ 59 → ⊥
    semicolon e = stays (comment_length (59 ∷ bs)) (sym (subst (λ (x : ℕ). front_at (x ∷ bs) ≡ f) e r.1))

pub pieces_met : (ps : List Piece) (behind : List ℕ) → BeginsLine ps → ArePieces ps behind → Met (bytes_of_pieces ps ++ behind)
pieces_met [] behind first are = absurd first
pieces_met (blank b ∷ ps) behind first are = absurd first
pieces_met (information content ∷ ps) behind first are = record {
  no_blank = no_blank_at;
  busy = refl;
}
  where
    no_blank_at : IsBlank 64 → ⊥
    no_blank_at (inl e) = absurd (omega arith)
    no_blank_at (inr e) = absurd (omega arith)
pieces_met (spelled t s ∷ ps) behind first are =
    subst Met (sym (append_assoc s (bytes_of_pieces ps) behind))
    (read_met (s ++ (bytes_of_pieces ps ++ behind)) (found t (length s)) (some_bytes s (bytes_of_pieces ps ++ behind) (token_some t s are.0.0)).0
    (token_read t s (bytes_of_pieces ps ++ behind) are.0.0 are.0.1) (λ n e. absurd (cc)))

pub spaces_are : (n : ℕ) → AllByRecursion IsBlank (replicate n 32)
spaces_are zero = tt
spaces_are (suc n) = (inl refl, spaces_are n)

pub no_tabs : (n : ℕ) → AllByRecursion (λ c. eqb c 9 ≡ false) (replicate n 32)
no_tabs zero = tt
no_tabs (suc n) = (refl, no_tabs n)

busy_some : (bytes : List ℕ) → is_idle bytes ≡ false → 0 < length bytes
busy_some [] e = absurd (cc)
busy_some (b ∷ bs) e = omega arith

-- blanks, and what stands behind them
pub record BlanksRead (blanks bytes : List ℕ) : Type 0 where
  pub all : blanks_of (blanks ++ bytes) ≡ blanks
  pub left : drop (length (blanks_of (blanks ++ bytes))) (blanks ++ bytes) ≡ bytes
  pub some : 0 < length (blanks ++ bytes)
  pub busy : is_idle (drop (length (blanks_of (blanks ++ bytes))) (blanks ++ bytes)) ≡ false

pub blanks_read : (blanks bytes : List ℕ) → AllByRecursion IsBlank blanks → Met bytes → BlanksRead blanks bytes
blanks_read blanks bytes are met =
    let all : blanks_of (blanks ++ bytes) ≡ blanks = run_taken blank_kind blanks bytes are met.no_blank in
    let left : drop (length (blanks_of (blanks ++ bytes))) (blanks ++ bytes) ≡ bytes =
    ap (λ (x : List ℕ). drop (length x) (blanks ++ bytes)) all ∙ drop_at blanks bytes (length blanks) refl in record {
      all = all;
      left = left;
      some = omega (arith, length-append blanks bytes, busy_some bytes met.busy);
      busy = ap is_idle left ∙ met.busy;
    }

-- so many spaces
pub record SpacesRead (n : ℕ) (bytes : List ℕ) : Type 0 where
  pub read : BlanksRead (replicate n 32) bytes
  pub no_tab : position (λ c. eqb c 9) (blanks_of (replicate n 32 ++ bytes)) ≡ None
  pub deep : length (blanks_of (replicate n 32 ++ bytes)) ≡ n

pub spaces_read : (n : ℕ) (bytes : List ℕ) → Met bytes → SpacesRead n bytes
spaces_read n bytes met =
    let r = blanks_read (replicate n 32) bytes (spaces_are n) met in record {
      read = r;
      no_tab = ap (position (λ c. eqb c 9)) r.all ∙ none_found (λ c. eqb c 9) (replicate n 32) (no_tabs n);
      deep = ap length r.all ∙ length-replicate n 32;
    }

pub spaces_over : (n : ℕ) (levels before bytes : List ℕ) (m : Move) → Met bytes → move_to n levels ≡ Some m
    → at_line_after levels before (replicate n 32 ++ bytes)
    ≡ with_tokens (place_after (before ++ replicate n 32)) m.tokens (in_line_after m.levels (before ++ replicate n 32) bytes)
spaces_over n levels before bytes m met moves =
    let spaces : List ℕ = replicate n 32 in
    let s = spaces_read n bytes met in
    way_met levels (place_after before) (spaces ++ bytes) m s.read.some s.read.busy s.no_tab (ap (λ (k : ℕ). move_to k levels) s.deep ∙ moves)
    ∙ ap (λ (x : List ℕ). with_tokens (place_behind (place_after before) (blanks_of (spaces ++ bytes))) m.tokens
    (lexed_from m.levels false 0 (place_behind (place_after before) (blanks_of (spaces ++ bytes))) x)) s.read.left
    ∙ ap (λ (x : List ℕ). with_tokens (place_behind (place_after before) x) m.tokens
    (lexed_from m.levels false 0 (place_behind (place_after before) x) bytes)) s.read.all
    ∙ ap (λ (p : Place). with_tokens p m.tokens (lexed_from m.levels false 0 p bytes)) (sym (place_on before spaces))
