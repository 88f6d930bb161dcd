-- A text that is lexed is lines with these tokens.
use Rattle.std.proofs.Common.{◌≡◌, ℕ, zero, suc, ◌+◌, ◌*◌, ◌<◌, ◌≤◌, Bool, true, false, eqb, List, [], ◌∷◌, ◌++◌, length, map, drop, replicate, Option, Some, None, Ok, position, refl, sym, ap, ◌∙◌, inl, inr, subst, append_assoc, length-append, drop_at, arith}
use Rattle.std.specs.List.{AllByRecursion}
use Rattle.std.proofs.lemmas.Bool.{both_ways, eqb-false}
use Rattle.std.proofs.lemmas.List.Elements.{All-from_recursion}
use Rattle.fir_lex.specs.Tokens.{Placed, line_end}
use Rattle.fir_lex.specs.working.Levels.{Move, move_to}
use Rattle.fir_lex.specs.working.Lexed.{placed_at, is_idle, lexed}
use Rattle.fir_lex.specs.Pieces.{Piece, blank, information, spelled, IsBlank, bytes_of_pieces, ArePieces}
use Rattle.fir_lex.specs.Lines.{idle, full, line_bytes, text_of, IsComment, EndsLine, BeginsLine}
use Rattle.fir_lex.specs.TokensOf.{place_after, stands_after, tokens_of_pieces, HaveTokens, AreTokensOf}
use Rattle.fir_lex.proofs.Way.{way_tab, way_unmet, blanks_of}
use Rattle.fir_lex.proofs.Runs.{blank_kind, Run, run}
use Rattle.fir_lex.proofs.Positions.{none_passes}
use Rattle.fir_lex.proofs.LevelMoves.{with_base, move_found}
use Rattle.fir_lex.proofs.LineEnds.{tail}
use Rattle.fir_lex.proofs.LineEndsFound.{TailFound, tail_found}
use Rattle.fir_lex.proofs.LineSteps.{at_line_after, in_line_after, idle_over, Met, spaces_over}
use Rattle.fir_lex.proofs.LexedLines.{InLine, AtLine, FindsInLine, FindsAtLine, ShorterAtLine, split, nothing_left, in_line}

-- ---- idle lines

idle_more : (blanks behind bytes : List ℕ) → AllByRecursion IsBlank blanks → bytes ≡ blanks ++ behind → 0 < length bytes → TailFound behind
    → ShorterAtLine bytes → FindsAtLine bytes
idle_more blanks behind bytes all parts some t shorter levels before ts h =
    let line : List ℕ = (blanks ++ t.comment) ++ t.end in
    let are = All-from_recursion IsBlank blanks all in
    let whole : bytes ≡ line ++ t.behind = parts ∙ ap (λ (x : List ℕ). blanks ++ x) t.parts ∙ simp append_assoc in
    let over = sym (idle_over levels before blanks t.comment t.end t.behind are t.is_comment t.ends) ∙ ap (at_line_after levels before) (sym whole) ∙ h in
    lines_more (shorter t.behind (less behind refl) levels (before ++ line) ts over)
  where
    less : (x : List ℕ) → behind ≡ x → length t.behind < length bytes
    less [] e = omega (arith, ap length e, ap length t.parts, length-append t.comment (t.end ++ t.behind), length-append t.end t.behind)
    less (b ∷ bs) e =
        let fewer = t.shorter (λ none. let off : b ∷ bs ≡ [] = sym e ∙ none in absurd (cc)) in
        omega (arith, ap length parts, length-append blanks behind)

    lines_more : AtLine levels (before ++ ((blanks ++ t.comment) ++ t.end)) t.behind ts → AtLine levels before bytes ts
    lines_more a = record {
      lines = idle blanks t.comment t.end ∷ a.lines;
      parts = parts ∙ ap (λ (x : List ℕ). blanks ++ x) t.parts ∙ simp append_assoc (ap (λ (x : List ℕ). blanks ++ (t.comment ++ (t.end ++ x))) a.parts);
      are = ((All-from_recursion IsBlank blanks all, t.is_comment, subst (EndsLine t.comment t.end) a.parts t.ends), a.are);
      have = a.have;
    }

-- ---- other lines

pub spaces_of : (s : List ℕ) → AllByRecursion IsBlank s → AllByRecursion (λ c. eqb c 9 ≡ false) s → s ≡ replicate (length s) 32
spaces_of [] all none = refl
spaces_of (b ∷ bs) (inl e, all) none = rw e (ap {B = List ℕ} (λ (x : List ℕ). 32 ∷ x) (spaces_of bs all none.1))
spaces_of (b ∷ bs) (inr e, all) none = absurd (eqb-false b 9 none.0 e)

pub begins : (ps : List Piece) (comment end behind : List ℕ) → Met (bytes_of_pieces ps ++ ((comment ++ end) ++ behind))
    → ArePieces ps ((comment ++ end) ++ behind) → IsComment comment → EndsLine comment end behind → BeginsLine ps
begins [] comment end behind met are c e =
    both_ways (is_idle ((comment ++ end) ++ behind)) met.busy (ap is_idle (append_assoc comment end behind) ∙ (tail comment end behind c e).idle)
begins (blank b ∷ ps) comment end behind met are c e = met.no_blank are.0
begins (information content ∷ ps) comment end behind met are c e = tt
begins (spelled t s ∷ ps) comment end behind met are c e = tt

full_more : (n : ℕ) (behind bytes levels before : List ℕ) (m : Move) (rest ts : List Placed) → bytes ≡ replicate n 32 ++ behind → Met behind
    → move_to n levels ≡ Some m → ts ≡ placed_at (place_after (before ++ replicate n 32)) m.tokens ++ rest
    → InLine m.levels (before ++ replicate n 32) behind rest → AtLine levels before bytes ts
full_more n behind bytes levels before m rest ts parts met moves tokens l =
    let first : List ℕ = before ++ replicate n 32 in
    let own : List ℕ = bytes_of_pieces l.pieces in
    let whole : ((first ++ own) ++ l.comment) ++ l.end ≡ before ++ line_bytes (full n l.pieces l.comment l.end) = simp append_assoc in record {
      lines = full n l.pieces l.comment l.end ∷ l.lines;
      parts = parts ∙ ap (λ (x : List ℕ). replicate n 32 ++ x) l.parts ∙ simp append_assoc;
      are = ((begins l.pieces l.comment l.end (text_of l.lines) (subst Met l.parts met) l.are l.is_comment l.ends, l.are, l.is_comment, l.ends), l.are_lines);
      have = (
        m.tokens,
        with_base m.levels,
        l.rest,
        move_found n levels m moves,
        tokens ∙ ap (λ (x : List Placed). placed_at (place_after first) m.tokens ++ x) l.tokens
            ∙ sym (append_assoc (map (stands_after first) m.tokens) (tokens_of_pieces first l.pieces)
            (stands_after ((first ++ own) ++ l.comment) line_end ∷ l.rest)),
        subst (λ (x : List ℕ). HaveTokens x (with_base m.levels) l.lines l.rest) whole l.have,
      );
    }

-- ---- a line

-- behind the blanks at the front of some bytes
pub record Blanks (bytes : List ℕ) : Type 0 where
  pub behind : List ℕ
  pub parts : bytes ≡ blanks_of bytes ++ behind
  pub all : AllByRecursion IsBlank (blanks_of bytes)
  pub left : drop (length (blanks_of bytes)) bytes ≡ behind
  pub met : is_idle behind ≡ false → Met behind

pub blanks : (bytes : List ℕ) → Blanks bytes
blanks bytes =
    let r : Run blank_kind bytes = run blank_kind bytes in record {
      behind = r.behind;
      parts = r.parts;
      all = r.all;
      left = ap (drop (length (blanks_of bytes))) r.parts ∙ drop_at (blanks_of bytes) r.behind (length (blanks_of bytes)) refl;
      met = λ e. record { no_blank = r.ends; busy = e };
    }

by_move : (b : ℕ) (bs : List ℕ) (r : Blanks (b ∷ bs)) (o : Option Move) → is_idle r.behind ≡ false → position (λ c. eqb c 9) (blanks_of (b ∷ bs)) ≡ None
    → (levels before : List ℕ) (ts : List Placed) → move_to (length (blanks_of (b ∷ bs))) levels ≡ o → FindsInLine r.behind
    → at_line_after levels before (b ∷ bs) ≡ Ok ts → AtLine levels before (b ∷ bs) ts
by_move b bs r None busy tab levels before ts e deeper h =
    let off = sym (way_unmet levels (place_after before) (b ∷ bs) (omega arith) (ap is_idle r.left ∙ busy) tab e) ∙ h in absurd (cc)
by_move b bs r (Some m) busy tab levels before ts e deeper h =
    let n = length (blanks_of (b ∷ bs)) in
    let spaces = spaces_of (blanks_of (b ∷ bs)) r.all (none_passes (λ c. eqb c 9) (blanks_of (b ∷ bs)) tab) in
    let parts : b ∷ bs ≡ replicate n 32 ++ r.behind = r.parts ∙ ap (λ (x : List ℕ). x ++ r.behind) spaces in
    let met = r.met busy in
    let s = split (place_after (before ++ replicate n 32)) m.tokens (in_line_after m.levels (before ++ replicate n 32) r.behind) ts
    (sym (spaces_over n levels before r.behind m met e) ∙ ap (at_line_after levels before) (sym parts) ∙ h) in
    full_more n r.behind (b ∷ bs) levels before m s.rest ts parts met e s.tokens (deeper m.levels (before ++ replicate n 32) s.rest s.is)

by_tab : (b : ℕ) (bs : List ℕ) (r : Blanks (b ∷ bs)) (o : Option ℕ) → is_idle r.behind ≡ false → position (λ c. eqb c 9) (blanks_of (b ∷ bs)) ≡ o
    → FindsInLine r.behind → FindsAtLine (b ∷ bs)
by_tab b bs r (Some k) busy e deeper levels before ts h =
    let off = sym (way_tab levels (place_after before) (b ∷ bs) k (omega arith) (ap is_idle r.left ∙ busy) e) ∙ h in absurd (cc)
by_tab b bs r None busy e deeper levels before ts h = by_move b bs r (move_to (length (blanks_of (b ∷ bs))) levels) busy e levels before ts refl deeper h

by_idle : (b : ℕ) (bs : List ℕ) (r : Blanks (b ∷ bs)) (t : Bool) → is_idle r.behind ≡ t → FindsInLine r.behind → ShorterAtLine (b ∷ bs) → FindsAtLine (b ∷ bs)
by_idle b bs r true e deeper shorter = idle_more (blanks_of (b ∷ bs)) r.behind (b ∷ bs) r.all r.parts (omega arith) (tail_found r.behind e) shorter
by_idle b bs r false e deeper shorter = by_tab b bs r (position (λ c. eqb c 9) (blanks_of (b ∷ bs))) e refl deeper

at_line : (bytes : List ℕ) → ((bs : List ℕ) → length bs ≤ length bytes → FindsInLine bs) → ShorterAtLine bytes → FindsAtLine bytes
at_line [] deeper shorter = nothing_left
at_line (b ∷ bs) deeper shorter =
    let r = blanks (b ∷ bs) in
    by_idle b bs r (is_idle r.behind) refl (deeper r.behind (omega (arith, ap length r.parts, length-append (blanks_of (b ∷ bs)) r.behind))) shorter

-- ---- all lines

mutual
  find_in_line : (fuel : ℕ) (bytes : List ℕ) → 2 * length bytes < fuel → FindsInLine bytes
  find_in_line zero bytes lt = absurd (omega arith)
  find_in_line (suc fuel) bytes lt = in_line bytes (λ bs less. find_in_line fuel bs (omega arith)) (λ bs less. find_at_line fuel bs (omega arith))

  find_at_line : (fuel : ℕ) (bytes : List ℕ) → 2 * length bytes + 1 < fuel → FindsAtLine bytes
  find_at_line zero bytes lt = absurd (omega arith)
  find_at_line (suc fuel) bytes lt = at_line bytes (λ bs le. find_in_line fuel bs (omega arith)) (λ bs less. find_at_line fuel bs (omega arith))

pub lexed_is_spelled : (bytes : List ℕ) (ts : List Placed) → lexed bytes ≡ Ok ts → AreTokensOf bytes ts
lexed_is_spelled bytes ts h =
    let a = find_at_line (2 * length bytes + 2) bytes (omega arith) [] [] ts h in (a.lines, a.parts, a.are, a.have)
