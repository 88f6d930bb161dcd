-- A fault that is told of a text is that of its tokens.
use Rattle.std.proofs.Common.{◌≡◌, ℕ, zero, suc, ◌+◌, ◌*◌, ◌<◌, ◌≤◌, Bool, true, false, eqb, List, [], ◌∷◌, ◌++◌, length, get_or, replicate, Option, Some, None, Err, position, refl, sym, ap, ◌∙◌, inl, inr, subst, append_assoc, append-nil, length-append, arith}
use Rattle.std.specs.List.{AllByRecursion}
use Rattle.std.proofs.lemmas.Bool.{eqb-true}
use Rattle.std.proofs.lemmas.List.Elements.{All-from_recursion}
use Rattle.fir_base.proofs.Each.{all_left, all_right}
use Rattle.fir_ast.specs.declared.fault.FirFault.{FirFault}
use Rattle.fir_ast.specs.declared.fault.FirFault.TheVariants as fault
use Rattle.fir_ast.specs.Faults.{Fault}
use Rattle.fir_ast.specs.working.CodeFaults.{fault_of}
use Rattle.fir_lex.specs.working.Levels.{Move, move_to}
use Rattle.fir_lex.specs.working.Lexed.{is_idle, unmet, lexed}
use Rattle.fir_lex.specs.Pieces.{Piece, blank, information, spelled, IsBlank, bytes_of_pieces, ArePieces}
use Rattle.fir_lex.specs.Lines.{idle, full, line_bytes, text_of, EndsLine}
use Rattle.fir_lex.specs.TokensOf.{place_after}
use Rattle.fir_lex.specs.TokenFaults.{MayBeginLine, LineFault, TokenFault}
use Rattle.fir_lex.proofs.Way.{blanks_of}
use Rattle.fir_lex.proofs.Positions.{none_passes}
use Rattle.fir_lex.proofs.FirstPlaces.{FirstAt, first_at}
use Rattle.fir_lex.proofs.LevelMoves.{with_base, move_found}
use Rattle.fir_lex.proofs.LineEndsFound.{TailFound, tail_found}
use Rattle.fir_lex.proofs.LineSteps.{in_line_after, at_line_after, idle_over, Met, spaces_over}
use Rattle.fir_lex.proofs.LexedText.{spaces_of, begins, Blanks, blanks}
use Rattle.fir_lex.proofs.IndentFaults.{not_idle, tab_over, unmet_over, unmet_fault}
use Rattle.fir_lex.proofs.LineFaultsFound.{LinesFault, LineHas, FailsInLine, FailsAtLine, ShorterFailsAtLine, fails_behind, same_fault, nothing_fails, in_line_fails}

-- the fault of the first line
at_once : (levels before bytes : List ℕ) (f : Fault) → LineFault before (with_base levels) bytes f → LinesFault levels before bytes f
at_once levels before bytes f h = record {
  lines = [];
  after = with_base levels;
  behind = bytes;
  parts = refl;
  are = tt;
  levels_are = refl;
  fault = subst (λ (x : List ℕ). LineFault x (with_base levels) bytes f) (sym (append-nil before)) h;
}

-- ---- idle lines

idle_more : (blanks behind bytes : List ℕ) → AllByRecursion IsBlank blanks → bytes ≡ blanks ++ behind → 0 < length bytes → TailFound behind
    → ShorterFailsAtLine bytes → FailsAtLine bytes
idle_more blanks behind bytes all parts some t shorter levels before f h =
    let line : List ℕ = (blanks ++ t.comment) ++ t.end in
    let are = All-from_recursion IsBlank blanks all in
    let whole : bytes ≡ line ++ t.behind = parts ∙ ap (λ (x : List ℕ). blanks ++ x) t.parts ∙ simp append_assoc in
    let over = sym (idle_over levels before blanks t.comment t.end t.behind are t.is_comment t.ends) ∙ ap (at_line_after levels before) (sym whole) ∙ h in
    lines_more whole (shorter t.behind (less behind refl) levels (before ++ line) f over)
  where
    less : (x : List ℕ) → behind ≡ x → length t.behind < length bytes
    less [] e = omega (arith, ap length e, ap length t.parts, length-append t.comment (t.end ++ t.behind), length-append t.end t.behind)
    less (b ∷ bs) e =
        let fewer = t.shorter (λ none. let off : b ∷ bs ≡ [] = sym e ∙ none in absurd (cc)) in
        omega (arith, ap length parts, length-append blanks behind)

    lines_more : bytes ≡ ((blanks ++ t.comment) ++ t.end) ++ t.behind → LinesFault levels (before ++ ((blanks ++ t.comment) ++ t.end)) t.behind (fault_of f)
        → LinesFault levels before bytes (fault_of f)
    lines_more whole a =
        let line : List ℕ = (blanks ++ t.comment) ++ t.end in record {
          lines = idle blanks t.comment t.end ∷ a.lines;
          after = a.after;
          behind = a.behind;
          parts = whole ∙ ap (λ (x : List ℕ). line ++ x) a.parts ∙ sym (append_assoc line (text_of a.lines) a.behind);
          are = ((All-from_recursion IsBlank blanks all, t.is_comment, subst (EndsLine t.comment t.end) a.parts t.ends), a.are);
          levels_are = a.levels_are;
          fault = subst (λ (x : List ℕ). LineFault x a.after a.behind (fault_of f)) (append_assoc before line (text_of a.lines)) a.fault;
        }

-- ---- spaces that meet a level

may_begin : (ps : List Piece) (behind : List ℕ) → Met (bytes_of_pieces ps ++ behind) → ArePieces ps behind → MayBeginLine ps
may_begin [] behind met are = tt
may_begin (blank b ∷ ps) behind met are = met.no_blank are.0
may_begin (information content ∷ ps) behind met are = tt
may_begin (spelled t s ∷ ps) behind met are = tt

full_more : (n : ℕ) (behind bytes levels before : List ℕ) (m : Move) (f : Fault) → bytes ≡ replicate n 32 ++ behind → Met behind
    → move_to n levels ≡ Some m → LineHas m.levels (before ++ replicate n 32) behind f → LinesFault levels before bytes f
full_more n behind bytes levels before m f parts met moves (inl l) =
    let spaces : List ℕ = replicate n 32 in
    at_once levels before bytes f (inr (inr (inr (
      n,
      l.pieces,
      l.behind,
      with_base m.levels,
      parts ∙ ap (λ (x : List ℕ). spaces ++ x) l.parts ∙ sym (append_assoc spaces (bytes_of_pieces l.pieces) l.behind),
      (m.tokens, move_found n levels m moves),
      may_begin l.pieces l.behind (subst Met l.parts met) l.are,
      l.are,
      l.fault,
    ))))
full_more n behind bytes levels before m f parts met moves (inr l) =
    let spaces : List ℕ = replicate n 32 in
    let own : List ℕ = bytes_of_pieces l.pieces in
    let line : List ℕ = line_bytes (full n l.pieces l.comment l.end) in
    let a = l.deep in
    let whole : (((before ++ spaces) ++ own) ++ l.comment) ++ l.end ≡ before ++ line = simp append_assoc in
    let one : bytes ≡ line ++ l.behind = parts ∙ ap (λ (x : List ℕ). spaces ++ x) l.parts ∙ simp append_assoc in
    let regroup : (l.comment ++ l.end) ++ l.behind ≡ (l.comment ++ l.end) ++ (text_of a.lines ++ a.behind) =
    ap (λ (x : List ℕ). (l.comment ++ l.end) ++ x) a.parts in record {
      lines = full n l.pieces l.comment l.end ∷ a.lines;
      after = a.after;
      behind = a.behind;
      parts = one ∙ ap (λ (x : List ℕ). line ++ x) a.parts ∙ sym (append_assoc line (text_of a.lines) a.behind);
      are = (
        (
          begins l.pieces l.comment l.end l.behind (subst Met l.parts met) l.are l.is_comment l.ends,
          subst (ArePieces l.pieces) regroup l.are,
          l.is_comment,
          subst (EndsLine l.comment l.end) a.parts l.ends,
        ),
        a.are,
      );
      levels_are = (with_base m.levels, (m.tokens, move_found n levels m moves), a.levels_are);
      fault =
          subst (λ (x : List ℕ). LineFault x a.after a.behind f)
          (ap (λ (x : List ℕ). x ++ text_of a.lines) whole ∙ append_assoc before line (text_of a.lines)) a.fault;
    }

-- ---- a line

by_move : (b : ℕ) (bs : List ℕ) (r : Blanks (b ∷ bs)) (o : Option Move) → is_idle r.behind ≡ false → position (λ c. eqb c 9) (blanks_of (b ∷ bs)) ≡ None
    → (levels before : List ℕ) (f : FirFault) → move_to (length (blanks_of (b ∷ bs))) levels ≡ o → FailsInLine r.behind
    → at_line_after levels before (b ∷ bs) ≡ Err f → LinesFault levels before (b ∷ bs) (fault_of f)
by_move b bs r o busy tab levels before f e deeper h =
    let n = length (blanks_of (b ∷ bs)) in
    let spaces = spaces_of (blanks_of (b ∷ bs)) r.all (none_passes (λ c. eqb c 9) (blanks_of (b ∷ bs)) tab) in
    let parts : b ∷ bs ≡ replicate n 32 ++ r.behind = r.parts ∙ ap (λ (x : List ℕ). x ++ r.behind) spaces in
    by_levels n o parts e (ap (at_line_after levels before) (sym parts) ∙ h)
  where
    by_levels : (n : ℕ) (o : Option Move) → b ∷ bs ≡ replicate n 32 ++ r.behind → move_to n levels ≡ o
        → at_line_after levels before (replicate n 32 ++ r.behind) ≡ Err f → LinesFault levels before (b ∷ bs) (fault_of f)
    by_levels n None parts e h =
        let same = same_fault (unmet (place_after (before ++ replicate n 32)) n r.behind) f (at_line_after levels before (replicate n 32 ++ r.behind))
        (unmet_over n levels before r.behind (r.met busy) e) h in
        at_once levels before (b ∷ bs) (fault_of f) (subst (λ g. LineFault before (with_base levels) (b ∷ bs) (fault_of g)) same
        (subst (λ (x : List ℕ). LineFault before (with_base levels) x (fault_of (unmet (place_after (before ++ replicate n 32)) n r.behind))) (sym parts)
        (unmet_fault n before r.behind levels (r.met busy) e)))
    by_levels n (Some m) parts e h =
        let first : List ℕ = before ++ replicate n 32 in
        full_more n r.behind (b ∷ bs) levels before m (fault_of f) parts (r.met busy) e
        (deeper m.levels first f (fails_behind (place_after first) m.tokens (in_line_after m.levels first r.behind) f
        (sym (spaces_over n levels before r.behind m (r.met busy) e) ∙ h)))

at_tab : (b : ℕ) (bs : List ℕ) (r : Blanks (b ∷ bs)) (k : ℕ) → is_idle r.behind ≡ false → FirstAt (λ c. eqb c 9) (blanks_of (b ∷ bs)) k → FailsAtLine (b ∷ bs)
at_tab b bs r k busy t levels before f h =
    let s : List ℕ = blanks_of (b ∷ bs) in
    let n = length t.front in
    let tab : get_or s k 0 ≡ 9 = eqb-true (get_or s k 0) 9 t.pass in
    let all : AllByRecursion IsBlank (t.front ++ get_or s k 0 ∷ t.back) = subst (AllByRecursion IsBlank) t.parts r.all in
    let spaces : t.front ≡ replicate n 32 = spaces_of t.front (all_left IsBlank t.front (get_or s k 0 ∷ t.back) all) t.fail in
    let behind = (all_right IsBlank t.front (get_or s k 0 ∷ t.back) all).1 in
    let are : s ≡ replicate n 32 ++ 9 ∷ t.back =
    t.parts ∙ ap (λ (x : ℕ). t.front ++ x ∷ t.back) tab ∙ ap (λ (x : List ℕ). x ++ 9 ∷ t.back) spaces in
    let parts : b ∷ bs ≡ (replicate n 32 ++ 9 ∷ t.back) ++ r.behind = r.parts ∙ ap (λ (x : List ℕ). x ++ r.behind) are in
    let same = same_fault (fault.Tab (place_after (before ++ replicate n 32))) f (at_line_after levels before (b ∷ bs))
    (ap (at_line_after levels before) parts ∙ tab_over n levels before t.back r.behind behind (r.met busy)) h in
    let q = place_after (before ++ replicate n 32) in
    at_once levels before (b ∷ bs) (fault_of f)
    (inl
    (q, sym (ap fault_of same), (n, t.back, r.behind, parts, All-from_recursion IsBlank t.back behind, not_idle r.behind (r.met busy), refl)))

by_tab : (b : ℕ) (bs : List ℕ) (r : Blanks (b ∷ bs)) (o : Option ℕ) → is_idle r.behind ≡ false → position (λ c. eqb c 9) (blanks_of (b ∷ bs)) ≡ o
    → FailsInLine r.behind → FailsAtLine (b ∷ bs)
by_tab b bs r (Some k) busy e deeper levels before f h = at_tab b bs r k busy (first_at (λ c. eqb c 9) (blanks_of (b ∷ bs)) k e) levels before f h
by_tab b bs r None busy e deeper levels before f h = by_move b bs r (move_to (length (blanks_of (b ∷ bs))) levels) busy e levels before f refl deeper h

by_idle : (b : ℕ) (bs : List ℕ) (r : Blanks (b ∷ bs)) (t : Bool) → is_idle r.behind ≡ t → FailsInLine r.behind → ShorterFailsAtLine (b ∷ bs)
    → FailsAtLine (b ∷ bs)
by_idle b bs r true e deeper shorter = idle_more (blanks_of (b ∷ bs)) r.behind (b ∷ bs) r.all r.parts (omega arith) (tail_found r.behind e) shorter
by_idle b bs r false e deeper shorter = by_tab b bs r (position (λ c. eqb c 9) (blanks_of (b ∷ bs))) e refl deeper

at_line_fails : (bytes : List ℕ) → ((bs : List ℕ) → length bs ≤ length bytes → FailsInLine bs) → ShorterFailsAtLine bytes → FailsAtLine bytes
at_line_fails [] deeper shorter = nothing_fails
at_line_fails (b ∷ bs) deeper shorter =
    let r = blanks (b ∷ bs) in
    by_idle b bs r (is_idle r.behind) refl (deeper r.behind (omega (arith, ap length r.parts, length-append (blanks_of (b ∷ bs)) r.behind))) shorter

-- ---- all lines

mutual
  fails_in_line : (fuel : ℕ) (bytes : List ℕ) → 2 * length bytes < fuel → FailsInLine bytes
  fails_in_line zero bytes lt = absurd (omega arith)
  fails_in_line (suc fuel) bytes lt = in_line_fails bytes (λ bs less. fails_in_line fuel bs (omega arith)) (λ bs less. fails_at_line fuel bs (omega arith))

  fails_at_line : (fuel : ℕ) (bytes : List ℕ) → 2 * length bytes + 1 < fuel → FailsAtLine bytes
  fails_at_line zero bytes lt = absurd (omega arith)
  fails_at_line (suc fuel) bytes lt = at_line_fails bytes (λ bs le. fails_in_line fuel bs (omega arith)) (λ bs less. fails_at_line fuel bs (omega arith))

pub fault_found : (bytes : List ℕ) (f : FirFault) → lexed bytes ≡ Err f → TokenFault bytes (fault_of f)
fault_found bytes f h =
    let a = fails_at_line (2 * length bytes + 2) bytes (omega arith) [] [] f h in
    (a.lines, a.after, a.behind, a.parts, a.are, a.levels_are, a.fault)
