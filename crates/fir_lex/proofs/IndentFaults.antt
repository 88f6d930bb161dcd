-- The spaces at the beginning of a line: what is told where a tab stands among them, and where they meet no open level.
use Rattle.std.proofs.Common.{◌≡◌, ◌≢◌, ℕ, zero, suc, eqb, List, [], ◌∷◌, ◌++◌, length, take, replicate, Option, Some, None, position, Err, refl, sym, ap, ◌∙◌, inl, inr, ◌⊎◌, subst, take_at, arith}
use Rattle.std.specs.List.{AllByRecursion}
use Rattle.fir_base.proofs.Each.{all_joined}
use Rattle.fir_ast.specs.declared.place.Place.{Place}
use Rattle.fir_ast.specs.declared.fault.FirFault.{FirFault}
use Rattle.fir_ast.specs.declared.fault.FirFault.TheVariants as fault
use Rattle.fir_ast.specs.working.CodeFaults.{fault_of}
use Rattle.fir_lex.specs.working.Bytes.{place_behind}
use Rattle.fir_lex.specs.working.Front.{Front, found, passed, bad_byte, bad_literal, front}
use Rattle.fir_lex.specs.working.Levels.{Move, move_to}
use Rattle.fir_lex.specs.working.Lexed.{Lexed, unmet}
use Rattle.fir_lex.specs.Pieces.{IsBlank}
use Rattle.fir_lex.specs.TokensOf.{place_after}
use Rattle.fir_lex.specs.TokenFaults.{BeginsBadly, IsInNoToken, Meets, IsNotIdle, MeetsNone, IsIndent, IsBadBehindIndent, LineFault}
use Rattle.fir_lex.proofs.Way.{front_at, way_tab, way_unmet, blanks_of}
use Rattle.fir_lex.proofs.Places.{place_on}
use Rattle.fir_lex.proofs.LevelMoves.{with_base, move_found, move_taken}
use Rattle.fir_lex.proofs.LineSteps.{at_line_after, Met, spaces_are, no_tabs, blanks_read, spaces_read}
use Rattle.fir_lex.proofs.BusyBytes.{busy_there, goes_on_there}
use Rattle.fir_lex.proofs.FirstPlaces.{first_found}
use Rattle.fir_lex.proofs.FrontsWrong.{Wrong, front_wrong}
use Rattle.fir_lex.proofs.FrontsRefused.{badly_from, badly_read}
use Rattle.fir_lex.proofs.FrontFaults.{stray_fault}

pub not_idle : (bytes : List ℕ) → Met bytes → IsNotIdle bytes
not_idle bytes met = (goes_on_there bytes met.busy, met.no_blank)

pub met_there : (bytes : List ℕ) → IsNotIdle bytes → Met bytes
met_there bytes h = record { no_blank = h.1; busy = busy_there bytes h.0 }

-- ---- a tab

pub tab_over : (n : ℕ) (levels before blanks behind : List ℕ) → AllByRecursion IsBlank blanks → Met behind
    → at_line_after levels before ((replicate n 32 ++ 9 ∷ blanks) ++ behind) ≡ Err (fault.Tab (place_after (before ++ replicate n 32)))
tab_over n levels before blanks behind are met =
    let spaces : List ℕ = replicate n 32 in
    let s : List ℕ = spaces ++ 9 ∷ blanks in
    let r = blanks_read s behind (all_joined IsBlank spaces (9 ∷ blanks) (spaces_are n) (inr refl, are)) met in
    let first : position (λ c. eqb c 9) s ≡ Some (length spaces) = first_found (λ c. eqb c 9) spaces 9 blanks (no_tabs n) refl in
    let taken : take (length spaces) (blanks_of (s ++ behind)) ≡ spaces = ap (take (length spaces)) r.all ∙ take_at spaces (9 ∷ blanks) (length spaces) refl in
    way_tab levels (place_after before) (s ++ behind) (length spaces) r.some r.busy (ap (position (λ c. eqb c 9)) r.all ∙ first)
    ∙ ap {B = Lexed} (λ (x : List ℕ). Err (fault.Tab (place_behind (place_after before) x))) taken
    ∙ ap {B = Lexed} (λ (p : Place). Err (fault.Tab p)) (sym (place_on before spaces))

-- ---- levels that are not met

pub none_met : (n : ℕ) (levels after : List ℕ) → move_to n levels ≡ None → Meets n (with_base levels) after → ⊥
none_met n levels after e m =
    let t = move_taken n levels m.0 after m.1 in
    let off : None ≡ Some t.move = sym e ∙ t.moves in cc

pub no_move : (n : ℕ) (levels : List ℕ) → ((after : List ℕ) → Meets n (with_base levels) after → ⊥) → move_to n levels ≡ None
no_move n levels none = by_move (move_to n levels) refl
  where
    by_move : (o : Option Move) → move_to n levels ≡ o → move_to n levels ≡ None
    by_move None e = e
    by_move (Some m) e = absurd (none (with_base m.levels) (m.tokens, move_found n levels m e))

pub unmet_over : (n : ℕ) (levels before bytes : List ℕ) → Met bytes → move_to n levels ≡ None
    → at_line_after levels before (replicate n 32 ++ bytes) ≡ Err (unmet (place_after (before ++ replicate n 32)) n bytes)
unmet_over n levels before bytes met none =
    let spaces : List ℕ = replicate n 32 in
    let s = spaces_read n bytes met in
    way_unmet levels (place_after before) (spaces ++ bytes) s.read.some s.read.busy s.no_tab (ap (λ (k : ℕ). move_to k levels) s.deep ∙ none)
    ∙ ap {B = Lexed} (λ (x : List ℕ). Err (unmet (place_behind (place_after before) (blanks_of (spaces ++ bytes))) (length (blanks_of (spaces ++ bytes))) x))
    s.read.left
    ∙ ap {B = Lexed} (λ (k : ℕ). Err (unmet (place_behind (place_after before) (blanks_of (spaces ++ bytes))) k bytes)) s.deep
    ∙ ap {B = Lexed} (λ (x : List ℕ). Err (unmet (place_behind (place_after before) x) n bytes)) s.read.all
    ∙ ap {B = Lexed} (λ (p : Place). Err (unmet p n bytes)) (sym (place_on before spaces))

pub unmet_stray : (q : Place) (n c : ℕ) (cs : List ℕ) (d : ℕ) → front c cs ≡ bad_byte zero d → unmet q n (c ∷ cs) ≡ fault.Byte q d
unmet_stray q n c cs d e = rw e refl

by_other : (q : Place) (n c : ℕ) (cs : List ℕ) (f : Front) → front c cs ≡ f → ((d : ℕ) → f ≡ bad_byte zero d → ⊥) → unmet q n (c ∷ cs) ≡ fault.Indent q n
by_other q n c cs (found t k) e none = rw e refl
by_other q n c cs (passed k) e none = rw e refl
by_other q n c cs (bad_byte zero d) e none = absurd (none d refl)
by_other q n c cs (bad_byte (suc k) d) e none = rw e refl
by_other q n c cs bad_literal e none = rw e refl

pub unmet_other : (q : Place) (n c : ℕ) (cs : List ℕ) → ((d : ℕ) → front c cs ≡ bad_byte zero d → ⊥) → unmet q n (c ∷ cs) ≡ fault.Indent q n
unmet_other q n c cs none = by_other q n c cs (front c cs) refl none

-- a byte in no token is read, or it is not
is_stray : (f : Front) → ((d : ℕ) × (f ≡ bad_byte zero d)) ⊎ ((d : ℕ) → f ≡ bad_byte zero d → ⊥)
is_stray (found t k) = inr (λ d e. absurd (cc))
is_stray (passed k) = inr (λ d e. absurd (cc))
is_stray (bad_byte zero d) = inl (d, refl)
is_stray (bad_byte (suc k) d) = inr (λ x e. let off : suc k ≡ 0 = cc in absurd (omega (arith, off)))
is_stray bad_literal = inr (λ d e. absurd (cc))

pub unmet_fault : (n : ℕ) (before behind levels : List ℕ) → Met behind → move_to n levels ≡ None
    → LineFault before (with_base levels) (replicate n 32 ++ behind) (fault_of (unmet (place_after (before ++ replicate n 32)) n behind))
unmet_fault n before [] levels met none = let off = met.busy in absurd (cc)
unmet_fault n before (c ∷ cs) levels met none =
    let meets : MeetsNone (with_base levels) n (replicate n 32 ++ c ∷ cs) (c ∷ cs) =
    (refl, not_idle (c ∷ cs) met, (λ after m. none_met n levels after none m)) in
    by_front meets (is_stray (front c cs))
  where
    stray_there : (d : ℕ) → front c cs ≡ bad_byte zero d → Wrong (c ∷ cs) (bad_byte zero d)
        → IsInNoToken (before ++ replicate n 32) (c ∷ cs) (place_after (before ++ replicate n 32)) d
    stray_there d e (inl s) = stray_fault (before ++ replicate n 32) (c ∷ cs) zero d (goes_on_there (c ∷ cs) met.busy) e s
    stray_there d e (inr p) = absurd (omega (arith, p.far))

    by_front : MeetsNone (with_base levels) n (replicate n 32 ++ c ∷ cs) (c ∷ cs)
        → ((d : ℕ) × (front c cs ≡ bad_byte zero d)) ⊎ ((d : ℕ) → front c cs ≡ bad_byte zero d → ⊥)
        → LineFault before (with_base levels) (replicate n 32 ++ c ∷ cs) (fault_of (unmet (place_after (before ++ replicate n 32)) n (c ∷ cs)))
    by_front meets (inl (d, e)) =
        let q = place_after (before ++ replicate n 32) in
        inr (inr (inl (q, d, ap fault_of (unmet_stray q n c cs d e), (n, c ∷ cs, meets, stray_there d e (subst (Wrong (c ∷ cs)) e (front_wrong c cs))))))
    by_front meets (inr other) =
        let q = place_after (before ++ replicate n 32) in
        inr
        (inl
        (q, n, ap fault_of (unmet_other q n c cs other), (c ∷ cs, meets, refl, (λ b bs same badly. other b (ap front_at same ∙ badly_read b bs badly)))))

-- ---- what is wrong is told

no_quote_there : (c : ℕ) (cs : List ℕ) (d : ℕ) → Wrong (c ∷ cs) (bad_byte zero d) → c ≢ 34
no_quote_there c cs d (inl s) e = let same : c ∷ cs ≡ d ∷ s.behind = s.parts in s.no_quote (cc)
no_quote_there c cs d (inr p) e = absurd (omega (arith, p.far))

indent_there : (q : Place) (n : ℕ) (behind : List ℕ) → IsNotIdle behind → ((b : ℕ) (bs : List ℕ) → behind ≡ b ∷ bs → BeginsBadly b bs → ⊥)
    → unmet q n behind ≡ fault.Indent q n
indent_there q n [] busy fine = absurd busy.0
indent_there q n (c ∷ cs) busy fine =
    unmet_other q n c cs
    (λ d e. fine c cs refl (badly_from c cs zero d busy.0 e (no_quote_there c cs d (subst (Wrong (c ∷ cs)) e (front_wrong c cs)))))

pub indent_told : (before levels bytes : List ℕ) (p : Place) (n : ℕ) → IsIndent before (with_base levels) bytes p n
    → at_line_after levels before bytes ≡ Err (fault.Indent p n)
indent_told before levels bytes p n h =
    let meets = h.1 in
    ap (at_line_after levels before) meets.0 ∙ unmet_over n levels before h.0 (met_there h.0 meets.1) (no_move n levels meets.2)
    ∙ ap {B = Lexed} (λ (f : FirFault). Err f) (indent_there (place_after (before ++ replicate n 32)) n h.0 meets.1 h.3)
    ∙ ap {B = Lexed} (λ (q : Place). Err (fault.Indent q n)) (sym h.2)

pub bad_behind_told : (before levels bytes : List ℕ) (p : Place) (b : ℕ) → IsBadBehindIndent before (with_base levels) bytes p b
    → at_line_after levels before bytes ≡ Err (fault.Byte p b)
bad_behind_told before levels bytes p b h =
    let n = h.0 in
    let meets = h.2 in
    let there = h.3 in
    let q : Place = place_after (before ++ replicate n 32) in
    ap (at_line_after levels before) meets.0 ∙ unmet_over n levels before h.1 (met_there h.1 meets.1) (no_move n levels meets.2)
    ∙ ap {B = Lexed} (λ (f : FirFault). Err f) (ap (unmet q n) there.1 ∙ unmet_stray q n b there.0 b (badly_read b there.0 there.2))
    ∙ ap {B = Lexed} (λ (x : Place). Err (fault.Byte x b)) (sym there.3)
