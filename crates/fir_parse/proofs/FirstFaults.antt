-- Where reading ends with a fault, that is the first of the tokens.
use Rattle.std.proofs.Common.{◌≡◌, ℕ, Bool, true, false, List, [], ◌∷◌, ◌++◌, Some, None, Ok, Err, refl, sym, ap, ◌∙◌, ◌⊎◌, inl, inr, subst, append_assoc, append-nil}
use Rattle.fir_ast.specs.declared.place.Place.{Place}
use Rattle.fir_ast.specs.declared.fault.FirFault.{FirFault}
use Rattle.fir_ast.specs.declared.fault.FirFault.TheVariants as fault
use Rattle.fir_ast.specs.working.CodeFaults.{fault_of}
use Rattle.fir_lex.specs.TokenFaults.{literal_fault}
use Rattle.fir_parse.specs.Lexemes.{Terminal}
use Rattle.fir_parse.specs.Limits.{Limit}
use Rattle.fir_parse.specs.Fronts.{IsText, StopsAt, IsFrontWithin, all_limits, no_limit, only_numbers, only_nesting, only_versions}
use Rattle.fir_parse.specs.TextFaults.{place_at, depth_fault, version_fault, Shows, IsFirstTextFault}
use Rattle.fir_parse.specs.working.States.{State, Bound, number_at, nesting_at, version_at, bound_fault, limit_of}
use Rattle.fir_parse.specs.working.Reading.{at_end, read_on, read, whole}
use Rattle.fir_parse.specs.working.Reaching.{Verdict, unexpected, missing, judge, passed_limit, Reaches, next_verdict}
use Rattle.fir_parse.proofs.AtTokens.{Kept, none_is_kept}
use Rattle.fir_parse.proofs.StepKeeps.{whole_guarded}
use Rattle.fir_parse.proofs.Along.{guarded_along}
use Rattle.fir_parse.proofs.Completions.{origin}
use Rattle.fir_parse.proofs.Reached.{goes_on_without, reached_within, front_within, text_reads, reaches_same, by_last, Last, kept_not_passed}
use Rattle.fir_parse.proofs.PassedLimits.{token_follows, nothing_kept, IsPassedAt, passed_at}
use Rattle.fir_parse.proofs.MissingTells.{stands, missing_told}
use Rattle.fir_parse.proofs.MissingFound.{missing_found}
use Rattle.fir_parse.proofs.MissingStatements.{Ends}
use Rattle.fir_parse.proofs.Halting.{IsOpen, PassesLimit, StopsUnexpected, Halts, halts_in}

-- ---- no text goes on

stops_at_open : (front : List Terminal) (last : State) → Reaches whole front last → IsOpen last → StopsAt front []
unfolding read_on
stops_at_open front last r ends_open x =
    let text : IsText (front ++ []) = subst IsText (sym (append-nil front)) x in
    let ends : at_end (λ l. false) origin last ≡ Ok text.0 = text_reads front [] last r text in
    let fails : at_end (λ l. false) origin last ≡ Err (fault.Syntax origin) = ends_open origin in
    absurd (cc)

stops_at_token : (front back : List Terminal) (t : Terminal) (last : State) → Reaches whole front last → Ends (judge last t) → StopsAt front (t ∷ back)
stops_at_token front back t last r ends x = let goes = goes_on_without last t x.0 x.1.0 (stands front (t ∷ []) last r x) in ends goes.0 goes.1

unexpected_ends : (u : Verdict) → u ≡ unexpected → Ends u
unexpected_ends u e next h = absurd (cc)

missing_ends : (u : Verdict) (p : Place) (w : List ℕ) → u ≡ missing p w → Ends u
missing_ends u p w e next h = absurd (cc)

-- ---- a limit that is passed

abbrev ShownAt : Place → List Terminal → List Terminal → Terminal → Bound → Type 0
ShownAt end before back t l = Shows end before (t ∷ back) (fault_of (bound_fault l))

not_within : (asked : Limit → Bool) (front : List Terminal) (last : State) (l : Bound) → Reaches whole front last → passed_limit last ≡ Some l → asked (limit_of l) ≡ true → IsFrontWithin asked front → ⊥
not_within asked front last l r e h x =
    let other = reached_within asked front x in
    kept_not_passed asked last l (subst (Kept asked) (reaches_same front whole other.0 last other.1 r) other.2) e h

shown_limit : (end : Place) (before back : List Terminal) (t : Terminal) (last : State) (l : Bound) → Reaches whole (before ++ t ∷ []) last → passed_limit last ≡ Some l → IsPassedAt t last l → ShownAt end before back t l
shown_limit end before back t last (number_at p) r e h =
    inr (inr (inl (ap literal_fault h, (front_within no_limit (before ++ t ∷ []) last r (nothing_kept last), not_within only_numbers (before ++ t ∷ []) last (number_at p) r e refl))))
shown_limit end before back t last (nesting_at p) r e h =
    inr (inr (inr (inl (ap depth_fault h, (front_within no_limit (before ++ t ∷ []) last r (nothing_kept last), not_within only_nesting (before ++ t ∷ []) last (nesting_at p) r e refl)))))
shown_limit end before back t last (version_at p n) r e h =
    inr (inr (inr (inr (n, ap (λ q. version_fault q n) h.0, h.1, (front_within only_numbers (before ++ t ∷ []) last r h.2, not_within only_versions (before ++ t ∷ []) last (version_at p n) r e refl)))))

first_limit : (end : Place) (front back : List Terminal) (last : State) (f : FirFault) → Reaches whole front last → PassesLimit last f → ((front ≡ []) × (whole ≡ last)) ⊎ Last whole front last → IsFirstTextFault end (front ++ back) (fault_of f)
first_limit end front back last f r (l, e, same) (inl h) = let none : passed_limit whole ≡ Some l = ap passed_limit h.1 ∙ e in absurd (cc)
first_limit end front back last f r (l, e, same) (inr h) =
    let g = guarded_along h.before whole h.state whole_guarded h.reaches in
    let follows = token_follows h.state last h.token g h.takes in
    let reaches : Reaches whole (h.before ++ h.token ∷ []) last = subst (λ ts. Reaches whole ts last) h.parts r in
    let parts : front ++ back ≡ h.before ++ h.token ∷ back = ap (λ ts. ts ++ back) h.parts ∙ append_assoc h.before (h.token ∷ []) back in
    let shown = shown_limit end h.before back h.token last l reaches e (passed_at follows.0 h.token last l follows.1 e) in
    (h.before, h.token ∷ back, parts, subst (λ g. Shows end h.before (h.token ∷ back) (fault_of g)) (sym same) shown)

-- ---- a token that is not expected, and a form that is not in the language

first_unexpected : (end : Place) (front back : List Terminal) (last : State) (f : FirFault) → Reaches whole front last → StopsUnexpected end last back f → Shows end front back (fault_of f)
first_unexpected end front [] last f r (none, e, ends_open, same) = (ap fault_of same, front_within all_limits front last r (none_is_kept all_limits last none), stops_at_open front last r ends_open, tt)
first_unexpected end front (t ∷ back) last f r (none, e, ends_open, same) =
    let ends : Ends (judge last t) = unexpected_ends (judge last t) e in
    inl (ap fault_of same, front_within all_limits front last r (none_is_kept all_limits last none), stops_at_token front back t last r ends, λ p w m. let told = missing_told front last t p w r m ends in absurd (cc))

first_missing : (end : Place) (front back : List Terminal) (last : State) (p : Place) (w : List ℕ) → Reaches whole front last → passed_limit last ≡ None → next_verdict last back ≡ missing p w → Shows end front back (fault_of (fault.Unsupported p w))
first_missing end front [] last p w r none e = absurd (cc)
first_missing end front (t ∷ back) last p w r none e =
    inr (inl (p, w, refl, front_within all_limits front last r (none_is_kept all_limits last none), stops_at_token front back t last r (missing_ends (judge last t) p w e), missing_found front last t p w r e))

first : (end : Place) (front back : List Terminal) (last : State) (f : FirFault) → Reaches whole front last → Halts end last back f → IsFirstTextFault end (front ++ back) (fault_of f)
first end front back last f r (inl h) = first_limit end front back last f r h (by_last front whole last r)
first end front back last f r (inr (inl h)) = (front, back, refl, first_unexpected end front back last f r h)
first end front back last f r (inr (inr h)) = (front, back, refl, subst (λ g. Shows end front back (fault_of g)) (sym h.4) (first_missing end front back last h.0 h.1 r h.2 h.3))

pub first_fault : (end : Place) (ts : List Terminal) (f : FirFault) → read end ts ≡ Err f → IsFirstTextFault end ts (fault_of f)
first_fault end ts f e =
    let h = halts_in ts end whole f whole_guarded e in
    subst (λ us. IsFirstTextFault end us (fault_of f)) (sym h.parts) (first end h.front h.back h.last f h.reaches h.halts)
