-- Reading ends with the first fault of the tokens, and so they have one at most, and spell no tree.
use Rattle.std.proofs.Common.{◌≡◌, ℕ, true, false, List, [], ◌∷◌, ◌++◌, Some, None, Ok, Err, refl, sym, ap, ◌∙◌, subst, inl, inr, append_assoc, append-nil}
use Rattle.fir_ast.specs.declared.place.Place.{Place}
use Rattle.fir_ast.specs.declared.fault.FirFault.{FirFault}
use Rattle.fir_ast.specs.declared.fault.FirFault.TheVariants as fault
use Rattle.fir_ast.specs.Faults.{Fault}
use Rattle.fir_ast.specs.working.CodeFaults.{fault_of}
use Rattle.fir_ast.specs.Circuits.{CircuitTree}
use Rattle.fir_parse.specs.Lexemes.{Terminal}
use Rattle.fir_parse.specs.Limits.{everywhere}
use Rattle.fir_parse.specs.CircuitForms.{IsSpelled}
use Rattle.fir_parse.specs.Fronts.{IsText, IsFront, StopsAt, all_limits, no_limit, only_numbers, only_nesting, only_versions}
use Rattle.fir_parse.specs.TextFaults.{version_fault, place_at, NoneIsMissing, IsInteger, ShowsUnexpected, ShowsUnsupported, ShowsLimit, Shows, IsFirstTextFault}
use Rattle.fir_parse.specs.working.States.{State, Bound, number_at, nesting_at, version_at, bound_fault}
use Rattle.fir_parse.specs.working.Reading.{Outcome, at_end, read_on, read, whole}
use Rattle.fir_parse.specs.working.Reaching.{Verdict, continues, unexpected, missing, judge, passed_limit, Reaches}
use Rattle.fir_parse.proofs.Guards.{Guarded}
use Rattle.fir_parse.proofs.AtTokens.{outcome_of, within_limits, past_limit, end_past_limit, end_within_limits, none_is_kept, kept_is_none, ends_so}
use Rattle.fir_parse.proofs.StepKeeps.{whole_guarded}
use Rattle.fir_parse.proofs.Along.{guarded_along, along_within_limits}
use Rattle.fir_parse.proofs.Completions.{origin}
use Rattle.fir_parse.proofs.Completable.{completable}
use Rattle.fir_parse.proofs.Reached.{reached_within, front_within, is_front_by, reaches_split}
use Rattle.fir_parse.proofs.PassedLimits.{token_follows, passes_number, passes_nesting, passes_version}
use Rattle.fir_parse.proofs.Keeping.{Kind, Follows}
use Rattle.fir_parse.proofs.MissingTells.{missing_told}
use Rattle.fir_parse.proofs.MissingFound.{missing_found}
use Rattle.fir_parse.proofs.MissingStatements.{Ends}
use Rattle.fir_parse.proofs.FormsReadCircuits.{forms_read}

-- a limit that is passed is shown at once
limit_reads : (end : Place) (last : State) (back : List Terminal) (l : Bound) → passed_limit last ≡ Some l → read_on everywhere end last back ≡ Err (bound_fault l)
unfolding read_on
limit_reads end last [] l e = end_past_limit (λ x. true) end last l e refl
limit_reads end last (t ∷ back) l e = past_limit (λ x. true) last l t _ e refl

-- what is reached is the front of a text
is_front : (front : List Terminal) (last : State) → Reaches whole front last → IsFront front
is_front front last r = let c = completable last (guarded_along front whole last whole_guarded r) in (c.more, is_front_by front last [] c.more c.circuit r (c.completes origin))

reaches_on : (front : List Terminal) (st last next : State) (t : Terminal) → Reaches st front last → passed_limit last ≡ None → judge last t ≡ continues next → Reaches st (front ++ t ∷ []) next
reaches_on [] st last next t r none e = (next, ap passed_limit r ∙ none, ap (λ x. judge x t) r ∙ e, refl)
reaches_on (u ∷ front) st last next t r none e = (r.0, r.1, r.2, reaches_on front r.0 last next t r.3 none e)

stops_ends : (front back : List Terminal) (t : Terminal) (last : State) → Reaches whole front last → passed_limit last ≡ None → StopsAt front (t ∷ back) → Ends (judge last t)
stops_ends front back t last r none stops next e = stops (is_front (front ++ t ∷ []) next (reaches_on front whole last next t r none e))

ended_text : (front : List Terminal) (last : State) (c : CircuitTree) → Reaches whole front last → ((end : Place) → at_end (λ l. false) end last ≡ Ok c) → IsText front
unfolding read_on
ended_text front last c r h = subst IsText (append-nil front) (is_front_by front last [] [] c r (h origin))

open_reads : (end : Place) (last : State) (front : List Terminal) → Reaches whole front last → passed_limit last ≡ None → StopsAt front [] → at_end (λ l. true) end last ≡ Err (fault.Syntax end)
open_reads end last front r none stops =
    elim (ends_so last) as (λ u. at_end (λ l. true) end last ≡ Err (fault.Syntax end)) [
      | inl x ↦ absurd (stops (ended_text front last x.0 r x.1))
      | inr x ↦ end_within_limits (λ l. true) end last (none_is_kept (λ l. true) last none) ∙ x end
    ]

verdict_reads : (end : Place) (last : State) (t : Terminal) (back : List Terminal) (u : Verdict) → Guarded last → passed_limit last ≡ None → judge last t ≡ u → read_on everywhere end last (t ∷ back) ≡ outcome_of u t.place (λ n. read_on everywhere end n back)
unfolding read_on
verdict_reads end last t back u g none e = within_limits (λ l. true) last t _ g (none_is_kept (λ l. true) last none) ∙ ap (λ x. outcome_of x t.place (λ n. read_on everywhere end n back)) e

-- a token that is not expected
by_verdict : (end : Place) (front back : List Terminal) (t : Terminal) (last : State) (u : Verdict) → Reaches whole front last → Guarded last → passed_limit last ≡ None → Ends (judge last t) → NoneIsMissing front (t ∷ back) → judge last t ≡ u → read_on everywhere end last (t ∷ back) ≡ Err (fault.Syntax t.place)
by_verdict end front back t last (continues next) r g none ends not_missing e = absurd (ends next e)
by_verdict end front back t last unexpected r g none ends not_missing e = verdict_reads end last t back unexpected g none e
by_verdict end front back t last (missing p w) r g none ends not_missing e = absurd (not_missing p w (missing_found front last t p w r e))

unexpected_reads : (end : Place) (front back : List Terminal) (last : State) → Reaches whole front last → Guarded last → passed_limit last ≡ None → StopsAt front back → NoneIsMissing front back → read_on everywhere end last back ≡ Err (fault.Syntax (place_at end back))
unfolding read_on
unexpected_reads end front [] last r g none stops not_missing = open_reads end last front r none stops
unexpected_reads end front (t ∷ back) last r g none stops not_missing = by_verdict end front back t last (judge last t) r g none (stops_ends front back t last r none stops) not_missing refl

-- reading up to the last token that shows it
read_to : (end : Place) (front back : List Terminal) (last : State) (f : FirFault) → Reaches whole front last → read_on everywhere end last back ≡ Err f → read end (front ++ back) ≡ Err f
read_to end front back last f r h = along_within_limits everywhere front whole last end back whole_guarded r ∙ h

read_past : (end : Place) (front back : List Terminal) (t : Terminal) (last : State) (l : Bound) → Reaches whole (front ++ t ∷ []) last → passed_limit last ≡ Some l → read end (front ++ t ∷ back) ≡ Err (bound_fault l)
read_past end front back t last l r e = ap (read end) (sym (append_assoc front (t ∷ []) back)) ∙ read_to end (front ++ t ∷ []) back last (bound_fault l) r (limit_reads end last back l e)

-- what the token is to the state behind it
behind : (front : List Terminal) (t : Terminal) (last : State) → Reaches whole (front ++ t ∷ []) last → (kind : Kind) × Follows kind t last
behind front t last r = let parts = reaches_split front t whole last r in token_follows parts.0 last t (guarded_along front whole parts.0 whole_guarded parts.1) parts.3

same_number : (t : Terminal) (n m : ℕ) → IsInteger n t → IsInteger m t → n ≡ m
same_number t n m (s, e, v) (u, f, w) = let same : s ≡ u = cc in cc

-- reading ends with this fault
abbrev pub EndsWith : Outcome → Fault → Type 0
EndsWith o f = (g : FirFault) × (o ≡ Err g) × (f ≡ fault_of g)

unexpected_shown : (end : Place) (front back : List Terminal) (f : Fault) → ShowsUnexpected end front back f → EndsWith (read end (front ++ back)) f
unexpected_shown end front back f (e, within, stops, not_missing) =
    let x = reached_within all_limits front within in
    let g = guarded_along front whole x.0 whole_guarded x.1 in
    let reads = unexpected_reads end front back x.0 x.1 g (kept_is_none x.0 x.2) stops not_missing in
    (fault.Syntax (place_at end back), read_to end front back x.0 (fault.Syntax (place_at end back)) x.1 reads, e)

unsupported_shown : (end : Place) (front back : List Terminal) (t : Terminal) (f : Fault) → ShowsUnsupported front t back f → EndsWith (read end (front ++ t ∷ back)) f
unsupported_shown end front back t f (p, w, e, within, stops, m) =
    let x = reached_within all_limits front within in
    let g = guarded_along front whole x.0 whole_guarded x.1 in
    let none = kept_is_none x.0 x.2 in
    let reads =
    verdict_reads end x.0 t back (missing p w) g none (missing_told front x.0 t p w x.1 m (stops_ends front back t x.0 x.1 none stops)) in
    (fault.Unsupported p w, read_to end front (t ∷ back) x.0 (fault.Unsupported p w) x.1 reads, e)

limit_shown : (end : Place) (front back : List Terminal) (t : Terminal) (f : Fault) → ShowsLimit front t f → EndsWith (read end (front ++ t ∷ back)) f
limit_shown end front back t f (inl (e, (within, passed))) =
    let x = reached_within no_limit (front ++ t ∷ []) within in
    let kind = behind front t x.0 x.1 in
    let past = passes_number kind.0 t x.0 kind.1 (λ k. passed (front_within only_numbers (front ++ t ∷ []) x.0 x.1 k)) in
    (fault.BadLiteral t.place, read_past end front back t x.0 (number_at t.place) x.1 past, e)
limit_shown end front back t f (inr (inl (e, (within, passed)))) =
    let x = reached_within no_limit (front ++ t ∷ []) within in
    let kind = behind front t x.0 x.1 in
    let past = passes_nesting kind.0 t x.0 kind.1 (λ k. passed (front_within only_nesting (front ++ t ∷ []) x.0 x.1 k)) in
    (fault.Depth t.place, read_past end front back t x.0 (nesting_at t.place) x.1 past, e)
limit_shown end front back t f (inr (inr (n, e, i, (within, passed)))) =
    let x = reached_within only_numbers (front ++ t ∷ []) within in
    let kind = behind front t x.0 x.1 in
    let v = passes_version kind.0 t x.0 kind.1 x.2 (λ k. passed (front_within only_versions (front ++ t ∷ []) x.0 x.1 k)) in
    let number : n ≡ v.0 = same_number t n v.0 i v.1 in
    (fault.Version t.place v.0, read_past end front back t x.0 (version_at t.place v.0) x.1 v.2, e ∙ ap (version_fault t.place) number)

shown_reads : (end : Place) (front back : List Terminal) (f : Fault) → Shows end front back f → EndsWith (read end (front ++ back)) f
shown_reads end front [] f h = unexpected_shown end front [] f h
shown_reads end front (t ∷ back) f (inl h) = unexpected_shown end front (t ∷ back) f h
shown_reads end front (t ∷ back) f (inr (inl h)) = unsupported_shown end front back t f h
shown_reads end front (t ∷ back) f (inr (inr h)) = limit_shown end front back t f h

pub first_reads : (end : Place) (ts : List Terminal) (f : Fault) → IsFirstTextFault end ts f → EndsWith (read end ts) f
first_reads end ts f (front, back, parts, shows) = let h = shown_reads end front back f shows in (h.0, ap (read end) parts ∙ h.1, h.2)

same_end : (o : Outcome) (f g : Fault) → EndsWith o f → EndsWith o g → f ≡ g
same_end o f g (a, is_a, e) (b, is_b, d) = let same : a ≡ b = cc in e ∙ ap fault_of same ∙ sym d

pub one_fault : (end : Place) (ts : List Terminal) (f g : Fault) → IsFirstTextFault end ts f → IsFirstTextFault end ts g → f ≡ g
one_fault end ts f g p q = same_end (read end ts) f g (first_reads end ts f p) (first_reads end ts g q)

pub no_tree : (end : Place) (ts : List Terminal) (f : Fault) (c : CircuitTree) → IsFirstTextFault end ts f → IsSpelled everywhere c ts → ⊥
no_tree end ts f c p s = let fails = (first_reads end ts f p).1 in let ends = forms_read everywhere end ts c s in absurd (cc)
