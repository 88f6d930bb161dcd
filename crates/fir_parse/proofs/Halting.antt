-- Where reading stops with a fault, and with which.
use Rattle.std.proofs.Common.{◌≡◌, ℕ, true, false, List, [], ◌∷◌, ◌++◌, Option, Some, None, Ok, Err, refl, sym, ap, ◌∙◌, ◌⊎◌, inl, inr}
use Rattle.fir_ast.specs.declared.place.Place.{Place}
use Rattle.fir_ast.specs.declared.fault.FirFault.{FirFault}
use Rattle.fir_ast.specs.declared.fault.FirFault.TheVariants.{Syntax, Unsupported}
use Rattle.fir_parse.specs.Lexemes.{Terminal}
use Rattle.fir_parse.specs.working.States.{State, Bound, bound_fault}
use Rattle.fir_parse.specs.working.Reading.{Outcome, at_token, at_end, read_on}
use Rattle.fir_parse.specs.TextFaults.{place_at}
use Rattle.fir_parse.specs.working.Reaching.{Verdict, continues, unexpected, missing, judge, passed_limit, Reaches, next_verdict}
use Rattle.fir_parse.proofs.Guards.{Guarded}
use Rattle.fir_parse.proofs.AtTokens.{outcome_of, within_limits, past_limit, end_past_limit, end_within_limits, none_is_kept, ends_so}
use Rattle.fir_parse.proofs.Along.{continues_guarded}
use Rattle.fir_parse.specs.Limits.{everywhere}

-- no text ends in this state
abbrev pub IsOpen : State → Type 0
IsOpen st = (end : Place) → at_end (λ l. false) end st ≡ Err (Syntax end)

-- at the end something is expected
abbrev pub OpenAtEnd : State → List Terminal → Type 0
OpenAtEnd st [] = IsOpen st
OpenAtEnd st (t ∷ back) = Unit {0}

abbrev pub PassesLimit : State → FirFault → Type 0
PassesLimit st f = (l : Bound) × (passed_limit st ≡ Some l) × (f ≡ bound_fault l)

abbrev pub StopsUnexpected : Place → State → List Terminal → FirFault → Type 0
StopsUnexpected end st back f = (passed_limit st ≡ None) × (next_verdict st back ≡ unexpected) × OpenAtEnd st back × (f ≡ Syntax (place_at end back))

abbrev pub StopsMissing : State → List Terminal → FirFault → Type 0
StopsMissing st back f = (p : Place) × (w : List ℕ) × (passed_limit st ≡ None) × (next_verdict st back ≡ missing p w) × (f ≡ Unsupported p w)

-- reading stops in this state, before these tokens
abbrev pub Halts : Place → State → List Terminal → FirFault → Type 0
Halts end st back f = PassesLimit st f ⊎ StopsUnexpected end st back f ⊎ StopsMissing st back f

-- reading stops behind some of the tokens
pub record HaltsIn (end : Place) (st : State) (ts : List Terminal) (f : FirFault) : Type 0 where
  pub front : List Terminal
  pub back : List Terminal
  pub parts : ts ≡ front ++ back
  pub last : State
  pub reaches : Reaches st front last
  pub halts : Halts end last back f

here : (end : Place) (st : State) (ts : List Terminal) (f : FirFault) → Halts end st ts f → HaltsIn end st ts f
here end st ts f h = record { front = []; back = ts; parts = refl; last = st; reaches = refl; halts = h }

same_fault : (f g : FirFault) (o : Outcome) → o ≡ Err f → o ≡ Err g → g ≡ f
same_fault f g o p q = cc

at_the_end : (end : Place) (st : State) (f : FirFault) (o : Option Bound) → passed_limit st ≡ o → at_end (λ l. true) end st ≡ Err f → HaltsIn end st [] f
at_the_end end st f (Some l) e r = here end st [] f (inl (l, e, same_fault _ _ _ (end_past_limit (λ x. true) end st l e refl) r))
at_the_end end st f None e r =
    elim (ends_so st) as (λ u. HaltsIn end st [] f) [
      | inl x ↦ let no : at_end (λ l. false) end st ≡ Ok x.0 = x.1 end in let same : at_end (λ l. true) end st ≡ at_end (λ l. false) end st = end_within_limits (λ x. true) end st (none_is_kept (λ x. true) st e) in absurd (cc)
      | inr x ↦ here end st [] f (inr (inl (e, refl, x, same_fault _ _ _ (end_within_limits (λ x. true) end st (none_is_kept (λ x. true) st e) ∙ x end) r)))
    ]

behind : (end : Place) (st next : State) (t : Terminal) (ts : List Terminal) (f : FirFault) → passed_limit st ≡ None → judge st t ≡ continues next → HaltsIn end next ts f → HaltsIn end st (t ∷ ts) f
behind end st next t ts f none e h =
    record { front = t ∷ h.front; back = h.back; parts = ap (λ x. t ∷ x) h.parts; last = h.last; reaches = (next, none, e, h.reaches); halts = h.halts }

by_verdict : (end : Place) (st : State) (t : Terminal) (ts : List Terminal) (f : FirFault) → passed_limit st ≡ None → (u : Verdict) → judge st t ≡ u → outcome_of u t.place (λ n. read_on everywhere end n ts) ≡ Err f → ((next : State) → judge st t ≡ continues next → read_on everywhere end next ts ≡ Err f → HaltsIn end next ts f) → HaltsIn end st (t ∷ ts) f
by_verdict end st t ts f none (continues next) e r later = behind end st next t ts f none e (later next e r)
by_verdict end st t ts f none unexpected e r later = here end st (t ∷ ts) f (inr (inl (none, e, tt, same_fault _ _ _ refl r)))
by_verdict end st t ts f none (missing p w) e r later = here end st (t ∷ ts) f (inr (inr (p, w, none, e, same_fault _ _ _ refl r)))

by_limit : (end : Place) (st : State) (t : Terminal) (ts : List Terminal) (f : FirFault) → Guarded st → (o : Option Bound) → passed_limit st ≡ o → at_token (λ l. true) st t (λ n. read_on everywhere end n ts) ≡ Err f → ((next : State) → judge st t ≡ continues next → read_on everywhere end next ts ≡ Err f → HaltsIn end next ts f) → HaltsIn end st (t ∷ ts) f
by_limit end st t ts f g (Some l) e r later = here end st (t ∷ ts) f (inl (l, e, same_fault _ _ _ (past_limit (λ x. true) st l t _ e refl) r))
by_limit end st t ts f g None e r later = by_verdict end st t ts f e (judge st t) refl (sym (within_limits (λ x. true) st t _ g (none_is_kept (λ x. true) st e)) ∙ r) later

-- where reading ends with a fault, it stops so
pub halts_in : (ts : List Terminal) (end : Place) (st : State) (f : FirFault) → Guarded st → read_on everywhere end st ts ≡ Err f → HaltsIn end st ts f
unfolding read_on
halts_in [] end st f g r = at_the_end end st f (passed_limit st) refl r
halts_in (t ∷ ts) end st f g r = by_limit end st t ts f g (passed_limit st) refl r (λ next e q. halts_in ts end next f (continues_guarded st next t g e) q)
