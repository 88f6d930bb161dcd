-- A text that is read as a circuit spells it.
use Rattle.std.proofs.Common.{◌≡◌, List, [], ◌∷◌, Ok, refl, subst}
use Rattle.fir_ast.specs.declared.place.Place.{Place}
use Rattle.fir_ast.specs.Circuits.{CircuitTree}
use Rattle.fir_parse.specs.Lexemes.{Terminal}
use Rattle.fir_parse.specs.CircuitForms.{IsSpelled}
use Rattle.fir_parse.specs.working.States.{State, done, bound_fault, limit_of, limit, wants, Step, takes, without, refuses, unsupported}
use Rattle.fir_parse.specs.working.Reading.{Outcome, step, goes_on, at_token, at_end, read_on, whole}
use Rattle.fir_parse.proofs.Limiting.{not_passed}
use Rattle.fir_parse.proofs.FormsFound.{IsWholeText, Is, Derives, Found, Extends}
use Rattle.fir_parse.proofs.FormsFoundSteps.{extends}
use Rattle.fir_parse.specs.Limits.{Limits}

module _ (limits : Limits) where
  by_step : {T : Type 0} (P : T → List Terminal → List Terminal → Type 0) (t : Terminal) (ts : List Terminal) (u : Step T) (k : T → State) (c : CircuitTree) (behind : State → Outcome) (with_it : T → Outcome) → Extends limits P t ts u → ((next : State) → behind next ≡ Ok c → Derives limits next c ts) → ((x : T) → with_it x ≡ Ok c → Derives limits (k x) c (t ∷ ts)) → goes_on u t.place k behind with_it ≡ Ok c → Found limits P k c (t ∷ ts)
  by_step P t ts (takes g) k c behind with_it e later here h = e k c (later (g k) h)
  by_step P t ts (without x) k c behind with_it e later here h = (x, t ∷ ts, e, here x h)
  by_step P t ts refuses k c behind with_it e later here h = absurd (cc)
  by_step P t ts (unsupported p w) k c behind with_it e later here h = absurd (cc)

  derived_at_end : (end : Place) (st : State) (c : CircuitTree) → at_end (λ l. limits l []) end st ≡ Ok c → Derives limits st c []
  derived_at_end end (done x) c h = let same : x ≡ c = cc in (same, refl)
  derived_at_end end (limit b l st) c h = let kept = not_passed (limits (limit_of l) []) b (bound_fault l) (at_end (λ x. limits x []) end st) c h in (kept.0, derived_at_end end st c kept.1)
  derived_at_end end (wants s k) c h = absurd (cc)

  derived_at_token : (st : State) (t : Terminal) (ts : List Terminal) (c : CircuitTree) (behind : State → Outcome) → ((next : State) → behind next ≡ Ok c → Derives limits next c ts) → at_token (λ l. limits l (t ∷ ts)) st t behind ≡ Ok c → Derives limits st c (t ∷ ts)
  derived_at_token (done x) t ts c behind later h = absurd (cc)
  derived_at_token (limit b l st) t ts c behind later h =
      let kept = not_passed (limits (limit_of l) (t ∷ ts)) b (bound_fault l) (at_token (λ x. limits x (t ∷ ts)) st t behind) c h in
      (kept.0, derived_at_token st t ts c behind later kept.1)
  derived_at_token (wants s k) t ts c behind later h =
      by_step (Is limits s) t ts (step s t.lexeme t.place) k c behind _ (extends limits s t.lexeme t.place ts) later (λ x e. derived_at_token (k x) t ts c behind later e) h

  -- what a state is read on with, it derives
  derived : (ts : List Terminal) (end : Place) (st : State) (c : CircuitTree) → read_on limits end st ts ≡ Ok c → Derives limits st c ts
  unfolding read_on
  derived [] end st c h = derived_at_end end st c h
  derived (t ∷ ts) end st c h = derived_at_token st t ts c (λ next. read_on limits end next ts) (λ next e. derived ts end next c e) h

  whole_text : (c : CircuitTree) (ts : List Terminal) → Derives limits whole c ts → IsSpelled limits c ts
  whole_text c ts (x, rest, y, (same, empty)) =
      let P : CircuitTree → Type 0 = λ d. IsWholeText limits d ts rest in
      let Q : List Terminal → Type 0 = λ z. IsWholeText limits c ts z in
      subst Q empty (subst P same y)

  pub forms_found : (end : Place) (ts : List Terminal) (c : CircuitTree) → read_on limits end whole ts ≡ Ok c → IsSpelled limits c ts
  forms_found end ts c h = whole_text c ts (derived ts end whole c h)
