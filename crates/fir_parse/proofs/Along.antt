-- Reading along tokens that are expected, from one state to another.
use Rattle.std.proofs.Common.{◌≡◌, List, [], ◌∷◌, ◌++◌, None, ap, subst, ◌∙◌}
use Rattle.fir_ast.specs.declared.place.Place.{Place}
use Rattle.fir_parse.specs.Lexemes.{Terminal}
use Rattle.fir_parse.specs.Limits.{Limits, nowhere}
use Rattle.fir_parse.specs.working.States.{State}
use Rattle.fir_parse.specs.working.Reading.{read_on}
use Rattle.fir_parse.specs.working.Reaching.{continues, judge, passed_limit, Reaches}
use Rattle.fir_parse.proofs.Guards.{Guarded}
use Rattle.fir_parse.proofs.AtTokens.{outcome_of, without_limits, within_limits, none_is_kept}
use Rattle.fir_parse.proofs.StepKeeps.{StaysGuarded, stays_guarded}

-- a token that is expected leads on
pub continues_without_limits : (end : Place) (st next : State) (t : Terminal) (ts : List Terminal) → judge st t ≡ continues next → read_on nowhere end st (t ∷ ts) ≡ read_on nowhere end next ts
unfolding read_on
continues_without_limits end st next t ts e =
    without_limits st t (λ n. read_on nowhere end n ts) ∙ ap (λ f. outcome_of f t.place (λ n. read_on nowhere end n ts)) e

pub continues_within_limits : (limits : Limits) (end : Place) (st next : State) (t : Terminal) (ts : List Terminal) → Guarded st → passed_limit st ≡ None → judge st t ≡ continues next → read_on limits end st (t ∷ ts) ≡ read_on limits end next ts
unfolding read_on
continues_within_limits limits end st next t ts g none e =
    within_limits (λ l. limits l (t ∷ ts)) st t (λ n. read_on limits end n ts) g (none_is_kept (λ l. limits l (t ∷ ts)) st none)
    ∙ ap (λ f. outcome_of f t.place (λ n. read_on limits end n ts)) e

pub continues_guarded : (st next : State) (t : Terminal) → Guarded st → judge st t ≡ continues next → Guarded next
continues_guarded st next t g e = subst StaysGuarded e (stays_guarded st t g)

pub guarded_along : (front : List Terminal) (st last : State) → Guarded st → Reaches st front last → Guarded last
guarded_along [] st last g r = subst Guarded r g
guarded_along (t ∷ front) st last g r = guarded_along front r.0 last (continues_guarded st r.0 t g r.2) r.3

pub along_without_limits : (front : List Terminal) (st last : State) (end : Place) (back : List Terminal) → Reaches st front last → read_on nowhere end st (front ++ back) ≡ read_on nowhere end last back
along_without_limits [] st last end back r = ap (λ n. read_on nowhere end n back) r
along_without_limits (t ∷ front) st last end back r = continues_without_limits end st r.0 t (front ++ back) r.2 ∙ along_without_limits front r.0 last end back r.3

pub along_within_limits : (limits : Limits) (front : List Terminal) (st last : State) (end : Place) (back : List Terminal) → Guarded st → Reaches st front last → read_on limits end st (front ++ back) ≡ read_on limits end last back
along_within_limits limits [] st last end back g r = ap (λ n. read_on limits end n back) r
along_within_limits limits (t ∷ front) st last end back g r =
    continues_within_limits limits end st r.0 t (front ++ back) g r.1 r.2 ∙ along_within_limits limits front r.0 last end back (continues_guarded st r.0 t g r.2) r.3
