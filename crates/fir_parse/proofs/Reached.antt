-- Tokens that begin a text and keep their limits lead from the first state to one, and those that lead to one begin such a text.
use Rattle.std.proofs.Common.{◌≡◌, ◌<◌, Bool, true, false, List, [], ◌∷◌, ◌++◌, length, Some, None, Ok, refl, sym, ap, ◌∙◌, subst, ◌⊎◌, inl, inr, arith, length-append}
use Rattle.fir_ast.specs.Circuits.{CircuitTree}
use Rattle.fir_parse.specs.Lexemes.{Terminal}
use Rattle.fir_parse.specs.Limits.{Limit, Limits, nowhere}
use Rattle.fir_parse.specs.Fronts.{IsText, up_to, IsFrontWithin}
use Rattle.fir_parse.specs.working.States.{State, Bound, done, limit, wants, limit_of, bound_fault}
use Rattle.fir_parse.specs.working.Reading.{Outcome, at_token, at_end, read_on, whole}
use Rattle.fir_parse.specs.working.Reaching.{Verdict, continues, unexpected, missing, judge, passed_limit, Reaches}
use Rattle.fir_parse.proofs.Guards.{Guarded}
use Rattle.fir_parse.proofs.AtTokens.{outcome_of, without_limits, Kept, within_limits, kept_same, kept_is_none}
use Rattle.fir_parse.proofs.StepKeeps.{whole_guarded}
use Rattle.fir_parse.proofs.Along.{continues_guarded, guarded_along, along_without_limits, along_within_limits}
use Rattle.fir_parse.proofs.UpTo.{up_at, up_before, last_reads}
use Rattle.fir_parse.proofs.Completions.{origin}
use Rattle.fir_parse.proofs.Completable.{completable}
use Rattle.fir_parse.proofs.Limiting.{not_passed}
use Rattle.fir_parse.proofs.FormsReadCircuits.{forms_read}
use Rattle.fir_parse.proofs.FormsSpelled.{forms_found}

-- where reading goes on, the limits that count are kept
kept_at_token : (counts : Limit → Bool) (st : State) (t : Terminal) (f : State → Outcome) (c : CircuitTree) → at_token counts st t f ≡ Ok c → Kept counts st
kept_at_token counts (done x) t f c h = tt
kept_at_token counts (limit passed l st) t f c h =
    let kept = not_passed (counts (limit_of l)) passed (bound_fault l) (at_token counts st t f) c h in
    (kept.0, kept_at_token counts st t f c kept.1)
kept_at_token counts (wants s k) t f c h = tt

kept_at_end : (counts : Limit → Bool) (st : State) (c : CircuitTree) → at_end counts origin st ≡ Ok c → Kept counts st
kept_at_end counts (done x) c h = tt
kept_at_end counts (limit passed l st) c h =
    let kept = not_passed (counts (limit_of l)) passed (bound_fault l) (at_end counts origin st) c h in
    (kept.0, kept_at_end counts st c kept.1)
kept_at_end counts (wants s k) c h = tt

kept_of_read : (limits : Limits) (st : State) (ts : List Terminal) (c : CircuitTree) → read_on limits origin st ts ≡ Ok c → Kept (λ l. limits l ts) st
unfolding read_on
kept_of_read limits st [] c h = kept_at_end (λ l. limits l []) st c h
kept_of_read limits st (t ∷ ts) c h = kept_at_token (λ l. limits l (t ∷ ts)) st t (λ n. read_on limits origin n ts) c h

-- and the token is expected
abbrev GoesOn : (State → Outcome) → CircuitTree → Verdict → Type 0
GoesOn f c u = (next : State) × (u ≡ continues next) × (f next ≡ Ok c)

goes_on_by : (u : Verdict) (t : Terminal) (f : State → Outcome) (c : CircuitTree) → outcome_of u t.place f ≡ Ok c → GoesOn f c u
goes_on_by (continues next) t f c h = (next, refl, h)
goes_on_by unexpected t f c h = absurd (cc)
goes_on_by (missing p w) t f c h = absurd (cc)

pub goes_on_without : (st : State) (t : Terminal) (ts : List Terminal) (c : CircuitTree) → read_on nowhere origin st (t ∷ ts) ≡ Ok c → GoesOn (λ n. read_on nowhere origin n ts) c (judge st t)
unfolding read_on
goes_on_without st t ts c h = goes_on_by (judge st t) t (λ n. read_on nowhere origin n ts) c (sym (without_limits st t (λ n. read_on nowhere origin n ts)) ∙ h)

goes_on_within : (limits : Limits) (st : State) (t : Terminal) (ts : List Terminal) (c : CircuitTree) → Guarded st → read_on limits origin st (t ∷ ts) ≡ Ok c → GoesOn (λ n. read_on limits origin n ts) c (judge st t)
unfolding read_on
goes_on_within limits st t ts c g h =
    let counts : Limit → Bool = λ l. limits l (t ∷ ts) in
    let behind : State → Outcome = λ n. read_on limits origin n ts in
    goes_on_by (judge st t) t behind c (sym (within_limits counts st t behind g (kept_at_token counts st t behind c h)) ∙ h)

pub record Reached (st : State) (front : List Terminal) (limits : Limits) (more : List Terminal) (c : CircuitTree) : Type 0 where
  pub last : State
  pub reaches : Reaches st front last
  pub reads : read_on limits origin last more ≡ Ok c

reached : (asked : Limit → Bool) (more front : List Terminal) (st : State) (c : CircuitTree) → Guarded st → read_on (up_to asked more) origin st (front ++ more) ≡ Ok c → Reached st front (up_to asked more) more c
reached asked more [] st c g h = record { last = st; reaches = refl; reads = h }
reached asked more (t ∷ front) st c g h =
    let limits : Limits = up_to asked more in
    let ts : List Terminal = t ∷ (front ++ more) in
    let next = goes_on_within limits st t (front ++ more) c g h in
    let longer : length more < length ts = omega (arith, length-append front more) in
    let none : passed_limit st ≡ None = kept_is_none st (kept_same (λ l. limits l ts) (λ l. true) st (λ l. sym (up_before asked more ts l longer)) (kept_of_read limits st ts c h)) in
    let rest = reached asked more front next.0 c (continues_guarded st next.0 t g next.1) next.2 in
    record { last = rest.last; reaches = (next.0, none, next.1, rest.reaches); reads = rest.reads }

-- the state behind tokens that begin a text, with the limits that are kept there
pub reached_within : (asked : Limit → Bool) (front : List Terminal) → IsFrontWithin asked front → (last : State) × Reaches whole front last × Kept asked last
reached_within asked front (more, c, spelled) =
    let r = reached asked more front whole c whole_guarded (forms_read (up_to asked more) origin (front ++ more) c spelled) in
    (r.last, r.reaches, kept_same (λ l. up_to asked more l more) asked r.last (λ l. sym (up_at asked more l)) (kept_of_read (up_to asked more) r.last more c r.reads))

pub front_within : (asked : Limit → Bool) (front : List Terminal) (last : State) → Reaches whole front last → Kept asked last → IsFrontWithin asked front
front_within asked front last r k =
    let g = guarded_along front whole last whole_guarded r in
    let c = completable last g in
    let reads : read_on (up_to asked c.more) origin whole (front ++ c.more) ≡ Ok c.circuit =
    along_within_limits (up_to asked c.more) front whole last origin c.more whole_guarded r ∙ last_reads asked origin last c.more g k ∙ c.completes origin in
    (c.more, c.circuit, forms_found (up_to asked c.more) origin (front ++ c.more) c.circuit reads)

-- texts as they are read from a state
pub is_front_by : (front : List Terminal) (last : State) (ts more : List Terminal) (c : CircuitTree) → Reaches whole front last → read_on nowhere origin last (ts ++ more) ≡ Ok c → IsText (front ++ (ts ++ more))
is_front_by front last ts more c r h =
    let reads : read_on nowhere origin whole (front ++ (ts ++ more)) ≡ Ok c = along_without_limits front whole last origin (ts ++ more) r ∙ h in
    (c, forms_found nowhere origin (front ++ (ts ++ more)) c reads)

pub text_reads : (front back : List Terminal) (last : State) → Reaches whole front last → (x : IsText (front ++ back)) → read_on nowhere origin last back ≡ Ok x.0
text_reads front back last r x = sym (along_without_limits front whole last origin back r) ∙ forms_read nowhere origin (front ++ back) x.0 x.1

-- one state is reached
pub reaches_same : (front : List Terminal) (st a b : State) → Reaches st front a → Reaches st front b → a ≡ b
reaches_same [] st a b r s = sym r ∙ s
reaches_same (t ∷ front) st a b r s =
    let same : r.0 ≡ s.0 = cc in
    reaches_same front s.0 a b (subst (λ n. Reaches n front a) same r.3) s.3

-- by its last token
pub record Last (st : State) (front : List Terminal) (last : State) : Type 0 where
  pub before : List Terminal
  pub token : Terminal
  pub parts : front ≡ before ++ token ∷ []
  pub state : State
  pub reaches : Reaches st before state
  pub takes : judge state token ≡ continues last

first_of : (st last next : State) (t : Terminal) → judge st t ≡ continues next → next ≡ last → Last st (t ∷ []) last
first_of st last next t e h = record { before = []; token = t; parts = refl; state = st; reaches = refl; takes = e ∙ ap continues h }

pub by_last : (front : List Terminal) (st last : State) → Reaches st front last → ((front ≡ []) × (st ≡ last)) ⊎ Last st front last
by_last [] st last r = inl (refl, r)
by_last (t ∷ front) st last r = behind (by_last front r.0 last r.3)
  where
    behind : ((front ≡ []) × (r.0 ≡ last)) ⊎ Last r.0 front last → (((t ∷ front) ≡ []) × (st ≡ last)) ⊎ Last st (t ∷ front) last
    behind (inl h) = inr (subst (λ ts. Last st (t ∷ ts) last) (sym h.0) (first_of st last r.0 t r.2 h.1))
    behind (inr h) = inr (record { before = t ∷ h.before; token = h.token; parts = ap (λ ts. t ∷ ts) h.parts; state = h.state; reaches = (r.0, r.1, r.2, h.reaches); takes = h.takes })

pub reaches_split : (before : List Terminal) (t : Terminal) (st last : State) → Reaches st (before ++ t ∷ []) last → (pre : State) × Reaches st before pre × (passed_limit pre ≡ None) × (judge pre t ≡ continues last)
reaches_split [] t st last r = (st, refl, r.1, r.2 ∙ ap continues r.3)
reaches_split (u ∷ before) t st last r = let rest = reaches_split before t r.0 last r.3 in (rest.0, (r.0, r.1, r.2, rest.1), rest.2, rest.3)

-- a limit that is kept is not passed
pub kept_not_passed : (counts : Limit → Bool) (st : State) (l : Bound) → Kept counts st → passed_limit st ≡ Some l → counts (limit_of l) ≡ true → ⊥
kept_not_passed counts (done c) l k e h = absurd (cc)
kept_not_passed counts (limit true m st) l k e h =
    let same : m ≡ l = cc in
    let no : true ≡ false = k.0 (ap (λ x. counts (limit_of x)) same ∙ h) in
    absurd (cc)
kept_not_passed counts (limit false m st) l k e h = kept_not_passed counts st l k.1 e h
kept_not_passed counts (wants s x) l k e h = absurd (cc)
