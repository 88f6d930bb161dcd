-- Reading where limits count up to some tokens, and no further.
use Rattle.std.proofs.Common.{◌≡◌, ◌<◌, ◌≤◌, Bool, true, false, ◌&&◌, ◌||◌, List, [], ◌∷◌, length, refl, sym, ◌∙◌, arith}
use Rattle.std.proofs.lemmas.Bool.{lt-ltb, le-ltb, eq-eqb, ne_eqb}
use Rattle.fir_ast.specs.declared.place.Place.{Place}
use Rattle.fir_parse.specs.Lexemes.{Terminal}
use Rattle.fir_parse.specs.Limits.{Limit, Limits, nowhere}
use Rattle.fir_parse.specs.Fronts.{up_to}
use Rattle.fir_parse.specs.working.States.{State, Step, done, limit, wants, takes, without, refuses, unsupported, limit_of}
use Rattle.fir_parse.specs.working.Reading.{Outcome, step, goes_on, at_token, at_end, read_on}
use Rattle.fir_parse.specs.working.Reaching.{Verdict, continues, unexpected, missing, judge}
use Rattle.fir_parse.proofs.Guards.{Guarded}
use Rattle.fir_parse.proofs.AtTokens.{outcome_of, without_limits, Kept, within_limits, end_within_limits, kept_same}

-- at the tokens themselves the limits count that are asked for, before all, behind none
pub up_at : (asked : Limit → Bool) (more : List Terminal) (l : Limit) → up_to asked more l more ≡ asked l
up_at asked more l = rw (le-ltb (length more) (length more) (omega arith), eq-eqb (length more) (length more) refl) (both (asked l))
  where
    both : (b : Bool) → (false || (b && true)) ≡ b
    both true = refl
    both false = refl

pub up_before : (asked : Limit → Bool) (more ts : List Terminal) (l : Limit) → length more < length ts → up_to asked more l ts ≡ true
up_before asked more ts l lt = rw (lt-ltb (length more) (length ts) lt) refl

pub up_behind : (asked : Limit → Bool) (more ts : List Terminal) (l : Limit) → length ts < length more → up_to asked more l ts ≡ false
up_behind asked more ts l lt = rw (le-ltb (length more) (length ts) (omega arith), ne_eqb (length ts) (length more) (λ e. absurd (omega arith))) (none (asked l))
  where
    none : (b : Bool) → (false || (b && false)) ≡ false
    none true = refl
    none false = refl

same_step : {T : Type 0} (u : Step T) (p : Place) (k : T → State) (f g : State → Outcome) (v w : T → Outcome) → ((n : State) → f n ≡ g n) → ((x : T) → v x ≡ w x) → goes_on u p k f v ≡ goes_on u p k g w
same_step (takes h) p k f g v w same with_it = same (h k)
same_step (without x) p k f g v w same with_it = with_it x
same_step refuses p k f g v w same with_it = refl
same_step (unsupported q x) p k f g v w same with_it = refl

-- where no limit counts
same_at_token : (counts : Limit → Bool) (st : State) (t : Terminal) (f g : State → Outcome) → ((l : Limit) → counts l ≡ false) → ((n : State) → f n ≡ g n) → at_token counts st t f ≡ at_token (λ l. false) st t g
same_at_token counts (done c) t f g none same = refl
same_at_token counts (limit passed l st) t f g none same = rw (none (limit_of l)) (same_at_token counts st t f g none same)
same_at_token counts (wants s k) t f g none same = same_step (step s t.lexeme t.place) t.place k f g _ _ same (λ x. same_at_token counts (k x) t f g none same)

same_at_end : (counts : Limit → Bool) (end : Place) (st : State) → ((l : Limit) → counts l ≡ false) → at_end counts end st ≡ at_end (λ l. false) end st
same_at_end counts end (done c) none = refl
same_at_end counts end (limit passed l st) none = rw (none (limit_of l)) (same_at_end counts end st none)
same_at_end counts end (wants s k) none = refl

silent_reads : (limits : Limits) (end : Place) (ts : List Terminal) (st : State) → ((l : Limit) (us : List Terminal) → length us ≤ length ts → limits l us ≡ false) → read_on limits end st ts ≡ read_on nowhere end st ts
unfolding read_on
silent_reads limits end [] st none = same_at_end (λ l. limits l []) end st (λ l. none l [] (omega arith))
silent_reads limits end (t ∷ ts) st none =
    same_at_token (λ l. limits l (t ∷ ts)) st t (λ n. read_on limits end n ts) (λ n. read_on nowhere end n ts) (λ l. none l (t ∷ ts) (omega arith))
    (λ n. silent_reads limits end ts n (λ l us le. none l us (omega arith)))

same_outcome : (u : Verdict) (p : Place) (f g : State → Outcome) → ((n : State) → f n ≡ g n) → outcome_of u p f ≡ outcome_of u p g
same_outcome (continues n) p f g same = same n
same_outcome unexpected p f g same = refl
same_outcome (missing q w) p f g same = refl

-- from where the limits are kept that are asked for
pub last_reads : (asked : Limit → Bool) (end : Place) (last : State) (more : List Terminal) → Guarded last → Kept asked last → read_on (up_to asked more) end last more ≡ read_on nowhere end last more
unfolding read_on
last_reads asked end last [] g k = end_within_limits (λ l. up_to asked [] l []) end last (kept_same asked (λ l. up_to asked [] l []) last (up_at asked []) k)
last_reads asked end last (t ∷ ts) g k =
    within_limits (λ l. up_to asked (t ∷ ts) l (t ∷ ts)) last t (λ n. read_on (up_to asked (t ∷ ts)) end n ts) g (kept_same asked (λ l. up_to asked (t ∷ ts) l (t ∷ ts)) last (up_at asked (t ∷ ts)) k)
    ∙ same_outcome (judge last t) t.place (λ n. read_on (up_to asked (t ∷ ts)) end n ts) (λ n. read_on nowhere end n ts)
    (λ n. silent_reads (up_to asked (t ∷ ts)) end ts n (λ l us le. up_behind asked (t ∷ ts) us l (omega arith)))
    ∙ sym (without_limits last t (λ n. read_on nowhere end n ts))
