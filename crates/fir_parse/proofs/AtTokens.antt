-- What reading does at one token, by whether a limit that counts is passed and by what the token does there.
use Rattle.std.proofs.Common.{◌≡◌, Bool, true, false, Some, None, Ok, Err, refl, ◌⊎◌, inl, inr}
use Rattle.fir_ast.specs.declared.place.Place.{Place}
use Rattle.fir_ast.specs.declared.fault.FirFault.TheVariants.{Syntax, Unsupported}
use Rattle.fir_ast.specs.Circuits.{CircuitTree}
use Rattle.fir_parse.specs.Lexemes.{Terminal}
use Rattle.fir_parse.specs.Limits.{Limit}
use Rattle.fir_parse.specs.working.States.{State, Bound, done, limit, wants, Step, takes, without, refuses, unsupported, bound_fault, limit_of}
use Rattle.fir_parse.specs.working.Reading.{Outcome, step, goes_on, at_token, at_end}
use Rattle.fir_parse.specs.working.Reaching.{Verdict, continues, unexpected, missing, judge, verdict_by, passed_limit}
use Rattle.fir_parse.proofs.Guards.{Guard, unlimited, firm, guard_of, Meets, Guarded}
use Rattle.fir_parse.proofs.Keeping.{Keeps, Spot, MayBeEmpty}
use Rattle.fir_parse.proofs.StepKeeps.{spot_of, keeps}
use Rattle.fir_parse.proofs.Limiting.{not_both}

-- how a text goes on where a token does so
abbrev pub outcome_of : Verdict → Place → (State → Outcome) → Outcome
outcome_of (continues next) p behind = behind next
outcome_of unexpected p behind = Err (Syntax p)
outcome_of (missing q w) p behind = Err (Unsupported q w)

by_step_without_limits : {T : Type 0} (u : Step T) (k : T → State) (t : Terminal) (behind : State → Outcome) → ((x : T) → at_token (λ l. false) (k x) t behind ≡ outcome_of (judge (k x) t) t.place behind) → goes_on u t.place k behind (λ x. at_token (λ l. false) (k x) t behind) ≡ outcome_of (verdict_by u k (λ x. judge (k x) t)) t.place behind
by_step_without_limits (takes g) k t behind h = refl
by_step_without_limits (without x) k t behind h = h x
by_step_without_limits refuses k t behind h = refl
by_step_without_limits (unsupported q w) k t behind h = refl

-- where limits do not count
pub without_limits : (st : State) (t : Terminal) (behind : State → Outcome) → at_token (λ l. false) st t behind ≡ outcome_of (judge st t) t.place behind
without_limits (done c) t behind = refl
without_limits (limit passed l st) t behind = without_limits st t behind
without_limits (wants s k) t behind = by_step_without_limits (step s t.lexeme t.place) k t behind (λ x. without_limits (k x) t behind)

-- the limits that count are kept at the token before
abbrev pub Kept : (Limit → Bool) → State → Type 0
Kept counts (done c) = Unit {0}
Kept counts (limit passed l st) = (counts (limit_of l) ≡ true → passed ≡ false) × Kept counts st
Kept counts (wants s k) = Unit {0}

-- behind what may be empty no limit stands at once
pub kept_behind : (counts : Limit → Bool) (g : Guard) (st : State) → MayBeEmpty g → Meets g st → Kept counts st
kept_behind counts unlimited (done c) e m = tt
kept_behind counts unlimited (limit passed l st) e m = absurd m
kept_behind counts unlimited (wants s k) e m = tt
kept_behind counts firm (done c) e m = absurd m
kept_behind counts firm (limit passed l st) e m = absurd m
kept_behind counts firm (wants s k) e m = tt
kept_behind counts _ st e m = absurd e

by_step_within_limits : {T : Type 0} (counts : Limit → Bool) (g : T → Guard) (spot : Spot) (u : Step T) (k : T → State) (t : Terminal) (behind : State → Outcome) → Keeps g spot t u → ((x : T) → MayBeEmpty (g x) → at_token counts (k x) t behind ≡ outcome_of (judge (k x) t) t.place behind) → goes_on u t.place k behind (λ x. at_token counts (k x) t behind) ≡ outcome_of (verdict_by u k (λ x. judge (k x) t)) t.place behind
by_step_within_limits counts g spot (takes f) k t behind keep h = refl
by_step_within_limits counts g spot (without x) k t behind keep h = h x keep.0
by_step_within_limits counts g spot refuses k t behind keep h = refl
by_step_within_limits counts g spot (unsupported q w) k t behind keep h = refl

-- where they are kept
pub within_limits : (counts : Limit → Bool) (st : State) (t : Terminal) (behind : State → Outcome) → Guarded st → Kept counts st → at_token counts st t behind ≡ outcome_of (judge st t) t.place behind
within_limits counts (done c) t behind h e = refl
within_limits counts (limit passed l st) t behind h e = rw (not_both (counts (limit_of l)) passed e.0) (within_limits counts st t behind h e.1)
within_limits counts (wants s k) t behind h e =
    by_step_within_limits counts (guard_of s) (spot_of s t) (step s t.lexeme t.place) k t behind (keeps s t.lexeme t.place)
    (λ x empty. within_limits counts (k x) t behind (h x).0 (kept_behind counts (guard_of s x) (k x) empty (h x).1))

-- a limit is passed
pub past_limit : (counts : Limit → Bool) (st : State) (l : Bound) (t : Terminal) (behind : State → Outcome) → passed_limit st ≡ Some l → counts (limit_of l) ≡ true → at_token counts st t behind ≡ Err (bound_fault l)
past_limit counts (done c) l t behind e h = absurd (cc)
past_limit counts (limit true m st) l t behind e h = let same : m ≡ l = cc in rw same (rw h refl)
past_limit counts (limit false m st) l t behind e h = rw (not_both (counts (limit_of m)) false (λ c. refl)) (past_limit counts st l t behind e h)
past_limit counts (wants s k) l t behind e h = absurd (cc)

-- at the end
pub end_past_limit : (counts : Limit → Bool) (end : Place) (st : State) (l : Bound) → passed_limit st ≡ Some l → counts (limit_of l) ≡ true → at_end counts end st ≡ Err (bound_fault l)
end_past_limit counts end (done c) l e h = absurd (cc)
end_past_limit counts end (limit true m st) l e h = let same : m ≡ l = cc in rw same (rw h refl)
end_past_limit counts end (limit false m st) l e h = rw (not_both (counts (limit_of m)) false (λ c. refl)) (end_past_limit counts end st l e h)
end_past_limit counts end (wants s k) l e h = absurd (cc)

pub end_within_limits : (counts : Limit → Bool) (end : Place) (st : State) → Kept counts st → at_end counts end st ≡ at_end (λ l. false) end st
end_within_limits counts end (done c) e = refl
end_within_limits counts end (limit passed l st) e = rw (not_both (counts (limit_of l)) passed e.0) (end_within_limits counts end st e.1)
end_within_limits counts end (wants s k) e = refl

-- where none is passed, all are kept
pub none_is_kept : (counts : Limit → Bool) (st : State) → passed_limit st ≡ None → Kept counts st
none_is_kept counts (done c) e = tt
none_is_kept counts (limit true l st) e = absurd (cc)
none_is_kept counts (limit false l st) e = (λ c. refl, none_is_kept counts st e)
none_is_kept counts (wants s k) e = tt

pub kept_is_none : (st : State) → Kept (λ l. true) st → passed_limit st ≡ None
kept_is_none (done c) e = refl
kept_is_none (limit true l st) e = let no = e.0 refl in absurd (cc)
kept_is_none (limit false l st) e = kept_is_none st e.1
kept_is_none (wants s k) e = refl

-- the same limits count
pub kept_same : (counts others : Limit → Bool) (st : State) → ((l : Limit) → others l ≡ counts l) → Kept counts st → Kept others st
kept_same counts others (done c) same e = tt
kept_same counts others (limit passed l st) same e = (λ c. e.0 (let known : counts (limit_of l) ≡ true = rw⁻¹ (same (limit_of l)) c in known), kept_same counts others st same e.1)
kept_same counts others (wants s k) same e = tt

-- a text ends with its tree, or at its end something is expected, wherever that is
abbrev pub EndsSo : State → Type 0
EndsSo st = ((c : CircuitTree) × ((end : Place) → at_end (λ l. false) end st ≡ Ok c)) ⊎ ((end : Place) → at_end (λ l. false) end st ≡ Err (Syntax end))

pub ends_so : (st : State) → EndsSo st
ends_so (done c) = inl (c, λ end. refl)
ends_so (limit passed l st) = ends_so st
ends_so (wants s k) = inr (λ end. refl)
