-- Which limit is passed at a token, by the limits that are kept there.
use Rattle.std.proofs.Common.{◌≡◌, ℕ, Bool, true, false, Some, None, refl, sym, ap, ◌∙◌, subst, inl, inr}
use Rattle.fir_parse.specs.Lexemes.{Terminal}
use Rattle.fir_parse.specs.Limits.{Limit}
use Rattle.fir_parse.specs.Fronts.{no_limit, only_numbers, only_nesting, only_versions}
use Rattle.fir_parse.specs.TextFaults.{IsInteger}
use Rattle.fir_parse.specs.working.States.{State, Bound, number_at, nesting_at, version_at, done, limit, wants, Step, takes, without, refuses, unsupported, limit_of}
use Rattle.fir_parse.specs.working.Reading.{step}
use Rattle.fir_parse.specs.working.Reaching.{Verdict, continues, unexpected, missing, judge, verdict_by, passed_limit}
use Rattle.fir_parse.proofs.Guards.{Guard, guard_of, IsUnlimited, Guarded, After}
use Rattle.fir_parse.proofs.Keeping.{Kind, Spot, AfterNumber, Follows, Keeps}
use Rattle.fir_parse.proofs.StepKeeps.{spot_of, keeps}
use Rattle.fir_parse.proofs.AtTokens.{Kept}

-- what a token is to the state behind it
abbrev VerdictFollows : Terminal → Verdict → Type 0
VerdictFollows t (continues next) = (kind : Kind) × Follows kind t next
VerdictFollows t unexpected = Unit {0}
VerdictFollows t (missing p w) = Unit {0}

by_step : {T : Type 0} (g : T → Guard) (spot : Spot) (t : Terminal) (u : Step T) (k : T → State) → Keeps g spot t u → ((x : T) → After (g x) (k x)) → ((x : T) → VerdictFollows t (judge (k x) t)) → VerdictFollows t (verdict_by u k (λ x. judge (k x) t))
by_step g spot t (takes f) k keep after h = (spot.kind, (keep k after).1)
by_step g spot t (without x) k keep after h = h x
by_step g spot t refuses k keep after h = tt
by_step g spot t (unsupported p w) k keep after h = tt

verdict_follows : (st : State) (t : Terminal) → Guarded st → VerdictFollows t (judge st t)
verdict_follows (done c) t h = tt
verdict_follows (limit passed l st) t h = verdict_follows st t h
verdict_follows (wants s k) t h = by_step (guard_of s) (spot_of s t) t (step s t.lexeme t.place) k (keeps s t.lexeme t.place) h (λ x. verdict_follows (k x) t (h x).0)

pub token_follows : (st next : State) (t : Terminal) → Guarded st → judge st t ≡ continues next → (kind : Kind) × Follows kind t next
token_follows st next t g e = subst (VerdictFollows t) e (verdict_follows st t g)

none_passed : (st : State) → IsUnlimited st → passed_limit st ≡ None
none_passed (done c) h = refl
none_passed (limit passed l st) h = absurd h
none_passed (wants s k) h = refl

unlimited_kept : (counts : Limit → Bool) (st : State) → IsUnlimited st → Kept counts st
unlimited_kept counts (done c) h = tt
unlimited_kept counts (limit passed l st) h = absurd h
unlimited_kept counts (wants s k) h = tt

pub nothing_kept : (st : State) → Kept no_limit st
nothing_kept (done c) = tt
nothing_kept (limit passed l st) = (λ c. absurd (cc), nothing_kept st)
nothing_kept (wants s k) = tt

-- the limit that is passed stands at the token; where it is that of the version, that of numbers is kept
abbrev pub IsPassedAt : Terminal → State → Bound → Type 0
IsPassedAt t last (number_at p) = p ≡ t.place
IsPassedAt t last (nesting_at p) = p ≡ t.place
IsPassedAt t last (version_at p n) = (p ≡ t.place) × IsInteger n t × Kept only_numbers last

not_counted : (counts : Limit → Bool) (m l : Bound) → m ≡ l → counts (limit_of l) ≡ false → counts (limit_of m) ≡ true → ⊥
not_counted counts m l e f h = let same : counts (limit_of m) ≡ counts (limit_of l) = ap (λ x. counts (limit_of x)) e in absurd (cc)

version_passed : (t : Terminal) (m : Bound) (st : State) (l : Bound) → AfterNumber t st → passed_limit st ≡ Some l → IsPassedAt t (limit false m st) l
version_passed t m (done c) l h e = absurd (cc)
version_passed t m (limit true o st) l ((n, same, i), u) e =
    let known : version_at t.place n ≡ l = (let first : o ≡ l = cc in sym same ∙ first) in
    subst (IsPassedAt t (limit false m (limit true o st))) known (refl, i, ((λ c. refl), ((λ c. absurd (not_counted only_numbers o (version_at t.place n) same refl c)), unlimited_kept only_numbers st u)))
version_passed t m (limit false o st) l (h, u) e = let none = none_passed st u in absurd (cc)
version_passed t m (wants s k) l h e = absurd (cc)

pub passed_at : (kind : Kind) (t : Terminal) (last : State) (l : Bound) → Follows kind t last → passed_limit last ≡ Some l → IsPassedAt t last l
passed_at kind t (done c) l f e = absurd (cc)
passed_at kind t (wants s k) l f e = absurd (cc)
passed_at kind t (limit true m st) l (inl h) e = let known : nesting_at t.place ≡ l = (let first : m ≡ l = cc in sym h.0 ∙ first) in subst (IsPassedAt t (limit true m st)) known refl
passed_at kind t (limit true m st) l (inr h) e = let known : number_at t.place ≡ l = (let first : m ≡ l = cc in sym h.0 ∙ first) in subst (IsPassedAt t (limit true m st)) known refl
passed_at kind t (limit false m st) l (inl h) e = let none = none_passed st h.1 in absurd (cc)
passed_at kind t (limit false m st) l (inr h) e = version_passed t m st l h.1 e

-- behind a number nothing but the version counts
behind_number : (counts : Limit → Bool) (t : Terminal) (st : State) → ((n : ℕ) → counts (limit_of (version_at t.place n)) ≡ false) → AfterNumber t st → Kept counts st
behind_number counts t (done c) none h = tt
behind_number counts t (limit passed l st) none ((n, same, i), u) = (λ c. absurd (not_counted counts l (version_at t.place n) same (none n) c), unlimited_kept counts st u)
behind_number counts t (wants s k) none h = tt

-- and the other way round: where a limit is not kept it is the one that is passed
pub passes_nesting : (kind : Kind) (t : Terminal) (last : State) → Follows kind t last → (Kept only_nesting last → ⊥) → passed_limit last ≡ Some (nesting_at t.place)
passes_nesting kind t (done c) f hinders = absurd (hinders tt)
passes_nesting kind t (wants s k) f hinders = absurd (hinders tt)
passes_nesting kind t (limit true m st) (inl h) hinders = ap Some h.0
passes_nesting kind t (limit false m st) (inl h) hinders = absurd (hinders (λ c. refl, unlimited_kept only_nesting st h.1))
passes_nesting kind t (limit passed m st) (inr h) hinders = absurd (hinders (λ c. absurd (not_counted only_nesting m (number_at t.place) h.0 refl c), behind_number only_nesting t st (λ n. refl) h.1))

pub passes_number : (kind : Kind) (t : Terminal) (last : State) → Follows kind t last → (Kept only_numbers last → ⊥) → passed_limit last ≡ Some (number_at t.place)
passes_number kind t (done c) f hinders = absurd (hinders tt)
passes_number kind t (wants s k) f hinders = absurd (hinders tt)
passes_number kind t (limit passed m st) (inl h) hinders = absurd (hinders (λ c. absurd (not_counted only_numbers m (nesting_at t.place) h.0 refl c), unlimited_kept only_numbers st h.1))
passes_number kind t (limit true m st) (inr h) hinders = ap Some h.0
passes_number kind t (limit false m st) (inr h) hinders = absurd (hinders (λ c. refl, behind_number only_numbers t st (λ n. refl) h.1))

abbrev PassesVersion : Terminal → State → Type 0
PassesVersion t last = (n : ℕ) × IsInteger n t × (passed_limit last ≡ Some (version_at t.place n))

version_behind : (t : Terminal) (m : Bound) (st : State) → AfterNumber t st → (Kept only_versions st → ⊥) → PassesVersion t (limit false m st)
version_behind t m (done c) h hinders = absurd (hinders tt)
version_behind t m (wants s k) h hinders = absurd (hinders tt)
version_behind t m (limit true l st) ((n, same, i), u) hinders = (n, i, ap Some same)
version_behind t m (limit false l st) ((n, same, i), u) hinders = absurd (hinders (λ c. refl, unlimited_kept only_versions st u))

pub passes_version : (kind : Kind) (t : Terminal) (last : State) → Follows kind t last → Kept only_numbers last → (Kept only_versions last → ⊥) → PassesVersion t last
passes_version kind t (done c) f k hinders = absurd (hinders tt)
passes_version kind t (wants s x) f k hinders = absurd (hinders tt)
passes_version kind t (limit passed m st) (inl h) k hinders = absurd (hinders (λ c. absurd (not_counted only_versions m (nesting_at t.place) h.0 refl c), unlimited_kept only_versions st h.1))
passes_version kind t (limit true m st) (inr h) k hinders =
    let counts : only_numbers (limit_of m) ≡ true = ap (λ x. only_numbers (limit_of x)) h.0 in
    let no2 : true ≡ false = k.0 counts in
    absurd (cc)
passes_version kind t (limit false m st) (inr h) k hinders =
    version_behind t m st h.1 (λ kept. hinders (λ c. absurd (not_counted only_versions m (number_at t.place) h.0 refl c), kept))
