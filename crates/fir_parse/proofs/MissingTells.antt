-- A form that is not in the language is told where it is missing.
use Rattle.std.proofs.Common.{◌≡◌, ℕ, List, [], ◌∷◌, ◌++◌, false, Ok, codes, refl, sym, ◌∙◌, subst, ◌⊎◌, inl, inr, append_assoc}
use Rattle.std.specs.Str.{bytes_eq}
use Rattle.fir_base.specs.Lists.{In}
use Rattle.fir_base.proofs.Each.{all_at}
use Rattle.fir_ast.specs.declared.place.Place.{Place}
use Rattle.fir_ast.specs.Types.{bundle, no_fields}
use Rattle.fir_ast.specs.Expressions.{Expression, reference, mux as mux_of, no_parts}
use Rattle.fir_ast.specs.Statements.{done as no_statements}
use Rattle.fir_ast.specs.Circuits.{ModuleTree}
use Rattle.fir_parse.specs.declared.lexeme.Mark.TheVariants.{OpenRound, CloseRound, OpenCurly, CloseCurly, Comma, Colon}
use Rattle.fir_parse.specs.declared.words.TypeWord.TheVariants as types
use Rattle.fir_parse.specs.declared.words.ModuleWord.TheVariants as modules
use Rattle.fir_parse.specs.declared.words.Lead.TheVariants as lead
use Rattle.fir_parse.specs.declared.words.Applied.TheVariants as applied
use Rattle.fir_parse.specs.Lexemes.{word, mark, line_end, level_closes, Terminal}
use Rattle.fir_parse.specs.Limits.{nowhere}
use Rattle.fir_parse.specs.Pieces.{◌▸◌, Closes}
use Rattle.fir_parse.specs.TypeForms.{IsType}
use Rattle.fir_parse.specs.ExpressionForms.{IsExpression}
use Rattle.fir_parse.specs.StatementForms.{AreStatements}
use Rattle.fir_parse.specs.CircuitForms.{AreSomeModules, IsSpelled}
use Rattle.fir_parse.specs.Fronts.{IsFront}
use Rattle.fir_parse.specs.MissingForms.{missing_types, missing_modules, Are, TypeMayStand, ExpressionMayStand, StatementsMayStand, ModulesMayStand, word_at, IsMissing}
use Rattle.fir_parse.specs.working.Words.{type_word_of, module_word_of, applied_of, lead_of}
use Rattle.fir_parse.specs.working.Symbols.{Sym, Tree}
use Rattle.fir_parse.specs.working.States.{State, done, limit, wants, Step, takes, without, refuses, unsupported}
use Rattle.fir_parse.specs.working.Reading.{step, read_on, whole}
use Rattle.fir_parse.specs.working.Reaching.{Verdict, continues, missing, judge, verdict_by, Reaches}
use Rattle.fir_parse.proofs.Guards.{Guarded}
use Rattle.fir_parse.proofs.StepKeeps.{whole_guarded}
use Rattle.fir_parse.proofs.Along.{guarded_along}
use Rattle.fir_parse.proofs.PassedLimits.{token_follows}
use Rattle.fir_parse.proofs.Completions.{origin, token}
use Rattle.fir_parse.proofs.Reached.{goes_on_without, text_reads, by_last, Last, reaches_split}
use Rattle.fir_parse.proofs.Peeled.{peel, IsPeeled, is_peeled, IsSteady, follows_is_steady, steady_peeled, guarded_peeled, judge_peeled}
use Rattle.fir_parse.proofs.MissingTold.{IsTaken, taken, is_taken, NotTaken, type_told, module_told}
use Rattle.fir_parse.proofs.MissingStatements.{Ends, BeginsNothingElse, missing_statement, missing_port, Begins, statement_begins, statement_told, port_told}
use Rattle.fir_parse.proofs.MissingOperators.{mux, RefusesRound, BeginsOne, operator_begins, missing_operator, operator_told}

-- every state that is reached is steady
pub reached_steady : (front : List Terminal) (last : State) → Reaches whole front last → IsSteady last
reached_steady front last r = by (by_last front whole last r)
  where
    by : ((front ≡ []) × (whole ≡ last)) ⊎ Last whole front last → IsSteady last
    by (inl h) = subst IsSteady h.1 tt
    by (inr h) =
        let f = token_follows h.state last h.token (guarded_along h.before whole h.state whole_guarded h.reaches) h.takes in
        follows_is_steady f.0 h.token last f.1

-- ---- tokens that are such a form, whatever follows

abbrev curly : List Terminal
curly = token (mark OpenCurly) ∷ token (mark CloseCurly) ∷ []

are_curly : Are (λ d. IsType nowhere d (bundle no_fields)) curly
are_curly d behind =
    let rest : List Terminal = token (mark CloseCurly) ∷ behind in
    (rest, (origin, refl), (rest, (λ c. absurd (cc), refl), (rest, refl, (behind, (origin, refl), (λ c. absurd (cc), refl)))))

abbrev level_end : List Terminal
level_end = token level_closes ∷ []

are_no_statements : Are (λ d. AreStatements nowhere d no_statements ▸ Closes) level_end
are_no_statements d behind = (token level_closes ∷ behind, refl, (origin, refl))

abbrev name : List ℕ
name = codes "x"

abbrev one_module : ModuleTree
one_module = record { place = origin; named = record { place = origin; name = name }; ports = []; body = no_statements }

abbrev module_tokens : List Terminal
module_tokens = token (word (codes "module")) ∷ token (word name) ∷ token (mark Colon) ∷ token line_end ∷ token level_closes ∷ []

are_one_module : Are (λ d. AreSomeModules nowhere (one_module ∷ []) ▸ Closes) module_tokens
are_one_module d behind =
    let m4 : List Terminal = token level_closes ∷ behind in
    let m3 : List Terminal = token line_end ∷ m4 in
    let m2 : List Terminal = token (mark Colon) ∷ m3 in
    let m1 : List Terminal = token (word name) ∷ m2 in
    (m4, (m4, (m1, refl, (m2, refl, (m3, (origin, refl), (m4, (origin, refl), inl ((refl, refl), refl))))), refl), (origin, refl))

abbrev plain : Expression
plain = reference origin name no_parts

abbrev mux_tokens : List Terminal
mux_tokens =
    token (word mux) ∷ token (mark OpenRound) ∷ token (word name) ∷ token (mark Comma) ∷ token (word name) ∷ token (mark Comma) ∷ token (word name) ∷ token (mark CloseRound) ∷ []

are_mux : Are (λ d. IsExpression nowhere d (mux_of origin plain plain plain)) mux_tokens
are_mux d behind =
    let m7 : List Terminal = token (mark CloseRound) ∷ behind in
    let m6 : List Terminal = token (word name) ∷ m7 in
    let m5 : List Terminal = token (mark Comma) ∷ m6 in
    let m4 : List Terminal = token (word name) ∷ m5 in
    let m3 : List Terminal = token (mark Comma) ∷ m4 in
    let m2 : List Terminal = token (word name) ∷ m3 in
    let m1 : List Terminal = token (mark OpenRound) ∷ m2 in
    (m1, refl, (m2, (origin, refl), (m2, (λ c. absurd (cc), refl), (m3, (m3, refl, refl), (m4, (origin, refl), (m5, (m5, refl, refl), (m6, (origin, refl), (m7, (m7, refl, refl), (behind, (origin, refl), (λ c. absurd (cc), refl))))))))))

-- ---- the text goes on with them

pub stands : (front ts : List Terminal) (last : State) → Reaches whole front last → (x : IsFront (front ++ ts)) → read_on nowhere origin last (ts ++ x.0) ≡ Ok x.1.0
stands front ts last r (more, text) =
    let grouped : (front ++ ts) ++ more ≡ front ++ (ts ++ more) = append_assoc front ts more in
    text_reads front (ts ++ more) last r (text.0, subst (λ us. IsSpelled nowhere text.0 us) grouped text.1)

type_case : (st : State) (next : State) (p : Place) (w : List ℕ) → IsPeeled st → IsSteady st → judge st (token (mark OpenCurly)) ≡ continues next → type_word_of w ≡ types.Missing → judge st (word_at w p) ≡ missing p w
type_case (done c) next p w none steady h e = absurd (cc)
type_case (limit passed l st) next p w none steady h e = absurd none
type_case (wants s k) next p w none steady h e = type_told s k origin p w e steady none (is_taken s k (token (mark OpenCurly)) next (taken s k (token (mark OpenCurly)) next none h))

taken_goes_on : {T : Type 0} (u : Step T) (k : T → State) (with_it : T → Verdict) → IsTaken u → (next : State) × (verdict_by u k with_it ≡ continues next)
taken_goes_on (takes f) k with_it h = (f k, refl)
taken_goes_on (without x) k with_it h = absurd h
taken_goes_on refuses k with_it h = absurd h
taken_goes_on (unsupported p w) k with_it h = absurd h

not_taken : (s : Sym) (k : Tree s → State) (t : Terminal) → Ends (judge (wants s k) t) → NotTaken (step s t.lexeme t.place)
not_taken s k t ends h = let goes = taken_goes_on (step s t.lexeme t.place) k (λ x. judge (k x) t) h in ends goes.0 goes.1

module_case : (st : State) (next : State) (p : Place) (w : List ℕ) → IsPeeled st → IsSteady st → judge st (token (word (codes "module"))) ≡ continues next → module_word_of w ≡ modules.Missing → Ends (judge st (word_at w p)) → judge st (word_at w p) ≡ missing p w
module_case (done c) next p w none steady h e ends = absurd (cc)
module_case (limit passed l st) next p w none steady h e ends = absurd none
module_case (wants s k) next p w none steady h e ends =
    module_told s k origin p w e steady none (is_taken s k (token (word (codes "module"))) next (taken s k (token (word (codes "module"))) next none h)) (not_taken s k (word_at w p) ends)

statement_case : (st : State) (next last : State) (p : Place) (w : List ℕ) → IsPeeled st → judge st (token level_closes) ≡ continues next → judge st (word_at w p) ≡ continues last → BeginsNothingElse w → Begins p w last
statement_case (done c) next last p w none h g e = absurd (cc)
statement_case (limit passed l st) next last p w none h g e = absurd none
statement_case (wants s k) next last p w none h g e =
    statement_begins s k origin p w last e none (is_taken s k (token level_closes) next (taken s k (token level_closes) next none h)) (taken s k (word_at w p) last none g)

operator_case : (st : State) (next last : State) (p : Place) (w : List ℕ) → Guarded st → IsPeeled st → IsSteady st → judge st (token (word mux)) ≡ continues next → (RefusesRound next → ⊥) → judge st (word_at w p) ≡ continues last → bytes_eq w (codes "is") ≡ false → BeginsOne p w last
operator_case (done c) next last p w guarded none steady h opens g e = absurd (cc)
operator_case (limit passed l st) next last p w guarded none steady h opens g e = absurd none
operator_case (wants s k) next last p w guarded none steady h opens g e =
    operator_begins s k origin p w next last e guarded steady none (taken s k (token (word mux)) next none h) opens (taken s k (word_at w p) last none g)

-- ---- at its word

type_tells : (front : List Terminal) (last : State) (p : Place) (w : List ℕ) → Reaches whole front last → In missing_types w → TypeMayStand front → judge last (word_at w p) ≡ missing p w
type_tells front last p w r m x =
    let front_of : IsFront (front ++ curly) = x (bundle no_fields) curly are_curly in
    let goes = goes_on_without last (token (mark OpenCurly)) (token (mark CloseCurly) ∷ front_of.0) front_of.1.0 (stands front curly last r front_of) in
    let missing_type : type_word_of w ≡ types.Missing = all_at (λ v. type_word_of v ≡ types.Missing) missing_types (refl, (refl, (refl, tt))) w m in
    let steady = steady_peeled last (guarded_along front whole last whole_guarded r) (reached_steady front last r) in
    judge_peeled last (word_at w p) refl
    ∙ type_case (peel last) goes.0 p w (is_peeled last) steady (sym (judge_peeled last (token (mark OpenCurly)) refl) ∙ goes.1) missing_type

module_tells : (front : List Terminal) (last : State) (p : Place) (w : List ℕ) → Reaches whole front last → In missing_modules w → ModulesMayStand front → Ends (judge last (word_at w p)) → judge last (word_at w p) ≡ missing p w
module_tells front last p w r m x ends =
    let front_of : IsFront (front ++ module_tokens) = x (one_module ∷ []) module_tokens are_one_module in
    let behind : List Terminal = token (word name) ∷ token (mark Colon) ∷ token line_end ∷ token level_closes ∷ front_of.0 in
    let goes = goes_on_without last (token (word (codes "module"))) behind front_of.1.0 (stands front module_tokens last r front_of) in
    let missing_module : module_word_of w ≡ modules.Missing = all_at (λ v. module_word_of v ≡ modules.Missing) missing_modules (refl, (refl, tt)) w m in
    let steady = steady_peeled last (guarded_along front whole last whole_guarded r) (reached_steady front last r) in
    let same = judge_peeled last (word_at w p) refl in
    same
    ∙ module_case (peel last) goes.0 p w (is_peeled last) steady (sym (judge_peeled last (token (word (codes "module"))) refl) ∙ goes.1) missing_module (λ n e. ends n (same ∙ e))

-- ---- behind its word

statement_before : (before : List Terminal) (pre last : State) (p : Place) (w : List ℕ) → Reaches whole before pre → judge pre (word_at w p) ≡ continues last → StatementsMayStand before → BeginsNothingElse w → Begins p w last
statement_before before pre last p w r g x e =
    let front_of : IsFront (before ++ level_end) = x no_statements level_end are_no_statements in
    let goes = goes_on_without pre (token level_closes) front_of.0 front_of.1.0 (stands before level_end pre r front_of) in
    statement_case (peel pre) goes.0 last p w (is_peeled pre) (sym (judge_peeled pre (token level_closes) refl) ∙ goes.1) (sym (judge_peeled pre (word_at w p) refl) ∙ g) e

statement_tells : (last : State) (t : Terminal) (p : Place) (w : List ℕ) → Begins p w last → lead_of w ≡ lead.Missing → Ends (judge last t) → judge last t ≡ missing p w
statement_tells last t p w (d, k, same) e ends =
    let P : State → Type 0 = λ st. judge st t ≡ missing p w in
    let Q : State → Type 0 = λ st. Ends (judge st t) in
    subst P same (statement_told d p w k t e (subst Q (sym same) ends))

port_tells : (last : State) (t : Terminal) (p : Place) (w : List ℕ) → Begins p w last → lead_of w ≡ lead.MissingPort → t.lexeme ≡ word (codes "mport") → judge last t ≡ missing p w
port_tells last t p w (d, k, same) e h = let P : State → Type 0 = λ st. judge st t ≡ missing p w in subst P same (port_told d p w k t e h)

operator_before : (before : List Terminal) (pre last : State) (p : Place) (w : List ℕ) → Reaches whole before pre → judge pre (word_at w p) ≡ continues last → ExpressionMayStand before → bytes_eq w (codes "is") ≡ false → BeginsOne p w last
operator_before before pre last p w r g x e =
    let front_of : IsFront (before ++ mux_tokens) = x (mux_of origin plain plain plain) mux_tokens are_mux in
    let rest : List Terminal = token (word name) ∷ token (mark Comma) ∷ token (word name) ∷ token (mark Comma) ∷ token (word name) ∷ token (mark CloseRound) ∷ front_of.0 in
    let first = goes_on_without pre (token (word mux)) (token (mark OpenRound) ∷ rest) front_of.1.0 (stands before mux_tokens pre r front_of) in
    let second = goes_on_without first.0 (token (mark OpenRound)) rest front_of.1.0 first.2 in
    let guarded = guarded_along before whole pre whole_guarded r in
    operator_case (peel pre) first.0 last p w (guarded_peeled pre guarded) (is_peeled pre) (steady_peeled pre guarded (reached_steady before pre r))
    (sym (judge_peeled pre (token (word mux)) refl) ∙ first.1) (λ refuses_it. refuses_it origin second.0 second.1) (sym (judge_peeled pre (word_at w p) refl) ∙ g) e

operator_tells : (last : State) (t : Terminal) (p : Place) (w : List ℕ) → BeginsOne p w last → applied_of w ≡ applied.Missing → t.lexeme ≡ mark OpenRound → judge last t ≡ missing p w
operator_tells last t p w (d, k, same) e h = let P : State → Type 0 = λ st. judge st t ≡ missing p w in subst P same (operator_told d p w k t e h)

-- the word before the last of these tokens
split : (front before : List Terminal) (t : Terminal) (last : State) → front ≡ before ++ t ∷ [] → Reaches whole front last → (pre : State) × Reaches whole before pre × (judge pre t ≡ continues last)
split front before t last e r = let parts = reaches_split before t whole last (subst (λ ts. Reaches whole ts last) e r) in (parts.0, parts.1, parts.3)

pub missing_told : (front : List Terminal) (last : State) (t : Terminal) (p : Place) (w : List ℕ) → Reaches whole front last → IsMissing front t p w → Ends (judge last t) → judge last t ≡ missing p w
missing_told front last t p w r (inl (e, inl (m, x))) ends = let P : Terminal → Type 0 = λ u. judge last u ≡ missing p w in subst P (sym e) (type_tells front last p w r m x)
missing_told front last t p w r (inl (e, inr (m, x))) ends =
    let P : Terminal → Type 0 = λ u. judge last u ≡ missing p w in
    let Q : Terminal → Type 0 = λ u. Ends (judge last u) in
    subst P (sym e) (module_tells front last p w r m x (subst Q e ends))
missing_told front last t p w r (inr (before, e, inl (m, l, x))) ends =
    let parts = split front before (word_at w p) last e r in
    let facts = missing_operator w m in
    operator_tells last t p w (operator_before before parts.0 last p w parts.1 parts.2 x facts.1) facts.0 l
missing_told front last t p w r (inr (before, e, inr (inl (m, x)))) ends =
    let parts = split front before (word_at w p) last e r in
    let facts = missing_statement w m in
    statement_tells last t p w (statement_before before parts.0 last p w parts.1 parts.2 x facts.1) facts.0 ends
missing_told front last t p w r (inr (before, e, inr (inr (m, l, x)))) ends =
    let parts = split front before (word_at w p) last e r in
    let facts = missing_port w m in
    port_tells last t p w (statement_before before parts.0 last p w parts.1 parts.2 x facts.1) facts.0 l
