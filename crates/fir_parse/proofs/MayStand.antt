-- Where a type is expected, an expression, statements or modules, any may stand.
use Rattle.std.proofs.Common.{◌≡◌, ℕ, ◌+◌, List, [], ◌∷◌, ◌++◌, Ok, codes, refl, sym, ap, ◌∙◌, subst, append_assoc}
use Rattle.fir_ast.specs.declared.place.Place.{Place}
use Rattle.fir_ast.specs.Types.{DataType}
use Rattle.fir_ast.specs.Statements.{done as no_statements}
use Rattle.fir_ast.specs.Circuits.{CircuitTree}
use Rattle.fir_parse.specs.declared.lexeme.Mark.TheVariants.{Colon}
use Rattle.fir_parse.specs.Lexemes.{mark, line_end, level_opens, level_closes, Terminal}
use Rattle.fir_parse.specs.Limits.{nowhere}
use Rattle.fir_parse.specs.TypeForms.{IsType}
use Rattle.fir_parse.specs.CircuitForms.{IsSpelled}
use Rattle.fir_parse.specs.Fronts.{IsFront}
use Rattle.fir_parse.specs.MissingForms.{Are, TypeMayStand, ExpressionMayStand, StatementsMayStand, ModulesMayStand}
use Rattle.fir_parse.specs.working.Symbols.{Tree, computed_index, open_when, OpenWhen, a_type, an_expression, an_index, statements, behind_first, first_module, more_modules, ports_and_statements}
use Rattle.fir_parse.specs.working.States.{State, wants}
use Rattle.fir_parse.specs.working.TypeRules.{type_at}
use Rattle.fir_parse.specs.working.StatementRules.{closed_before}
use Rattle.fir_parse.specs.working.Reading.{read_on, whole}
use Rattle.fir_parse.specs.working.Reaching.{Reaches}
use Rattle.fir_parse.proofs.Guards.{Guarded}
use Rattle.fir_parse.proofs.Completions.{Completion, origin, token, tail_ends}
use Rattle.fir_parse.proofs.Completable.{completable}
use Rattle.fir_parse.proofs.Reached.{is_front_by}
use Rattle.fir_parse.proofs.Peeled.{peel, read_peeled, guarded_peeled}
use Rattle.fir_parse.proofs.FirstTokens.{Begun, type_begun, expression_begun, level_begun, modules_begun}
use Rattle.fir_parse.proofs.FormsReadPieces.{tail_ends_at}
use Rattle.fir_parse.proofs.FormsReadTypes.{read_whole_type}
use Rattle.fir_parse.proofs.FormsReadReferences.{read_computed_index}
use Rattle.fir_parse.proofs.FormsReadExpressions.{expression_read, read_whole_expression}
use Rattle.fir_parse.proofs.FormsReadWhens.{level_block, level_ends, read_first_when}
use Rattle.fir_parse.proofs.FormsReadStatements.{statements_read}
use Rattle.fir_parse.proofs.FormsReadPorts.{statements_level}
use Rattle.fir_parse.proofs.FormsReadCircuits.{read_modules, read_more_modules}

-- a text that goes on with such tokens
goes_on_so : (front ts more : List Terminal) (last : State) (c : CircuitTree) → Reaches whole front last → read_on nowhere origin last (ts ++ more) ≡ Ok c → IsFront (front ++ ts)
goes_on_so front ts more last c r h =
    let text = is_front_by front last ts more c r h in
    (more, (text.0, subst (λ us. IsSpelled nowhere text.0 us) (sym (append_assoc front ts more)) text.1))

-- reading at what is expected first
at_peeled : (last st : State) (a : List Terminal) → peel last ≡ st → Begun a → read_on nowhere origin last a ≡ read_on nowhere origin st a
at_peeled last st a e (t, ts, same, h) =
    ap (read_on nowhere origin last) same ∙ read_peeled last t ts origin h ∙ sym (ap (read_on nowhere origin (peel last)) same) ∙ ap (λ x. read_on nowhere origin x a) e

nothing_begun : Begun [] → ⊥
nothing_begun (t, ts, same, h) = absurd (cc)

type_so : (front : List Terminal) (last : State) (d : ℕ) (k : Tree (a_type d) → State) → Reaches whole front last → peel last ≡ wants (a_type d) k → Guarded (wants (a_type d) k) → (t : DataType) (ts : List Terminal) → Are (λ n. IsType nowhere n t) ts → IsFront (front ++ ts)
type_so front last d k r e g t [] are = absurd (nothing_begun (type_begun nowhere d t [] [] (are d [])))
type_so front last d k r e g t (u ∷ us) are =
    let x = type_at u.place t in
    let c : Completion (k x) = completable (k x) (g x).0 in
    let a : List Terminal = u ∷ (us ++ c.more) in
    let reads = read_whole_type nowhere d u.place t a c.more (a, (refl, refl), are d c.more) (tail_ends (k x) (g x).1 c) origin k in
    goes_on_so front (u ∷ us) c.more last c.circuit r (at_peeled last (wants (a_type d) k) a e (type_begun nowhere d t a c.more (are d c.more)) ∙ reads ∙ c.completes origin)

pub type_may_stand : (front : List Terminal) (last : State) (d : ℕ) (k : Tree (a_type d) → State) → Reaches whole front last → Guarded last → peel last ≡ wants (a_type d) k → TypeMayStand front
type_may_stand front last d k r g e = type_so front last d k r e (subst Guarded e (guarded_peeled last g))

pub expression_may_stand : (front : List Terminal) (last : State) (d : ℕ) (k : Tree (an_expression d) → State) → Reaches whole front last → Guarded last → peel last ≡ wants (an_expression d) k → ExpressionMayStand front
expression_may_stand front last d k r guarded e x ts are =
    let g : Guarded (wants (an_expression d) k) = subst Guarded e (guarded_peeled last guarded) in
    let c : Completion (k x) = completable (k x) (g x).0 in
    let a : List Terminal = ts ++ c.more in
    let reads = read_whole_expression nowhere d x a c.more (are d c.more) (tail_ends (k x) (g x).1 c) origin k in
    goes_on_so front ts c.more last c.circuit r (at_peeled last (wants (an_expression d) k) a e (expression_begun nowhere d x a c.more (are d c.more)) ∙ reads ∙ c.completes origin)

pub index_may_stand : (front : List Terminal) (last : State) (d : ℕ) (k : Tree (an_index d) → State) → Reaches whole front last → Guarded last → peel last ≡ wants (an_index d) k → ExpressionMayStand front
index_may_stand front last d k r guarded e x ts are =
    let g : Guarded (wants (an_index d) k) = subst Guarded e (guarded_peeled last guarded) in
    let i = computed_index x in
    let c : Completion (k i) = completable (k i) (g i).0 in
    let a : List Terminal = ts ++ c.more in
    let reads = read_computed_index nowhere d x a c.more (expression_read nowhere d x a c.more (are d c.more) (tail_ends (k i) (g i).1 c)) origin k in
    goes_on_so front ts c.more last c.circuit r (at_peeled last (wants (an_index d) k) a e (expression_begun nowhere d x a c.more (are d c.more)) ∙ reads ∙ c.completes origin)

-- the colon of a when, and an empty block
abbrev empty_block : List Terminal → List Terminal
empty_block more = token (mark Colon) ∷ token line_end ∷ token level_opens ∷ token level_closes ∷ more

pub condition_may_stand : (front : List Terminal) (last : State) (d : ℕ) (p : Place) (k : Tree (behind_first d p (codes "when")) → State) → Reaches whole front last → Guarded last → peel last ≡ wants (behind_first d p (codes "when")) k → ExpressionMayStand front
condition_may_stand front last d p k r guarded e x ts are =
    let g : Guarded (wants (behind_first d p (codes "when")) k) = subst Guarded e (guarded_peeled last guarded) in
    let w : OpenWhen = record { place = p; condition = x; block = no_statements } in
    let c : Completion (k (open_when w)) = completable (k (open_when w)) (g (open_when w)).0 in
    let m3 : List Terminal = token level_closes ∷ c.more in
    let m2 : List Terminal = token level_opens ∷ m3 in
    let m1 : List Terminal = token line_end ∷ m2 in
    let m : List Terminal = token (mark Colon) ∷ m1 in
    let a : List Terminal = ts ++ m in
    let block = level_block nowhere (d + 1) no_statements m2 m3 c.more (origin, refl) (level_ends nowhere (d + 1) m3 c.more (origin, refl)) in
    let reads =
    read_first_when nowhere d p x no_statements a m m1 m2 m2 c.more (expression_read nowhere d x a m (are d m) (tail_ends_at nowhere (mark Colon) origin m m1 refl refl)) (origin, refl) (origin, refl) (λ z. absurd (cc), refl) block origin k in
    goes_on_so front ts m last c.circuit r (at_peeled last (wants (behind_first d p (codes "when")) k) a e (expression_begun nowhere d x a m (are d m)) ∙ reads ∙ c.completes origin)

pub statements_may_stand : (front : List Terminal) (last : State) (d : ℕ) (ws : List OpenWhen) (k : Tree (statements d ws) → State) → Reaches whole front last → Guarded last → peel last ≡ wants (statements d ws) k → StatementsMayStand front
statements_may_stand front last d ws k r guarded e b ts are =
    let g : Guarded (wants (statements d ws) k) = subst Guarded e (guarded_peeled last guarded) in
    let x = closed_before ws no_statements b in
    let c : Completion (k x) = completable (k x) (g x).0 in
    let a : List Terminal = ts ++ c.more in
    let level = are d c.more in
    let reads = (statements_read nowhere d b a level.0 c.more level.1 level.2).1 ws origin k in
    goes_on_so front ts c.more last c.circuit r (at_peeled last (wants (statements d ws) k) a e (level_begun nowhere d b a c.more level) ∙ reads ∙ c.completes origin)

pub ports_may_stand : (front : List Terminal) (last : State) (k : Tree ports_and_statements → State) → Reaches whole front last → Guarded last → peel last ≡ wants ports_and_statements k → StatementsMayStand front
ports_may_stand front last k r guarded e b ts are =
    let g : Guarded (wants ports_and_statements k) = subst Guarded e (guarded_peeled last guarded) in
    let c : Completion (k (record { ports = []; block = b })) = completable (k (record { ports = []; block = b })) (g (record { ports = []; block = b })).0 in
    let a : List Terminal = ts ++ c.more in
    let level = are 0 c.more in
    let reads = statements_level nowhere b a level.0 c.more level.1 level.2 origin k in
    goes_on_so front ts c.more last c.circuit r (at_peeled last (wants ports_and_statements k) a e (level_begun nowhere 0 b a c.more level) ∙ reads ∙ c.completes origin)

pub modules_may_stand : (front : List Terminal) (last : State) (k : Tree first_module → State) → Reaches whole front last → Guarded last → peel last ≡ wants first_module k → ModulesMayStand front
modules_may_stand front last k r guarded e ms ts are =
    let g : Guarded (wants first_module k) = subst Guarded e (guarded_peeled last guarded) in
    let c : Completion (k ms) = completable (k ms) (g ms).0 in
    let a : List Terminal = ts ++ c.more in
    let level = are 0 c.more in
    let reads = read_modules nowhere ms a level.0 c.more level.1 level.2 origin k in
    goes_on_so front ts c.more last c.circuit r (at_peeled last (wants first_module k) a e (modules_begun nowhere ms a c.more level) ∙ reads ∙ c.completes origin)

pub more_modules_may_stand : (front : List Terminal) (last : State) (k : Tree more_modules → State) → Reaches whole front last → Guarded last → peel last ≡ wants more_modules k → ModulesMayStand front
more_modules_may_stand front last k r guarded e [] ts are = absurd ((are 0 []).1)
more_modules_may_stand front last k r guarded e (m ∷ ms) ts are =
    let g : Guarded (wants more_modules k) = subst Guarded e (guarded_peeled last guarded) in
    let c : Completion (k (m ∷ ms)) = completable (k (m ∷ ms)) (g (m ∷ ms)).0 in
    let a : List Terminal = ts ++ c.more in
    let level = are 0 c.more in
    let reads = read_more_modules nowhere (m ∷ ms) a level.0 c.more level.1 level.2 origin k in
    goes_on_so front ts c.more last c.circuit r (at_peeled last (wants more_modules k) a e (modules_begun nowhere (m ∷ ms) a c.more level) ∙ reads ∙ c.completes origin)
