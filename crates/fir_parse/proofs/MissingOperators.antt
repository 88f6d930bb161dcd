-- Where an operator may stand with its parenthesis and a word of a missing one is taken, an expression begins with it.
use Rattle.std.proofs.Common.{◌≡◌, ℕ, List, [], ◌∷◌, Bool, true, false, None, codes, refl, sym, ap, ◌∙◌, subst, if◌then◌else◌, IsTrue}
use Rattle.std.specs.Str.{bytes_eq}
use Rattle.fir_base.specs.Lists.{In}
use Rattle.fir_base.proofs.Each.{all_at}
use Rattle.fir_ast.specs.declared.place.Place.{Place}
use Rattle.fir_ast.specs.Expressions.{Expression, no_parts}
use Rattle.fir_parse.specs.declared.lexeme.Mark.TheVariants.{Equals, OpenRound, Colon}
use Rattle.fir_parse.specs.declared.words.Applied.TheVariants as applied
use Rattle.fir_parse.specs.declared.words.Declaration.TheVariants as declares
use Rattle.fir_parse.specs.declared.words.Lead.{Lead}
use Rattle.fir_parse.specs.declared.words.Lead.TheVariants as lead
use Rattle.fir_parse.specs.Lexemes.{word, mark, Terminal}
use Rattle.fir_parse.specs.MissingForms.{missing_operators, word_at}
use Rattle.fir_parse.specs.working.Words.{lead_of, applied_of}
use Rattle.fir_ast.specs.Statements.{done as no_statements}
use Rattle.fir_parse.specs.working.Symbols.{Sym, Tree, Begun, computed_index, open_when, a_mark, a_word, a_name, a_field_name, a_line_end, an_expression, an_index, behind_word, parts, more_names, fields, more_fields, a_field, behind_flip, statements, behind_first, behind_is, behind_direction, ports_and_statements}
use Rattle.fir_parse.specs.working.States.{State, done, limit, wants, takes, unsupported}
use Rattle.fir_parse.specs.working.TypeRules.{field_rest, with_field}
use Rattle.fir_parse.specs.working.StatementRules.{declared, declaration_step, declaration_of_is, when_rest, behind_statement, closed_before}
use Rattle.fir_parse.specs.working.ExpressionRules.{behind_word_step, applied_rest}
use Rattle.fir_parse.specs.working.CircuitRules.{statements_only, port_rest}
use Rattle.fir_parse.specs.working.Reaching.{continues, unexpected, missing, judge, verdict_by}
use Rattle.fir_parse.proofs.Guards.{firm, nested_shut, IsShut, Meets, Guarded}
use Rattle.fir_parse.proofs.Completions.{refuses_tail}
use Rattle.fir_parse.proofs.Peeled.{empty_tree, IsSteadySymbol}
use Rattle.fir_parse.proofs.MissingTold.{IsTaken, TakenBy, is_taken, no_keyword}
use Rattle.fir_parse.proofs.MissingStatements.{leads}

abbrev pub round : Place → Terminal
round q = record { lexeme = mark OpenRound; place = q }

-- ---- behind a name no parenthesis opens

firm_refuses : (st : State) (q : Place) (next : State) → Meets firm st → judge st (round q) ≡ continues next → ⊥
firm_refuses (done c) q next m h = absurd m
firm_refuses (limit passed l st) q next m h = absurd m
firm_refuses (wants s k) q next m h =
    let no_step : judge (wants s k) (round q) ≡ unexpected = ap (λ u. verdict_by u k (λ x. judge (k x) (round q))) (refuses_tail s m q).1 in
    absurd (cc)

none_true : IsTrue false → ⊥
none_true h = cc

shut_refuses : (st : State) (q : Place) (next : State) → Guarded st → IsShut st → judge st (round q) ≡ continues next → ⊥
shut_refuses (done c) q next g m h = absurd m
shut_refuses (limit passed l st) q next g m h = absurd m
shut_refuses (wants (a_mark Colon) k) q next g m h = absurd (cc)
shut_refuses (wants (a_mark Equals) k) q next g m h = absurd (cc)
shut_refuses (wants a_line_end k) q next g m h = absurd (cc)
shut_refuses (wants more_names k) q next g m h = absurd (cc)
shut_refuses (wants (parts d n) k) q next g m h = firm_refuses (k no_parts) q next (g no_parts).1 h
shut_refuses (wants s k) q next g m h = absurd (none_true m)

shut_behind : (p : Place) (st : State) (q : Place) (next : State) → Guarded st → Meets (nested_shut p) st → judge st (round q) ≡ continues next → ⊥
shut_behind p (done c) q next g m h = absurd m
shut_behind p (limit passed l st) q next g m h = shut_refuses st q next g m.1 h
shut_behind p (wants s k) q next g m h = absurd m

-- ---- the word `mux` and a parenthesis

abbrev pub mux : List ℕ
mux = codes "mux"

-- an expression begins with the word
abbrev pub BeginsOne : Place → List ℕ → State → Type 0
BeginsOne p w last = (d : ℕ) × (k : Expression → State) × (wants (behind_word d p w) k ≡ last)

mux_of_is : (v : Lead) (d : ℕ) (p q r : Place) → IsTaken (declaration_of_is v d p q (word (codes "mux")) r) → ⊥
mux_of_is (lead.Declares declares.Wire) d p q r h = h
mux_of_is (lead.Declares declares.Reg) d p q r h = h
mux_of_is (lead.Declares declares.Node) d p q r h = h
mux_of_is (lead.Declares declares.Inst) d p q r h = h
mux_of_is (lead.Declares declares.Mem) d p q r h = h
mux_of_is (lead.Declares declares.When) d p q r h = h
mux_of_is _ d p q r h = h

-- what is expected behind the word takes no parenthesis
abbrev pub RefusesRound : State → Type 0
RefusesRound st = (q : Place) (next : State) → judge st (round q) ≡ continues next → ⊥

-- so that no parenthesis opened there
no_round : {T : Type 0} (h f : (T → State) → State) (k : T → State) → takes h ≡ takes f → RefusesRound (h k) → (RefusesRound (f k) → ⊥) → ⊥
no_round h f k e r opens = let same : f k ≡ h k = (let first : h ≡ f = cc in sym (ap (λ z. z k) first)) in opens (subst RefusesRound (sym same) r)

declared_by : (v : Lead) (d : ℕ) (r : Place) (x : List ℕ) (k : Begun → State) (q p : Place) (w : List ℕ) (f g : (Begun → State) → State) (last : State) → declaration_step v d r x mux q ≡ takes f → (RefusesRound (f k) → ⊥)
    → declaration_step v d r x w p ≡ takes g → g k ≡ last → BeginsOne p w last
declared_by (lead.Declares declares.When) d r x k q p w f g last e opens taken same =
    let h : (Begun → State) → State = λ j. declared declares.When d r (record { place = p; name = w }) j in
    (d, (λ c. when_rest d r c (λ s. k (open_when s))), leads g h k last taken same)
declared_by (lead.Declares declares.Wire) d r x k q p w f g last e opens taken same =
    absurd (no_round (λ j. declared declares.Wire d r (record { place = q; name = mux }) j) f k e (λ n m h. absurd (cc)) opens)
declared_by (lead.Declares declares.Reg) d r x k q p w f g last e opens taken same =
    absurd (no_round (λ j. declared declares.Reg d r (record { place = q; name = mux }) j) f k e (λ n m h. absurd (cc)) opens)
declared_by (lead.Declares declares.Node) d r x k q p w f g last e opens taken same =
    absurd (no_round (λ j. declared declares.Node d r (record { place = q; name = mux }) j) f k e (λ n m h. absurd (cc)) opens)
declared_by (lead.Declares declares.Inst) d r x k q p w f g last e opens taken same =
    absurd (no_round (λ j. declared declares.Inst d r (record { place = q; name = mux }) j) f k e (λ n m h. absurd (cc)) opens)
declared_by (lead.Declares declares.Mem) d r x k q p w f g last e opens taken same =
    absurd (no_round (λ j. declared declares.Mem d r (record { place = q; name = mux }) j) f k e (λ n m h. absurd (cc)) opens)
declared_by _ d r x k q p w f g last e opens taken same = absurd (cc)

first_by : (d : ℕ) (r : Place) (x : List ℕ) (k : Begun → State) (q p : Place) (w : List ℕ) (next last : State) → bytes_eq w (codes "is") ≡ false → TakenBy (behind_first d r x) k (word_at mux q) next → (RefusesRound next → ⊥) → TakenBy (behind_first d r x) k (word_at w p) last
    → BeginsOne p w last
first_by d r x k q p w next last e (f, a, same) opens (g, taken, ends) =
    let P : Bool → Type 0 = λ b. (if b then takes (λ j. wants (behind_is d r x p) j) else declaration_step (lead_of x) d r x w p) ≡ takes g in
    declared_by (lead_of x) d r x k q p w f g last a (λ z. opens (subst RefusesRound same z)) (subst P e taken) ends

-- how the text goes on behind the word where it goes on so behind `mux`
pub operator_begins : (s : Sym) (k : Tree s → State) (q p : Place) (w : List ℕ) (next last : State) → bytes_eq w (codes "is") ≡ false → Guarded (wants s k) → IsSteadySymbol s → empty_tree s ≡ None
    → TakenBy s k (word_at mux q) next → (RefusesRound next → ⊥) → TakenBy s k (word_at w p) last → BeginsOne p w last
operator_begins (an_expression d) k q p w next last e g steady none a opens (f, taken, same) = (d, k, leads f (λ j. wants (behind_word d p w) j) k last taken same)
operator_begins (an_index d) k q p w next last e g steady none a opens (f, taken, same) =
    (d, (λ x. k (computed_index x)), leads f (λ j. wants (behind_word d p w) (λ x. j (computed_index x))) k last taken same)
operator_begins (behind_first d r x) k q p w next last e g steady none a opens t = first_by d r x k q p w next last e a opens t
operator_begins a_name k q p w next last e g steady none (f, a, same) opens t =
    absurd (no_round (λ j. j (record { place = q; name = mux })) f k a (λ r n h. shut_refuses _ r n (g _).0 (g _).1 h) (λ z. opens (subst RefusesRound same z)))
operator_begins a_field_name k q p w next last e g steady none (f, a, same) opens t =
    absurd (no_round (λ j. j (record { place = q; name = mux })) f k a (λ r n h. shut_behind q _ r n (g _).0 (g _).1 h) (λ z. opens (subst RefusesRound same z)))
operator_begins (a_word v) k q p w next last e g steady none a opens t = absurd (no_keyword mux v q refl steady (is_taken (a_word v) k (word_at mux q) next a))
operator_begins (a_field d) k q p w next last e g steady none (f, a, same) opens t =
    absurd (no_round (λ j. field_rest d q false mux j) f k a (λ n m h. absurd (cc)) (λ z. opens (subst RefusesRound same z)))
operator_begins (fields d) k q p w next last e g steady none (f, a, same) opens t =
    absurd (no_round (λ j. field_rest d q false mux (λ x. wants (more_fields d) (λ fs. j (with_field x fs)))) f k a (λ n m h. absurd (cc)) (λ z. opens (subst RefusesRound same z)))
operator_begins (behind_flip d r) k q p w next last e g steady none (f, a, same) opens t =
    absurd (no_round (λ j. field_rest d q true mux j) f k a (λ n m h. absurd (cc)) (λ z. opens (subst RefusesRound same z)))
operator_begins more_names k q p w next last e g steady none (f, a, same) opens t =
    absurd (no_round (λ j. wants more_names (λ ns. j (record { place = q; name = mux } ∷ ns))) f k a (λ n m h. absurd (cc)) (λ z. opens (subst RefusesRound same z)))
operator_begins (statements d []) k q p w next last e g steady none (f, a, same) opens t =
    absurd (no_round (λ j. wants (behind_first d q mux) (λ s. behind_statement d s (λ rest. j (closed_before [] no_statements rest)))) f k a (λ n m h. absurd (cc)) (λ z. opens (subst RefusesRound same z)))
operator_begins (statements d (o ∷ ws)) k q p w next last e g steady none (f, a, same) opens t =
    absurd (no_round (λ j. wants (behind_first d q mux) (λ s. behind_statement d s (λ rest. j (closed_before (o ∷ ws) no_statements rest)))) f k a (λ n m h. absurd (cc)) (λ z. opens (subst RefusesRound same z)))
operator_begins ports_and_statements k q p w next last e g steady none (f, a, same) opens t =
    absurd (no_round (λ j. wants (behind_first 0 q mux) (λ s. statements_only s j)) f k a (λ n m h. absurd (cc)) (λ z. opens (subst RefusesRound same z)))
operator_begins (behind_direction v r x) k q p w next last e g steady none (f, a, same) opens t =
    absurd (no_round (λ j. wants (a_mark Colon) (λ s. port_rest v (record { place = q; name = mux }) j)) f k a (λ n m h. absurd (cc)) (λ z. opens (subst RefusesRound same z)))
operator_begins (behind_is d r v x) k q p w next last e g steady none a opens t = absurd (mux_of_is (lead_of v) d r x q (is_taken (behind_is d r v x) k (word_at mux q) next a))
operator_begins s k q p w next last e g steady none a opens t = absurd (is_taken s k (word_at mux q) next a)

-- ---- the token behind the word

abbrev pub IsMissingOperator : List ℕ → Type 0
IsMissingOperator w = (applied_of w ≡ applied.Missing) × (bytes_eq w (codes "is") ≡ false)

pub missing_operator : (w : List ℕ) → In missing_operators w → IsMissingOperator w
missing_operator w m =
    let one : IsMissingOperator (codes "asClock") = (refl, refl) in
    all_at IsMissingOperator missing_operators (one, (one, (one, (one, (one, (one, (one, (one, (one, tt))))))))) w m

behind_mark : (d : ℕ) (p : Place) (w : List ℕ) (q : Place) → applied_of w ≡ applied.Missing → behind_word_step d p w (mark OpenRound) q ≡ unsupported p w
behind_mark d p w q e = ap (λ a. applied_rest a d p w q) e

pub operator_told : (d : ℕ) (p : Place) (w : List ℕ) (k : Expression → State) (t : Terminal) → applied_of w ≡ applied.Missing → t.lexeme ≡ mark OpenRound → judge (wants (behind_word d p w) k) t ≡ missing p w
operator_told d p w k t e h =
    let same : behind_word_step d p w t.lexeme t.place ≡ unsupported p w = ap (λ l. behind_word_step d p w l t.place) h ∙ behind_mark d p w t.place e in
    ap (λ x. verdict_by x k (λ y. judge (k y) t)) same
