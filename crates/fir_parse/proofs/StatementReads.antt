-- Statements whose first words leave more than one way open: behind them two plans read on alike, by the token at hand.
use Rattle.std.proofs.Common.{◌≡◌, ℕ, ◌+◌, List, [], ◌∷◌, drop, length, Bool, Bor, true, false, codes, if◌then◌else◌, Err, refl, sym, ap, ◌∙◌}
use Rattle.std.specs.Str.{bytes_eq}
use Rattle.fir_ast.specs.declared.place.Place.{Place}
use Rattle.fir_ast.specs.declared.fault.FirFault.TheVariants.{Syntax}
use Rattle.fir_ast.specs.Statements.{PlacedName, SinkReference, Statement, invalid, skip, done}
use Rattle.fir_parse.specs.declared.lexeme.Mark.TheVariants.{Connect, PartialConnect, Dot, OpenSquare, Colon, Equals}
use Rattle.fir_parse.specs.declared.lexeme.Lexeme.{Lexeme as LexemeRef}
use Rattle.fir_parse.specs.declared.lexeme.Lexeme.TheVariants as code
use Rattle.fir_parse.specs.declared.words.Declaration.{Declaration}
use Rattle.fir_parse.specs.declared.words.Declaration.TheVariants as declares
use Rattle.fir_parse.specs.declared.words.Lead.{Lead}
use Rattle.fir_parse.specs.declared.words.Lead.TheVariants as lead
use Rattle.fir_parse.specs.Lexemes.{Lexeme, Terminal, word, line_end}
use Rattle.fir_parse.specs.working.Seen.{seen}
use Rattle.fir_parse.specs.working.Words.{lead_of}
use Rattle.fir_parse.specs.working.Symbols.{OpenWhen, Begun, statement, Otherwise, no_else, else_when, a_line_end, a_word, an_expression, an_indented_block, behind_first, behind_is, behind_else, behind_sink, statements}
use Rattle.fir_parse.specs.working.States.{State, wants, Step, takes, without, refuses, unsupported}
use Rattle.fir_parse.specs.working.StatementRules.{bare, begun, declared, declaration_of_is, declaration_step, behind_otherwise, behind_statement, closed_before, ends_line, instance_rest, invalid_or, is_named, may_be_else, ref_rest, end_behind, stuck_behind, when_rest}
use Rattle.fir_parse.specs.working.AtHand.{StandsFirst}
use Rattle.fir_parse.specs.working.Reading.{Outcome, read_on, at_token, at_end, goes_on, one, step}
use Rattle.fir_parse.specs.working.Reads.{Plan}
use Rattle.fir_parse.specs.working.StatementTrees.{IsNeither}
use Rattle.fir_parse.specs.Limits.{everywhere}

-- states that do alike at the token at hand, and at the end
pub alike : (A B : State) (l : LexemeRef) (p : Place) (a : List Terminal) (end : Place) → StandsFirst a l p → at_end (λ l. true) end A ≡ at_end (λ l. true) end B → ((behind : State → Outcome) → at_token (λ l. true) A (record { lexeme = seen l; place = p }) behind ≡ at_token (λ l. true) B (record { lexeme = seen l; place = p }) behind) → read_on everywhere end A a ≡ read_on everywhere end B a
unfolding read_on
alike A B code.End p a end h e f = rw h e
alike A B l p a end h e f = rw h (f (λ next. read_on everywhere end next (drop 1 a)))

-- a word that is taken by a test, or where one word is expected
by_test : {T U : Type 0} (b : Bool) (p : Place) (g : Plan T) (k : T → State) (x : U) (m : U → State) (behind : State → Outcome) (u : T → Outcome) (v : U → Outcome) → g k ≡ m x → goes_on (if b then takes g else refuses) p k behind u ≡ goes_on (one b x) p m behind v
by_test true p g k x m behind u v e = ap behind e
by_test false p g k x m behind u v e = refl

both_by_test : {T U : Type 0} (b : Bool) (p : Place) (g : Plan T) (k : T → State) (h : Plan U) (m : U → State) (behind : State → Outcome) (u : T → Outcome) (v : U → Outcome) → g k ≡ h m → goes_on (if b then takes g else refuses) p k behind u ≡ goes_on (if b then takes h else refuses) p m behind v
both_by_test true p g k h m behind u v e = ap behind e
both_by_test false p g k h m behind u v e = refl

-- behind a sink
pub is_behind_sink : (d : ℕ) (s : SinkReference) (k : Statement → State) (l : LexemeRef) (p : Place) → (l ≡ code.Mark Connect → ⊥) → (l ≡ code.Mark PartialConnect → ⊥) → (behind : State → Outcome) → at_token (λ l. true) (wants (behind_sink d s) k) (record { lexeme = seen l; place = p }) behind ≡ at_token (λ l. true) (wants (a_word (codes "is")) (λ q. wants (a_word (codes "invalid")) (λ r. ends_line (invalid s.place s) k))) (record { lexeme = seen l; place = p }) behind
is_behind_sink d s k (code.Mark Connect) p h g behind = absurd (h refl)
is_behind_sink d s k (code.Mark PartialConnect) p h g behind = absurd (g refl)
is_behind_sink d s k (code.Word x) p h g behind = by_test (bytes_eq x.now (codes "is")) p (λ j. wants (a_word (codes "invalid")) (λ r. ends_line (invalid s.place s) j)) k p (λ q. wants (a_word (codes "invalid")) (λ r. ends_line (invalid s.place s) k)) behind _ _ refl
is_behind_sink d s k _ p h g behind = refl

-- signs behind which a reference goes on, or a connect stands
abbrev pub GoesOn : LexemeRef → Type 0
GoesOn (code.Mark Connect) = Unit {0}
GoesOn (code.Mark PartialConnect) = Unit {0}
GoesOn (code.Mark Dot) = Unit {0}
GoesOn (code.Mark OpenSquare) = Unit {0}
GoesOn _ = ⊥

-- a statement that begins with a reference, behind its name
pub begins_reference : (d : ℕ) (p : Place) (w : List ℕ) (k : Begun → State) (l : LexemeRef) (q : Place) → GoesOn l → (behind : State → Outcome) → at_token (λ l. true) (wants (behind_first d p w) k) (record { lexeme = seen l; place = q }) behind ≡ at_token (λ l. true) (ref_rest d p w (begun k)) (record { lexeme = seen l; place = q }) behind
begins_reference d p w k (code.Mark Connect) q h behind = refl
begins_reference d p w k (code.Mark PartialConnect) q h behind = refl
begins_reference d p w k (code.Mark Dot) q h behind = refl
begins_reference d p w k (code.Mark OpenSquare) q h behind = refl
begins_reference d p w k _ q h behind = absurd h

-- neither a reference nor a second word, behind a word that no statement is
alone_refused : (y : Lead) (p : Place) (w : List ℕ) → (y ≡ lead.Missing → ⊥) → (y ≡ lead.Skip → ⊥) → end_behind y p w ≡ refuses
alone_refused lead.Missing p w h g = absurd (h refl)
alone_refused lead.Skip p w h g = absurd (g refl)
alone_refused _ p w h g = refl

stuck_refused : (y : Lead) (p : Place) (w : List ℕ) → (y ≡ lead.Missing → ⊥) → stuck_behind y p w ≡ refuses
stuck_refused lead.Missing p w h = absurd (h refl)
stuck_refused _ p w h = refl

pub goes_on_no_further : (d : ℕ) (p : Place) (w : List ℕ) (l : LexemeRef) (q : Place) → IsNeither l → (lead_of w ≡ lead.Missing → ⊥) → (lead_of w ≡ lead.Skip → ⊥) → step (behind_first d p w) (seen l) q ≡ refuses
goes_on_no_further d p w (code.Word x) q i h g = absurd i
goes_on_no_further d p w (code.Mark Connect) q i h g = absurd i
goes_on_no_further d p w (code.Mark PartialConnect) q i h g = absurd i
goes_on_no_further d p w (code.Mark Dot) q i h g = absurd i
goes_on_no_further d p w (code.Mark OpenSquare) q i h g = absurd i
goes_on_no_further d p w code.LineEnd q i h g = alone_refused (lead_of w) p w h g
goes_on_no_further d p w _ q i h g = stuck_refused (lead_of w) p w h

-- the word of a form that is not in the language, alone
pub missing_alone : (d : ℕ) (p : Place) (w : List ℕ) (l : LexemeRef) (q : Place) → IsNeither l → lead.Missing ≡ lead_of w → step (behind_first d p w) (seen l) q ≡ unsupported p w
missing_alone d p w (code.Word x) q i h = absurd i
missing_alone d p w (code.Mark Connect) q i h = absurd i
missing_alone d p w (code.Mark PartialConnect) q i h = absurd i
missing_alone d p w (code.Mark Dot) q i h = absurd i
missing_alone d p w (code.Mark OpenSquare) q i h = absurd i
missing_alone d p w code.LineEnd q i h = ap (λ y. end_behind y p w) (sym h)
missing_alone d p w _ q i h = ap (λ y. stuck_behind y p w) (sym h)

-- behind the word `skip` the line ends
pub skip_alone : (d : ℕ) (p : Place) (w : List ℕ) (k : Begun → State) (l : LexemeRef) (q : Place) → IsNeither l → lead.Skip ≡ lead_of w → (behind : State → Outcome) → at_token (λ l. true) (wants (behind_first d p w) k) (record { lexeme = seen l; place = q }) behind ≡ at_token (λ l. true) (wants a_line_end (λ r. k (statement (skip p)))) (record { lexeme = seen l; place = q }) behind
skip_alone d p w k (code.Word x) q i h behind = absurd i
skip_alone d p w k (code.Mark Connect) q i h behind = absurd i
skip_alone d p w k (code.Mark PartialConnect) q i h behind = absurd i
skip_alone d p w k (code.Mark Dot) q i h behind = absurd i
skip_alone d p w k (code.Mark OpenSquare) q i h behind = absurd i
skip_alone d p w k code.LineEnd q i h behind = ap (λ y. goes_on (end_behind y p w) q k behind (λ x. at_token (λ l. true) (k x) (record { lexeme = line_end; place = q }) behind)) (sym h)
skip_alone d p w k l q i h behind = ap (λ y. goes_on (stuck_behind y p w) q k behind (λ x. at_token (λ l. true) (k x) (record { lexeme = seen l; place = q }) behind)) (sym h)

-- a second word that is not `is`
pub by_second_word : (d : ℕ) (p : Place) (w x : List ℕ) (q : Place) (l : Lead) → bytes_eq x (codes "is") ≡ false → l ≡ lead_of w → step (behind_first d p w) (word x) q ≡ declaration_step l d p w x q
by_second_word d p w x q l e f = rw e (ap (λ y. declaration_step y d p w x q) (sym f))

pub second_is_is : (d : ℕ) (p : Place) (w x : List ℕ) (q : Place) → bytes_eq x (codes "is") ≡ true → step (behind_first d p w) (word x) q ≡ takes (λ k. wants (behind_is d p w q) k)
second_is_is d p w x q e = rw e refl

-- behind the word `is`, where no `invalid` stands
not_invalid : (s : SinkReference) (otherwise : Step Begun) (l : LexemeRef) → ((x : Bor (List ℕ)) → l ≡ code.Word x → bytes_eq x.now (codes "invalid") ≡ false) → invalid_or (seen l) s otherwise ≡ otherwise
not_invalid s o (code.Word x) h = rw (h x refl) refl
not_invalid s o _ h = refl

declares_is : (what : Declaration) (d : ℕ) (p q : Place) (k : Begun → State) (l : LexemeRef) (r : Place) (behind : State → Outcome) → goes_on (declaration_of_is (lead.Declares what) d p q (seen l) r) r k behind (λ x. at_token (λ l. true) (k x) (record { lexeme = seen l; place = r }) behind) ≡ at_token (λ l. true) (declared what d p (is_named q) k) (record { lexeme = seen l; place = r }) behind
declares_is declares.Wire d p q k (code.Mark Colon) r behind = refl
declares_is declares.Wire d p q k _ r behind = refl
declares_is declares.Reg d p q k (code.Mark Colon) r behind = refl
declares_is declares.Reg d p q k _ r behind = refl
declares_is declares.Node d p q k (code.Mark Equals) r behind = refl
declares_is declares.Node d p q k _ r behind = refl
declares_is declares.Inst d p q k (code.Word x) r behind = by_test (bytes_eq x.now (codes "of")) r (λ j. instance_rest p (is_named q) (begun j)) k r (λ s. instance_rest p (is_named q) (begun k)) behind _ _ refl
declares_is declares.Inst d p q k _ r behind = refl
declares_is declares.Mem d p q k (code.Mark Colon) r behind = refl
declares_is declares.Mem d p q k _ r behind = refl
declares_is declares.When d p q k (code.Mark Colon) r behind = refl
declares_is declares.When d p q k (code.Mark _) r behind = refl
declares_is declares.When d p q k _ r behind = refl

-- behind the word `is`, a declaration of that name, or a when whose condition begins with it
pub behind_is_declares : (what : Declaration) (d : ℕ) (p : Place) (w : List ℕ) (q : Place) (k : Begun → State) (l : LexemeRef) (r : Place) → lead.Declares what ≡ lead_of w → ((x : Bor (List ℕ)) → l ≡ code.Word x → bytes_eq x.now (codes "invalid") ≡ false) → (behind : State → Outcome) → at_token (λ l. true) (wants (behind_is d p w q) k) (record { lexeme = seen l; place = r }) behind ≡ at_token (λ l. true) (declared what d p (is_named q) k) (record { lexeme = seen l; place = r }) behind
behind_is_declares what d p w q k l r e h behind =
    ap (λ u. goes_on u r k behind (λ x. at_token (λ l. true) (k x) (record { lexeme = seen l; place = r }) behind)) (not_invalid (bare p w) (declaration_of_is (lead_of w) d p q (seen l) r) l h ∙ ap (λ y. declaration_of_is y d p q (seen l) r) (sym e))
    ∙ declares_is what d p q k l r behind

pub declared_at_end : (what : Declaration) (d : ℕ) (p : Place) (n : PlacedName) (k : Begun → State) (end : Place) → at_end (λ l. true) end (declared what d p n k) ≡ Err (Syntax end)
declared_at_end declares.Wire d p n k end = refl
declared_at_end declares.Reg d p n k end = refl
declared_at_end declares.Node d p n k end = refl
declared_at_end declares.Inst d p n k end = refl
declared_at_end declares.Mem d p n k end = refl
declared_at_end declares.When d p n k end = refl

no_declaration : (y : Lead) (d : ℕ) (p q : Place) (l : Lexeme) (r : Place) → ((what : Declaration) → y ≡ lead.Declares what → ⊥) → declaration_of_is y d p q l r ≡ refuses
no_declaration (lead.Declares what) d p q l r h = absurd (h what refl)
no_declaration _ d p q l r h = refl

-- behind the word `is`, where no `invalid` stands and the first word declares nothing
pub behind_is_refuses : (d : ℕ) (p : Place) (w : List ℕ) (q : Place) (l : LexemeRef) (r : Place) → ((what : Declaration) → lead_of w ≡ lead.Declares what → ⊥) → ((x : Bor (List ℕ)) → l ≡ code.Word x → bytes_eq x.now (codes "invalid") ≡ false) → step (behind_is d p w q) (seen l) r ≡ refuses
behind_is_refuses d p w q l r g h = not_invalid (bare p w) (declaration_of_is (lead_of w) d p q (seen l) r) l h ∙ no_declaration (lead_of w) d p q (seen l) r g

pub invalid_behind_is : (d : ℕ) (p : Place) (w x : List ℕ) (q r : Place) → bytes_eq x (codes "invalid") ≡ true → step (behind_is d p w q) (word x) r ≡ takes (λ k. ends_line (invalid p (bare p w)) (begun k))
invalid_behind_is d p w x q r e = rw e refl

-- behind the word `else`, where neither a colon nor a when stands
pub no_else_behind : (d n : ℕ) (p : Place) (k : Otherwise → State) (l : LexemeRef) (q : Place) → (l ≡ code.Mark Colon → ⊥) → ((x : Bor (List ℕ)) → l ≡ code.Word x → bytes_eq x.now (codes "when") ≡ false) → (behind : State → Outcome) → at_token (λ l. true) (wants (behind_else d n p) k) (record { lexeme = seen l; place = q }) behind ≡ at_token (λ l. true) (ref_rest d p (codes "else") (λ s. k (no_else s))) (record { lexeme = seen l; place = q }) behind
no_else_behind d n p k (code.Mark Colon) q h g behind = absurd (h refl)
no_else_behind d n p k (code.Mark Connect) q h g behind = refl
no_else_behind d n p k (code.Mark PartialConnect) q h g behind = refl
no_else_behind d n p k (code.Mark Dot) q h g behind = refl
no_else_behind d n p k (code.Mark OpenSquare) q h g behind = refl
no_else_behind d n p k (code.Word x) q h g behind =
    ap (λ b. goes_on (if b then takes (λ j. wants (an_expression (d + n)) (λ e. when_rest (d + n) q e (λ s. j (else_when s)))) else if bytes_eq x.now (codes "is") then takes (λ j. wants (a_word (codes "invalid")) (λ r. ends_line (invalid p (bare p (codes "else"))) (λ s. j (no_else s)))) else refuses) q k behind (λ y. at_token (λ l. true) (k y) (record { lexeme = word x.now; place = q }) behind)) (g x refl)
    ∙ both_by_test (bytes_eq x.now (codes "is")) q (λ j. wants (a_word (codes "invalid")) (λ r. ends_line (invalid p (bare p (codes "else"))) (λ s. j (no_else s)))) k (λ j. wants (a_word (codes "invalid")) (λ r. ends_line (invalid p (bare p (codes "else"))) j)) (λ s. k (no_else s)) behind _ _ refl
no_else_behind d n p k _ q h g behind = refl

pub when_behind_else : (d n : ℕ) (p : Place) (x : List ℕ) (q : Place) → bytes_eq x (codes "when") ≡ true → step (behind_else d n p) (word x) q ≡ takes (λ k. wants (an_expression (d + n)) (λ e. when_rest (d + n) q e (λ s. k (else_when s))))
when_behind_else d n p x q e = rw e refl

-- a word of a level that is no else
pub first_word : (d : ℕ) (ws : List OpenWhen) (w : List ℕ) (p : Place) → may_be_else ws w ≡ false → step (statements d ws) (word w) p ≡ takes (λ k. wants (behind_first d p w) (λ s. behind_statement d s (λ rest. k (closed_before ws done rest))))
first_word d ws w p e = rw e refl

-- the word `else` behind a when
pub else_word : (d : ℕ) (ws : List OpenWhen) (p : Place) → (ws ≡ [] → ⊥) → step (statements d ws) (word (codes "else")) p ≡ takes (λ k. wants (behind_else d (length ws) p) (λ x. behind_otherwise d ws x k))
else_word d [] p h = absurd (h refl)
else_word d (w ∷ ws) p h = refl

-- neither a word nor the end of the level
pub other_statement : (d : ℕ) (ws : List OpenWhen) (l : LexemeRef) (p : Place) → ((x : Bor (List ℕ)) → l ≡ code.Word x → ⊥) → (l ≡ code.LevelCloses → ⊥) → step (statements d ws) (seen l) p ≡ refuses
other_statement d ws (code.Word x) p h g = absurd (h x refl)
other_statement d ws code.LevelCloses p h g = absurd (g refl)
other_statement d ws _ p h g = refl

-- where no level opens there are no statements
pub no_block : (d : ℕ) (l : LexemeRef) (p : Place) → (l ≡ code.LevelOpens → ⊥) → step (an_indented_block d) (seen l) p ≡ without done
no_block d code.LevelOpens p h = absurd (h refl)
no_block d _ p h = refl

-- two words that declare nothing
pub declares_nothing : (y : Lead) (d : ℕ) (p : Place) (w x : List ℕ) (q : Place) → ((what : Declaration) → y ≡ lead.Declares what → ⊥) → (y ≡ lead.Missing → ⊥) → (y ≡ lead.MissingPort → ⊥) → declaration_step y d p w x q ≡ refuses
declares_nothing (lead.Declares what) d p w x q h g f = absurd (h what refl)
declares_nothing lead.Missing d p w x q h g f = absurd (g refl)
declares_nothing lead.MissingPort d p w x q h g f = absurd (f refl)
declares_nothing _ d p w x q h g f = refl

pub port_of_memory : (d : ℕ) (p : Place) (w x : List ℕ) (q : Place) → bytes_eq x (codes "mport") ≡ true → declaration_step lead.MissingPort d p w x q ≡ unsupported p w
port_of_memory d p w x q e = rw e refl

pub no_port_of_memory : (d : ℕ) (p : Place) (w x : List ℕ) (q : Place) → bytes_eq x (codes "mport") ≡ false → declaration_step lead.MissingPort d p w x q ≡ refuses
no_port_of_memory d p w x q e = rw e refl
