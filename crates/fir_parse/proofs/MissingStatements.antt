-- Where a level may end and a word of a missing statement is taken, a statement begins with it, which no other token takes on.
use Rattle.std.proofs.Common.{◌≡◌, ℕ, List, [], ◌∷◌, length, Bool, true, false, None, codes, refl, sym, ap, ◌∙◌, subst, ◌⊎◌, inl, inr, if◌then◌else◌}
use Rattle.std.specs.Str.{bytes_eq}
use Rattle.fir_base.specs.Lists.{In}
use Rattle.fir_base.proofs.Each.{all_at}
use Rattle.fir_ast.specs.declared.place.Place.{Place}
use Rattle.fir_ast.specs.Statements.{done}
use Rattle.fir_parse.specs.declared.lexeme.Mark.{Mark}
use Rattle.fir_parse.specs.declared.lexeme.Mark.TheVariants.{Connect, PartialConnect, OpenSquare, Dot}
use Rattle.fir_parse.specs.declared.words.Declaration.TheVariants as declares
use Rattle.fir_parse.specs.declared.words.Lead.{Lead}
use Rattle.fir_parse.specs.declared.words.Lead.TheVariants as lead
use Rattle.fir_parse.specs.declared.words.FieldWord.{FieldWord}
use Rattle.fir_parse.specs.declared.words.FieldWord.TheVariants as memory
use Rattle.fir_parse.specs.declared.words.ModuleWord.{ModuleWord}
use Rattle.fir_parse.specs.declared.words.ModuleWord.TheVariants as modules
use Rattle.fir_parse.specs.Lexemes.{Lexeme, word, mark, line_end, level_closes, Terminal}
use Rattle.fir_parse.specs.MissingForms.{missing_statements, missing_ports, word_at}
use Rattle.fir_parse.specs.working.Words.{lead_of, plain_field_word, module_word_of, direction_of}
use Rattle.fir_parse.specs.working.Symbols.{Sym, Tree, OpenWhen, Begun, no_port, statements, behind_first, behind_is, behind_else, behind_direction, more_memory_fields, more_modules, ports_and_statements, a_closing}
use Rattle.fir_parse.specs.working.States.{State, wants, Step, takes, without, refuses, unsupported}
use Rattle.fir_parse.specs.working.StatementRules.{stuck_behind, declaration_of_is, first_step, may_be_else, behind_statement, behind_otherwise, closed_before}
use Rattle.fir_parse.specs.working.MemoryRules.{by_field_word, then_fields}
use Rattle.fir_parse.specs.working.CircuitRules.{body_by_word, by_module_word, statements_only}
use Rattle.fir_parse.specs.working.Reading.{step}
use Rattle.fir_parse.specs.working.Reaching.{Verdict, continues, missing, judge, verdict_by}
use Rattle.fir_parse.proofs.Peeled.{empty_tree}
use Rattle.fir_parse.proofs.MissingTold.{IsTaken, TakenBy, stuck_not_taken, mapped_taken}

-- it is no other word that may begin where a level may end
abbrev pub BeginsNothingElse : List ℕ → Type 0
BeginsNothingElse w = (bytes_eq w (codes "else") ≡ false) × (plain_field_word w ≡ memory.Name) × (module_word_of w ≡ modules.Name) × (direction_of w ≡ None)

abbrev IsMissingStatement : List ℕ → Type 0
IsMissingStatement w = (lead_of w ≡ lead.Missing) × BeginsNothingElse w

abbrev IsMissingPort : List ℕ → Type 0
IsMissingPort w = (lead_of w ≡ lead.MissingPort) × BeginsNothingElse w

pub missing_statement : (w : List ℕ) → In missing_statements w → IsMissingStatement w
missing_statement w m =
    let one : IsMissingStatement (codes "attach") = (refl, (refl, refl, refl, refl)) in
    all_at IsMissingStatement missing_statements (one, (one, (one, (one, (one, (one, (one, (one, tt)))))))) w m

pub missing_port : (w : List ℕ) → In missing_ports w → IsMissingPort w
missing_port w m =
    let one : IsMissingPort (codes "infer") = (refl, (refl, refl, refl, refl)) in
    all_at IsMissingPort missing_ports (one, (one, (one, (one, tt)))) w m

-- a statement begins with the word
abbrev pub Begins : Place → List ℕ → State → Type 0
Begins p w last = (d : ℕ) × (k : Begun → State) × (wants (behind_first d p w) k ≡ last)

no_else : (ws : List OpenWhen) (w : List ℕ) → bytes_eq w (codes "else") ≡ false → may_be_else ws w ≡ false
no_else [] w e = refl
no_else (_ ∷ ws) w e = e

closes_of_is : (v : Lead) (d : ℕ) (p q r : Place) → IsTaken (declaration_of_is v d p q level_closes r) → ⊥
closes_of_is (lead.Declares declares.Wire) d p q r h = h
closes_of_is (lead.Declares declares.Reg) d p q r h = h
closes_of_is (lead.Declares declares.Node) d p q r h = h
closes_of_is (lead.Declares declares.Inst) d p q r h = h
closes_of_is (lead.Declares declares.Mem) d p q r h = h
closes_of_is (lead.Declares declares.When) d p q r h = h
closes_of_is _ d p q r h = h

-- what takes a token so leads on so
pub leads : {T : Type 0} (f g : (T → State) → State) (k : T → State) (last : State) → takes g ≡ takes f → f k ≡ last → g k ≡ last
leads f g k last e h = let same : g ≡ f = cc in ap (λ z. z k) same ∙ h

by_statements : (d : ℕ) (ws : List OpenWhen) (k : Tree (statements d ws) → State) (p : Place) (w : List ℕ) (last : State) → bytes_eq w (codes "else") ≡ false → TakenBy (statements d ws) k (word_at w p) last → Begins p w last
by_statements d ws k p w last e (f, taken, same) =
    let g : (Tree (statements d ws) → State) → State = λ j. wants (behind_first d p w) (λ s. behind_statement d s (λ rest. j (closed_before ws done rest))) in
    let P : Bool → Type 0 =
    λ b. (if b then takes (λ j. wants (behind_else d (length ws) p) (λ x. behind_otherwise d ws x j)) else takes (λ j. wants (behind_first d p w) (λ s. behind_statement d s (λ rest. j (closed_before ws done rest))))) ≡ takes f in
    let first : takes g ≡ takes f = subst P (no_else ws w e) taken in
    (d, (λ s. behind_statement d s (λ rest. k (closed_before ws done rest))), leads f g k last first same)

by_ports : (k : Tree ports_and_statements → State) (p : Place) (w : List ℕ) (last : State) → direction_of w ≡ None → TakenBy ports_and_statements k (word_at w p) last → Begins p w last
by_ports k p w last e (f, taken, same) =
    let g : (Tree ports_and_statements → State) → State = λ j. wants (behind_first 0 p w) (λ s. statements_only s j) in
    let first : takes g ≡ takes f = sym (ap (λ o. body_by_word o p w) e) ∙ taken in
    (0, (λ s. statements_only s k), leads f g k last first same)

no_field : (d : ℕ) (p : Place) (v : FieldWord) (f : (Tree (more_memory_fields d) → State) → State) → v ≡ memory.Name → then_fields d (by_field_word v d p) ≡ takes f → ⊥
no_field d p v f e h = let none : then_fields d (by_field_word v d p) ≡ refuses = ap (λ x. then_fields d (by_field_word x d p)) e in absurd (cc)

no_module : (p : Place) (w : List ℕ) (v : ModuleWord) (f : (Tree more_modules → State) → State) → v ≡ modules.Name → by_module_word v p w ≡ takes f → ⊥
no_module p w v f e h = let none : by_module_word v p w ≡ refuses = ap (λ x. by_module_word x p w) e in absurd (cc)

pub statement_begins : (s : Sym) (k : Tree s → State) (q p : Place) (w : List ℕ) (last : State) → BeginsNothingElse w → empty_tree s ≡ None → IsTaken (step s level_closes q) → TakenBy s k (word_at w p) last → Begins p w last
statement_begins (statements d ws) k q p w last e none h t = by_statements d ws k p w last e.0 t
statement_begins ports_and_statements k q p w last e none h t = by_ports k p w last e.3 t
statement_begins a_closing k q p w last e none h (f, taken, same) = absurd (cc)
statement_begins (more_memory_fields d) k q p w last e none h (f, taken, same) = absurd (no_field d p (plain_field_word w) f e.1 taken)
statement_begins more_modules k q p w last e none h (f, taken, same) = absurd (no_module p w (module_word_of w) f e.2 taken)
statement_begins (behind_first d r v) k q p w last e none h t = absurd (stuck_not_taken (lead_of v) r v h)
statement_begins (behind_direction v r x) k q p w last e none h t = absurd (stuck_not_taken (lead_of x) r x (mapped_taken no_port (stuck_behind (lead_of x) r x) h))
statement_begins (behind_is d r v x) k q p w last e none h t = absurd (closes_of_is (lead_of v) d r x q h)
statement_begins s k q p w last e none h t = absurd h

-- ---- the token behind the word

abbrev TakenOrMissing : Place → List ℕ → Step Begun → Type 0
TakenOrMissing p w u = IsTaken u ⊎ (u ≡ unsupported p w)

mark_behind : (d : ℕ) (p : Place) (w : List ℕ) (m : Mark) (q : Place) → lead_of w ≡ lead.Missing → TakenOrMissing p w (first_step d p w (mark m) q)
mark_behind d p w Connect q e = inl tt
mark_behind d p w PartialConnect q e = inl tt
mark_behind d p w Dot q e = inl tt
mark_behind d p w OpenSquare q e = inl tt
mark_behind d p w _ q e = inr (rw e refl)

word_behind : (d : ℕ) (p : Place) (w x : List ℕ) (q : Place) → lead_of w ≡ lead.Missing → (b : Bool) → bytes_eq x (codes "is") ≡ b → TakenOrMissing p w (first_step d p w (word x) q)
word_behind d p w x q e true h = inl (rw h tt)
word_behind d p w x q e false h = inr (rw h (rw e refl))

behind : (d : ℕ) (p : Place) (w : List ℕ) (l : Lexeme) (q : Place) → lead_of w ≡ lead.Missing → TakenOrMissing p w (first_step d p w l q)
behind d p w (mark m) q e = mark_behind d p w m q e
behind d p w (word x) q e = word_behind d p w x q e (bytes_eq x (codes "is")) refl
behind d p w line_end q e = inr (rw e refl)
behind d p w _ q e = inr (rw e refl)

-- no text goes on so
abbrev pub Ends : Verdict → Type 0
Ends u = (next : State) → u ≡ continues next → ⊥

told_by : {T : Type 0} (u : Step T) (k : T → State) (with_it : T → Verdict) (p : Place) (w : List ℕ) → IsTaken u ⊎ (u ≡ unsupported p w) → Ends (verdict_by u k with_it) → verdict_by u k with_it ≡ missing p w
told_by (takes f) k with_it p w (inl h) n = absurd (n (f k) refl)
told_by (without x) k with_it p w (inl h) n = absurd h
told_by refuses k with_it p w (inl h) n = absurd h
told_by (unsupported q v) k with_it p w (inl h) n = absurd h
told_by u k with_it p w (inr e) n = ap (λ x. verdict_by x k with_it) e

pub statement_told : (d : ℕ) (p : Place) (w : List ℕ) (k : Begun → State) (t : Terminal) → lead_of w ≡ lead.Missing → Ends (judge (wants (behind_first d p w) k) t) → judge (wants (behind_first d p w) k) t ≡ missing p w
statement_told d p w k t e n = told_by (first_step d p w t.lexeme t.place) k (λ x. judge (k x) t) p w (behind d p w t.lexeme t.place e) n

port_behind : (d : ℕ) (p : Place) (w : List ℕ) (q : Place) → lead_of w ≡ lead.MissingPort → first_step d p w (word (codes "mport")) q ≡ unsupported p w
port_behind d p w q e = rw e refl

pub port_told : (d : ℕ) (p : Place) (w : List ℕ) (k : Begun → State) (t : Terminal) → lead_of w ≡ lead.MissingPort → t.lexeme ≡ word (codes "mport") → judge (wants (behind_first d p w) k) t ≡ missing p w
port_told d p w k t e h =
    let same : first_step d p w t.lexeme t.place ≡ unsupported p w = ap (λ l. first_step d p w l t.place) h ∙ port_behind d p w t.place e in
    ap (λ x. verdict_by x k (λ y. judge (k y) t)) same
