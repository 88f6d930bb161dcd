-- What is told as a form that is not in the language is one, in its place.
use Rattle.std.proofs.Common.{◌≡◌, ℕ, List, [], ◌∷◌, ◌++◌, Bool, true, false, codes, refl, sym, ap, ◌∙◌, subst, ◌⊎◌, inl, inr, if◌then◌else◌}
use Rattle.std.specs.Str.{bytes_eq}
use Rattle.fir_base.specs.Lists.{In}
use Rattle.fir_base.specs.declared.direction.Direction.{Direction}
use Rattle.fir_ast.specs.declared.place.Place.{Place}
use Rattle.fir_parse.specs.declared.words.Declaration.TheVariants as declares
use Rattle.fir_parse.specs.declared.words.Lead.{Lead}
use Rattle.fir_parse.specs.declared.words.Lead.TheVariants as lead
use Rattle.fir_parse.specs.declared.lexeme.Mark.TheVariants.{Colon}
use Rattle.fir_parse.specs.Lexemes.{word, Terminal}
use Rattle.fir_parse.specs.MissingForms.{missing_types, missing_modules, missing_statements, missing_ports, ExpressionMayStand, StatementsMayStand, word_at, IsMissing}
use Rattle.fir_parse.specs.working.Words.{lead_of}
use Rattle.fir_parse.specs.working.Symbols.{Sym, Tree, Begun, a_mark, a_type, an_expression, an_index, behind_word, statements, behind_first, behind_is, behind_direction, behind_port_is, first_module, more_modules, ports_and_statements}
use Rattle.fir_parse.specs.working.States.{State, done, limit, wants, Step, takes, without, refuses, unsupported}
use Rattle.fir_parse.specs.working.StatementRules.{declaration_step}
use Rattle.fir_parse.specs.working.CircuitRules.{port_rest}
use Rattle.fir_parse.specs.working.Reading.{step, whole}
use Rattle.fir_parse.specs.working.Reaching.{continues, missing, judge, verdict_by, Reaches}
use Rattle.fir_parse.proofs.Guards.{Guard, unlimited, firm, shut, nested, nested_shut, numbered, guard_of, IsPlainSymbol, IsUnlimited, Meets, Guarded, firm_is_unlimited, shut_is_unlimited}
use Rattle.fir_parse.proofs.Keeping.{Kind, an_expression_begins, a_statement_begins, AfterNumber, SymbolFollows, Follows, Keeps}
use Rattle.fir_parse.proofs.StepKeeps.{spot_of, keeps, whole_guarded}
use Rattle.fir_parse.proofs.Along.{guarded_along}
use Rattle.fir_parse.proofs.PassedLimits.{token_follows}
use Rattle.fir_parse.proofs.Reached.{by_last, Last}
use Rattle.fir_parse.proofs.Peeled.{passes, peel, IsPeeled, is_peeled, guarded_peeled, judge_peeled, peel_without}
use Rattle.fir_parse.proofs.MissingTold.{TakenBy, taken}
use Rattle.fir_parse.proofs.MayStand.{type_may_stand, expression_may_stand, index_may_stand, condition_may_stand, statements_may_stand, ports_may_stand, modules_may_stand, more_modules_may_stand}
use Rattle.fir_parse.proofs.FormsFoundWords.{IsLead, lead_word}

-- symbols that stand behind a word
abbrev IsWordSymbol : Sym → Type 0
IsWordSymbol (behind_word d p w) = Unit {0}
IsWordSymbol (behind_first d p w) = Unit {0}
IsWordSymbol (behind_direction r p w) = Unit {0}
IsWordSymbol _ = ⊥

-- the form is missed behind its word
abbrev HeadMisses : State → Terminal → Place → List ℕ → Type 0
HeadMisses (done c) t p w = ⊥
HeadMisses (limit passed l st) t p w = HeadMisses st t p w
HeadMisses (wants s k) t p w = IsWordSymbol s × (spot_of s t).misses p w

-- or at its word
abbrev TypeMisses : State → List ℕ → Type 0
TypeMisses st w = (d : ℕ) × (k : Tree (a_type d) → State) × (peel st ≡ wants (a_type d) k) × In missing_types w

abbrev FirstMisses : State → List ℕ → Type 0
FirstMisses st w = (k : Tree first_module → State) × (peel st ≡ wants first_module k) × In missing_modules w

abbrev MoreMisses : State → List ℕ → Type 0
MoreMisses st w = (k : Tree more_modules → State) × (peel st ≡ wants more_modules k) × In missing_modules w

abbrev WordMisses : State → Terminal → Place → List ℕ → Type 0
WordMisses st t p w = (t ≡ word_at w p) × (TypeMisses st w ⊎ FirstMisses st w ⊎ MoreMisses st w)

abbrev Misses : State → Terminal → Place → List ℕ → Type 0
Misses st t p w = HeadMisses st t p w ⊎ WordMisses st t p w

plain_no_word : (s : Sym) → IsPlainSymbol s → IsWordSymbol s → ⊥
plain_no_word (behind_word d p w) h i = h
plain_no_word (behind_first d p w) h i = h
plain_no_word (behind_direction r p w) h i = h
plain_no_word s h i = i

unlimited_no_head : (st : State) (t : Terminal) (p : Place) (w : List ℕ) → IsUnlimited st → HeadMisses st t p w → ⊥
unlimited_no_head (done c) t p w h i = i
unlimited_no_head (limit passed l st) t p w h i = h
unlimited_no_head (wants s k) t p w h i = plain_no_word s h i.0

no_head : (g : Guard) (st : State) (t : Terminal) (p : Place) (w : List ℕ) → Meets g st → HeadMisses st t p w → ⊥
no_head unlimited st t p w h i = unlimited_no_head st t p w h i
no_head firm st t p w h i = unlimited_no_head st t p w (firm_is_unlimited st h) i
no_head shut st t p w h i = unlimited_no_head st t p w (shut_is_unlimited st h) i
no_head (nested q) (done c) t p w h i = i
no_head (nested q) (limit passed l st) t p w h i = unlimited_no_head st t p w h.1 i
no_head (nested q) (wants s k) t p w h i = plain_no_word s h i.0
no_head (nested_shut q) (done c) t p w h i = i
no_head (nested_shut q) (limit passed l st) t p w h i = unlimited_no_head st t p w (shut_is_unlimited st h.1) i
no_head (nested_shut q) (wants s k) t p w h i = absurd h
no_head (numbered q n) (done c) t p w h i = i
no_head (numbered q n) (limit passed l st) t p w h i = unlimited_no_head st t p w h.1 i
no_head (numbered q n) (wants s k) t p w h i = plain_no_word s h i.0

-- in the place of a symbol
by_symbol : (s : Sym) (k : Tree s → State) (t : Terminal) (p : Place) (w : List ℕ) → (spot_of s t).misses p w → Misses (wants s k) t p w
by_symbol (a_type d) k t p w m = inr (m.0, inl (d, k, refl, m.1))
by_symbol first_module k t p w m = inr (m.0, inr (inl (k, refl, m.1)))
by_symbol more_modules k t p w m = inr (m.0, inr (inr (k, refl, m.1)))
by_symbol (behind_word d q v) k t p w m = inl (tt, m)
by_symbol (behind_first d q v) k t p w m = inl (tt, m)
by_symbol (behind_direction r q v) k t p w m = inl (tt, m)
by_symbol s k t p w m = absurd m

-- in the place of what follows
place_misses : (st last : State) (w : List ℕ) → peel st ≡ peel last → TypeMisses last w ⊎ FirstMisses last w ⊎ MoreMisses last w → TypeMisses st w ⊎ FirstMisses st w ⊎ MoreMisses st w
place_misses st last w e (inl (d, k, h, m)) = inl (d, k, e ∙ h, m)
place_misses st last w e (inr (inl (k, h, m))) = inr (inl (k, e ∙ h, m))
place_misses st last w e (inr (inr (k, h, m))) = inr (inr (k, e ∙ h, m))

passes_word : (t : Terminal) (p : Place) (w : List ℕ) → t ≡ word_at w p → passes t.lexeme ≡ true
passes_word t p w e = ap (λ u. passes u.lexeme) e

behind_misses : (s : Sym) (k : Tree s → State) (t : Terminal) (p : Place) (w : List ℕ) (x : Tree s) → Guarded (wants s k) → step s t.lexeme t.place ≡ without x → Misses (k x) t p w → Misses (wants s k) t p w
behind_misses s k t p w x g e (inl h) = absurd (no_head (guard_of s x) (k x) t p w (g x).1 h)
behind_misses s k t p w x g e (inr (h, m)) = inr (h, place_misses (wants s k) (k x) w (peel_without s k t x (passes_word t p w h) e) m)

same_place : (p q : Place) (w v : List ℕ) → missing p w ≡ missing q v → p ≡ q
same_place p q w v e = cc

same_word : (p q : Place) (w v : List ℕ) → missing p w ≡ missing q v → w ≡ v
same_word p q w v e = cc

by_step : (s : Sym) (k : Tree s → State) (t : Terminal) (p : Place) (w : List ℕ) (u : Step (Tree s)) → Guarded (wants s k) → step s t.lexeme t.place ≡ u → Keeps (guard_of s) (spot_of s t) t u → ((x : Tree s) → judge (k x) t ≡ missing p w → Misses (k x) t p w) → verdict_by u k (λ x. judge (k x) t) ≡ missing p w → Misses (wants s k) t p w
by_step s k t p w (takes f) g e keep later h = absurd (cc)
by_step s k t p w (without x) g e keep later h = behind_misses s k t p w x g e (later x h)
by_step s k t p w refuses g e keep later h = absurd (cc)
by_step s k t p w (unsupported q v) g e keep later h =
    let P : Place → Type 0 = λ r. (spot_of s t).misses r v in
    let Q : List ℕ → Type 0 = λ x. (spot_of s t).misses p x in
    by_symbol s k t p w (subst Q (same_word q p v w h) (subst P (same_place q p v w h) keep))

misses : (st : State) (t : Terminal) (p : Place) (w : List ℕ) → Guarded st → judge st t ≡ missing p w → Misses st t p w
misses (done c) t p w g h = absurd (cc)
misses (limit passed l st) t p w g h = below (misses st t p w g h)
  where
    below : Misses st t p w → Misses (limit passed l st) t p w
    below (inl x) = inl x
    below (inr x) = inr x
misses (wants s k) t p w g h = by_step s k t p w (step s t.lexeme t.place) g refl (keeps s t.lexeme t.place) (λ x e. misses (k x) t p w (g x).0 e) h

-- ---- behind its word

-- the word before, and what it began in its place
abbrev Before : State → Terminal → State → Type 0
Before pre t last = (s : Sym) × (k : Tree s → State) × (peel pre ≡ wants s k) × TakenBy s k t last × Follows (spot_of s t).kind t last

follows_taken : (s : Sym) (k : Tree s → State) (t : Terminal) (last : State) → Guarded (wants s k) → TakenBy s k t last → Follows (spot_of s t).kind t last
follows_taken s k t last g (f, e, same) =
    let kept : Keeps (guard_of s) (spot_of s t) t (takes f) = subst (Keeps (guard_of s) (spot_of s t) t) e (keeps s t.lexeme t.place) in
    subst (Follows (spot_of s t).kind t) same (kept k g).1

before_by : (pre st : State) (t : Terminal) (last : State) → peel pre ≡ st → IsPeeled st → Guarded st → judge st t ≡ continues last → Before pre t last
before_by pre (done c) t last e none g h = absurd (cc)
before_by pre (limit passed l st) t last e none g h = absurd none
before_by pre (wants s k) t last e none g h = let by = taken s k t last none h in (s, k, e, by, follows_taken s k t last g by)

word_before : (pre : State) (t : Terminal) (last : State) → Guarded pre → passes t.lexeme ≡ true → judge pre t ≡ continues last → Before pre t last
word_before pre t last g h e = before_by pre (peel pre) t last refl (is_peeled pre) (guarded_peeled pre g) (sym (judge_peeled pre t h) ∙ e)

abbrev IsBehindWord : State → Type 0
IsBehindWord (wants (behind_word d p w) k) = Unit {0}
IsBehindWord _ = ⊥

-- what leads on so, leads on so
led : {T : Type 0} (h f : (T → State) → State) (k : T → State) (last : State) → takes h ≡ takes f → f k ≡ last → IsBehindWord last → IsBehindWord (h k)
led h f k last e same b = let first : h k ≡ last = (let one : h ≡ f = cc in ap (λ z. z k) one ∙ same) in subst IsBehindWord (sym first) b

abbrev port_word : Place → List ℕ → Bool → Step Begun
port_word p w c = if c then unsupported p w else refuses

-- an expression behind a first word stands behind `when`
declared_when : (v : Lead) (d : ℕ) (r : Place) (x y : List ℕ) (q : Place) (k : Begun → State) (f : (Begun → State) → State) (last : State) → IsLead x v → declaration_step v d r x y q ≡ takes f → f k ≡ last → IsBehindWord last → x ≡ codes "when"
declared_when (lead.Declares declares.When) d r x y q k f last w e same b = w
declared_when (lead.Declares declares.Wire) d r x y q k f last w e same b = absurd (led _ f k last e same b)
declared_when (lead.Declares declares.Reg) d r x y q k f last w e same b = absurd (led _ f k last e same b)
declared_when (lead.Declares declares.Node) d r x y q k f last w e same b = absurd (led _ f k last e same b)
declared_when (lead.Declares declares.Inst) d r x y q k f last w e same b = absurd (led _ f k last e same b)
declared_when (lead.Declares declares.Mem) d r x y q k f last w e same b = absurd (led _ f k last e same b)
declared_when lead.Skip d r x y q k f last w e same b = absurd (cc)
declared_when lead.Missing d r x y q k f last w e same b = absurd (cc)
declared_when lead.MissingPort d r x y q k f last w e same b = absurd (neither (bytes_eq y (codes "mport")) e)
  where
    neither : (c : Bool) → port_word r x c ≡ takes f → ⊥
    neither true z = absurd (cc)
    neither false z = absurd (cc)
declared_when lead.Name d r x y q k f last w e same b = absurd (cc)

first_when : (d : ℕ) (r : Place) (x y : List ℕ) (q : Place) (k : Begun → State) (last : State) → TakenBy (behind_first d r x) k (word_at y q) last → IsBehindWord last → x ≡ codes "when"
first_when d r x y q k last (f, e, same) b = by (bytes_eq y (codes "is")) e
  where
    by : (c : Bool) → (if c then takes (λ j. wants (behind_is d r x q) j) else declaration_step (lead_of x) d r x y q) ≡ takes f → x ≡ codes "when"
    by true z = absurd (led (λ j. wants (behind_is d r x q) j) f k last z same b)
    by false z = declared_when (lead_of x) d r x y q k f last (lead_word x) z same b

expression_before : (before : List Terminal) (pre last : State) (y : List ℕ) (q : Place) → Reaches whole before pre → Guarded pre → IsBehindWord last → ((s : Sym) × (k : Tree s → State) × (peel pre ≡ wants s k) × TakenBy s k (word_at y q) last × ((spot_of s (word_at y q)).kind ≡ an_expression_begins)) → ExpressionMayStand before
expression_before before pre last y q r g b (an_expression d, k, e, t, kind) = expression_may_stand before pre d k r g e
expression_before before pre last y q r g b (an_index d, k, e, t, kind) = index_may_stand before pre d k r g e
expression_before before pre last y q r g b (behind_first d p x, k, e, t, kind) =
    let when_word : x ≡ codes "when" = first_when d p x y q k last t b in
    let P : List ℕ → Type 0 = λ v. (j : Tree (behind_first d p v) → State) → peel pre ≡ wants (behind_first d p v) j → ExpressionMayStand before in
    let at_when : P (codes "when") = λ j h. condition_may_stand before pre d p j r g h in
    subst P (sym when_word) at_when k e
expression_before before pre last y q r g b (behind_direction v p x, k, e, (f, h, same), kind) = absurd (by (bytes_eq y (codes "is")) h)
  where
    by : (c : Bool) → (if c then takes (λ j. wants (behind_port_is v p x q) j) else takes (λ j. wants (a_mark Colon) (λ s. port_rest v (record { place = q; name = y }) j))) ≡ takes f → ⊥
    by true z = led (λ j. wants (behind_port_is v p x q) j) f k last z same b
    by false z = led (λ j. wants (a_mark Colon) (λ s. port_rest v (record { place = q; name = y }) j)) f k last z same b
expression_before before pre last y q r g b (s, k, e, t, kind) = absurd (cc)

statements_before : (before : List Terminal) (pre : State) (t : Terminal) → Reaches whole before pre → Guarded pre → ((s : Sym) × (k : Tree s → State) × (peel pre ≡ wants s k) × ((spot_of s t).kind ≡ a_statement_begins)) → StatementsMayStand before
statements_before before pre t r g (statements d ws, k, e, kind) = statements_may_stand before pre d ws k r g e
statements_before before pre t r g (ports_and_statements, k, e, kind) = ports_may_stand before pre k r g e
statements_before before pre t r g (s, k, e, kind) = absurd (cc)

-- what stands at the end of the tokens, behind their last
abbrev Head : State → Terminal → Terminal → Place → List ℕ → Type 0
Head last word_token t p w = (s : Sym) × (k : Tree s → State) × (wants s k ≡ last) × IsWordSymbol s × (spot_of s t).misses p w × ((v : List ℕ) × (q : Place) × (word_token ≡ word_at v q))

symbol_head : (kind : Kind) (u t : Terminal) (s : Sym) (k : Tree s → State) (p : Place) (w : List ℕ) → SymbolFollows kind u s → IsWordSymbol s → (spot_of s t).misses p w → Head (wants s k) u t p w
symbol_head kind u t (behind_word d q v) k p w f i m = (behind_word d q v, k, refl, tt, m, (v, q, f.0))
symbol_head kind u t (behind_first d q v) k p w f i m = (behind_first d q v, k, refl, tt, m, (v, q, f.0))
symbol_head kind u t (behind_direction r q v) k p w f i m = (behind_direction r q v, k, refl, tt, m, (v, q, f.0))
symbol_head kind u t s k p w f i m = absurd i

after_number_no_head : (u : Terminal) (st : State) (t : Terminal) (p : Place) (w : List ℕ) → AfterNumber u st → HeadMisses st t p w → ⊥
after_number_no_head u (done c) t p w h i = i
after_number_no_head u (limit passed l st) t p w h i = unlimited_no_head st t p w h.1 i
after_number_no_head u (wants s k) t p w h i = plain_no_word s h i.0

head : (kind : Kind) (u t : Terminal) (last : State) (p : Place) (w : List ℕ) → Follows kind u last → HeadMisses last t p w → Head last u t p w
head kind u t (done c) p w f i = absurd i
head kind u t (limit passed l st) p w (inl f) i = absurd (unlimited_no_head st t p w f.1 i)
head kind u t (limit passed l st) p w (inr f) i = absurd (after_number_no_head u st t p w f.1 i)
head kind u t (wants s k) p w f i = symbol_head kind u t s k p w f i.0 i.1

-- the kind of form that the word began
abbrev BeganSo : State → Terminal → State → Kind → Type 0
BeganSo pre u last kind = (s : Sym) × (k : Tree s → State) × (peel pre ≡ wants s k) × TakenBy s k u last × ((spot_of s u).kind ≡ kind)

began_expression : (pre : State) (u : Terminal) (last : State) (d : ℕ) (q : Place) (v : List ℕ) (j : Tree (behind_word d q v) → State) → wants (behind_word d q v) j ≡ last → Before pre u last → BeganSo pre u last an_expression_begins × (u ≡ word_at v q)
began_expression pre u last d q v j same (s, k, e, t, f) =
    let g : Follows (spot_of s u).kind u (wants (behind_word d q v) j) = subst (Follows (spot_of s u).kind u) (sym same) f in
    ((s, k, e, t, g.1), g.0)

began_statement : (pre : State) (u : Terminal) (last : State) (d : ℕ) (q : Place) (v : List ℕ) (j : Tree (behind_first d q v) → State) → wants (behind_first d q v) j ≡ last → Before pre u last → BeganSo pre u last a_statement_begins × (u ≡ word_at v q)
began_statement pre u last d q v j same (s, k, e, t, f) =
    let g : Follows (spot_of s u).kind u (wants (behind_first d q v) j) = subst (Follows (spot_of s u).kind u) (sym same) f in
    ((s, k, e, t, g.1), g.0)

began_port : (pre : State) (u : Terminal) (last : State) (r : Direction) (q : Place) (v : List ℕ) (j : Tree (behind_direction r q v) → State) → wants (behind_direction r q v) j ≡ last → Before pre u last → BeganSo pre u last a_statement_begins × (u ≡ word_at v q)
began_port pre u last r q v j same (s, k, e, t, f) =
    let g : Follows (spot_of s u).kind u (wants (behind_direction r q v) j) = subst (Follows (spot_of s u).kind u) (sym same) f in
    ((s, k, e, t, g.1), g.0)

-- the tokens end in the word
ends_in : (front before : List Terminal) (u : Terminal) (v w : List ℕ) (q p : Place) → front ≡ before ++ u ∷ [] → u ≡ word_at v q → word_at v q ≡ word_at w p → front ≡ before ++ word_at w p ∷ []
ends_in front before u v w q p e f g = e ∙ ap (λ x. before ++ x ∷ []) (f ∙ g)

-- a statement that is not in the language, behind its word
abbrev StatementMisses : Terminal → List ℕ → Type 0
StatementMisses t w = In missing_statements w ⊎ (In missing_ports w × (t.lexeme ≡ word (codes "mport")))

told_before : (before : List Terminal) (t : Terminal) (w : List ℕ) → StatementMisses t w → StatementsMayStand before → (In missing_statements w × StatementsMayStand before) ⊎ (In missing_ports w × (t.lexeme ≡ word (codes "mport")) × StatementsMayStand before)
told_before before t w (inl m) x = inl (m, x)
told_before before t w (inr m) x = inr (m.0, m.1, x)

behind_statement_word : (front before : List Terminal) (pre last : State) (u t : Terminal) (p q : Place) (w v : List ℕ) → front ≡ before ++ u ∷ [] → Reaches whole before pre → Guarded pre → BeganSo pre u last a_statement_begins × (u ≡ word_at v q) → word_at v q ≡ word_at w p → StatementMisses t w → IsMissing front t p w
behind_statement_word front before pre last u t p q w v parts r g ((s, k, e, taken, kind), f) same m =
    inr (before, ends_in front before u v w q p parts f same, inr (told_before before t w m (statements_before before pre u r g (s, k, e, kind))))

behind_its_word : (front before : List Terminal) (pre last : State) (u t : Terminal) (p : Place) (w : List ℕ) → front ≡ before ++ u ∷ [] → Reaches whole before pre → Guarded pre → judge pre u ≡ continues last → Head last u t p w → IsMissing front t p w
behind_its_word front before pre last u t p w parts r g goes (behind_word d q v, j, same, i, (e, l, m), (x, z, f)) =
    let b = began_expression pre u last d q v j same (word_before pre u last g (passes_word u z x f) goes) in
    let P : Terminal → Type 0 = λ y. BeganSo pre y last an_expression_begins in
    let stands = expression_before before pre last v q r g (subst IsBehindWord same tt) (subst P b.1 b.0) in
    inr (before, ends_in front before u v w q p parts b.1 e, inl (m, l, stands))
behind_its_word front before pre last u t p w parts r g goes (behind_first d q v, j, same, i, (e, m), (x, z, f)) =
    behind_statement_word front before pre last u t p q w v parts r g (began_statement pre u last d q v j same (word_before pre u last g (passes_word u z x f) goes)) e m
behind_its_word front before pre last u t p w parts r g goes (behind_direction y q v, j, same, i, (e, m), (x, z, f)) =
    behind_statement_word front before pre last u t p q w v parts r g (began_port pre u last y q v j same (word_before pre u last g (passes_word u z x f) goes)) e m
behind_its_word front before pre last u t p w parts r g goes (s, j, same, i, m, x) = absurd i

behind_last : (front : List Terminal) (last : State) (t : Terminal) (p : Place) (w : List ℕ) → Reaches whole front last → HeadMisses last t p w → ((front ≡ []) × (whole ≡ last)) ⊎ Last whole front last → IsMissing front t p w
behind_last front last t p w r i (inl h) = let none : HeadMisses whole t p w = subst (λ st. HeadMisses st t p w) (sym h.1) i in absurd none.0
behind_last front last t p w r i (inr h) =
    let g = guarded_along h.before whole h.state whole_guarded h.reaches in
    let f = token_follows h.state last h.token g h.takes in
    behind_its_word front h.before h.state last h.token t p w h.parts h.reaches g h.takes (head f.0 h.token t last p w f.1 i)

pub missing_found : (front : List Terminal) (last : State) (t : Terminal) (p : Place) (w : List ℕ) → Reaches whole front last → judge last t ≡ missing p w → IsMissing front t p w
missing_found front last t p w r h = by (misses last t p w (guarded_along front whole last whole_guarded r) h)
  where
    by : Misses last t p w → IsMissing front t p w
    by (inl i) = behind_last front last t p w r i (by_last front whole last r)
    by (inr (e, inl (d, k, peeled, m))) = inl (e, inl (m, type_may_stand front last d k r (guarded_along front whole last whole_guarded r) peeled))
    by (inr (e, inr (inl (k, peeled, m)))) = inl (e, inr (m, modules_may_stand front last k r (guarded_along front whole last whole_guarded r) peeled))
    by (inr (e, inr (inr (k, peeled, m)))) = inl (e, inr (m, more_modules_may_stand front last k r (guarded_along front whole last whole_guarded r) peeled))
