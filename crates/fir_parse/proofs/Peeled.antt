-- What is expected first where nothing stands in the place of what may be empty.
use Rattle.std.proofs.Common.{◌≡◌, List, [], ◌∷◌, Bool, true, false, IsTrue, Option, Some, None, refl, sym, ap, ◌∙◌, subst, inl, inr}
use Rattle.fir_ast.specs.declared.place.Place.{Place}
use Rattle.fir_ast.specs.Expressions.{reference, no_parts}
use Rattle.fir_ast.specs.Statements.{done as no_statements}
use Rattle.fir_parse.specs.declared.lexeme.Mark.TheVariants.{OpenCurly}
use Rattle.fir_parse.specs.Lexemes.{Lexeme, word, mark, level_closes, Terminal}
use Rattle.fir_parse.specs.Limits.{nowhere}
use Rattle.fir_parse.specs.working.Symbols.{Sym, Tree, a_mark, a_word, a_width, dimensions, behind_word, parts, an_indented_block, a_memory_body, some_annotations, a_body, behind_first, behind_direction}
use Rattle.fir_parse.specs.working.States.{State, done, limit, wants, without}
use Rattle.fir_parse.specs.working.Reading.{read_on, step}
use Rattle.fir_parse.specs.working.Reaching.{judge, verdict_by}
use Rattle.fir_parse.proofs.Guards.{is_keyword, IsPlainSymbol, IsUnlimited, Meets, guard_of, Guarded, Guard, unlimited, firm, shut, nested, nested_shut, numbered, firm_is_unlimited, shut_is_unlimited}
use Rattle.fir_parse.proofs.Keeping.{Kind, SymbolFollows, AfterNumber, Follows, Keeps}
use Rattle.fir_parse.proofs.StepKeeps.{spot_of, keeps}
use Rattle.fir_parse.proofs.AtTokens.{outcome_of, without_limits}

-- what an empty symbol makes
abbrev pub empty_tree : (s : Sym) → Option (Tree s)
empty_tree a_width = Some None
empty_tree (dimensions d t) = Some t
empty_tree (parts d h) = Some no_parts
empty_tree (behind_word d p w) = Some (reference p w no_parts)
empty_tree (an_indented_block d) = Some no_statements
empty_tree (a_memory_body d) = Some []
empty_tree some_annotations = Some tt
empty_tree a_body = Some (record { ports = []; block = no_statements })
empty_tree _ = None

abbrev peel_by : {T : Type 0} → Option T → State → (T → State) → State
peel_by (Some x) st f = f x
peel_by None st f = st

abbrev pub peel : State → State
peel (done c) = done c
peel (limit passed l st) = peel st
peel (wants s k) = peel_by (empty_tree s) (wants s k) (λ x. peel (k x))

-- tokens with which nothing begins that may be empty
abbrev pub passes : Lexeme → Bool
passes (word w) = true
passes (mark OpenCurly) = true
passes level_closes = true
passes _ = false

abbrev IsSkipped : (s : Sym) → Lexeme → Place → Option (Tree s) → Type 0
IsSkipped s l p (Some x) = step s l p ≡ without x
IsSkipped s l p None = Unit {0}

skipped : (s : Sym) (l : Lexeme) (p : Place) → passes l ≡ true → IsSkipped s l p (empty_tree s)
skipped a_width (word w) p h = refl
skipped a_width (mark OpenCurly) p h = refl
skipped a_width level_closes p h = refl
skipped a_width _ p h = absurd (cc)
skipped (dimensions d t) (word w) p h = refl
skipped (dimensions d t) (mark OpenCurly) p h = refl
skipped (dimensions d t) level_closes p h = refl
skipped (dimensions d t) _ p h = absurd (cc)
skipped (parts d n) (word w) p h = refl
skipped (parts d n) (mark OpenCurly) p h = refl
skipped (parts d n) level_closes p h = refl
skipped (parts d n) _ p h = absurd (cc)
skipped (behind_word d q v) (word w) p h = refl
skipped (behind_word d q v) (mark OpenCurly) p h = refl
skipped (behind_word d q v) level_closes p h = refl
skipped (behind_word d q v) _ p h = absurd (cc)
skipped (an_indented_block d) (word w) p h = refl
skipped (an_indented_block d) (mark OpenCurly) p h = refl
skipped (an_indented_block d) level_closes p h = refl
skipped (an_indented_block d) _ p h = absurd (cc)
skipped (a_memory_body d) (word w) p h = refl
skipped (a_memory_body d) (mark OpenCurly) p h = refl
skipped (a_memory_body d) level_closes p h = refl
skipped (a_memory_body d) _ p h = absurd (cc)
skipped some_annotations (word w) p h = refl
skipped some_annotations (mark OpenCurly) p h = refl
skipped some_annotations level_closes p h = refl
skipped some_annotations _ p h = absurd (cc)
skipped a_body (word w) p h = refl
skipped a_body (mark OpenCurly) p h = refl
skipped a_body level_closes p h = refl
skipped a_body _ p h = absurd (cc)
skipped _ l p h = tt

judged_by : (s : Sym) (k : Tree s → State) (t : Terminal) (o : Option (Tree s)) → IsSkipped s t.lexeme t.place o → ((x : Tree s) → judge (k x) t ≡ judge (peel (k x)) t) → judge (wants s k) t ≡ judge (peel_by o (wants s k) (λ x. peel (k x))) t
judged_by s k t (Some x) e h = ap (λ u. verdict_by u k (λ y. judge (k y) t)) e ∙ h x
judged_by s k t None e h = refl

-- such a token does what it does there
pub judge_peeled : (st : State) (t : Terminal) → passes t.lexeme ≡ true → judge st t ≡ judge (peel st) t
judge_peeled (done c) t h = refl
judge_peeled (limit passed l st) t h = judge_peeled st t h
judge_peeled (wants s k) t h = judged_by s k t (empty_tree s) (skipped s t.lexeme t.place h) (λ x. judge_peeled (k x) t h)

pub read_peeled : (st : State) (t : Terminal) (ts : List Terminal) (end : Place) → passes t.lexeme ≡ true → read_on nowhere end st (t ∷ ts) ≡ read_on nowhere end (peel st) (t ∷ ts)
unfolding read_on
read_peeled st t ts end h =
    without_limits st t (λ n. read_on nowhere end n ts) ∙ ap (λ u. outcome_of u t.place (λ n. read_on nowhere end n ts)) (judge_peeled st t h)
    ∙ sym (without_limits (peel st) t (λ n. read_on nowhere end n ts))

guarded_by : (s : Sym) (k : Tree s → State) (o : Option (Tree s)) → Guarded (wants s k) → ((x : Tree s) → Guarded (peel (k x))) → Guarded (peel_by o (wants s k) (λ x. peel (k x)))
guarded_by s k (Some x) g h = h x
guarded_by s k None g h = g

pub guarded_peeled : (st : State) → Guarded st → Guarded (peel st)
guarded_peeled (done c) g = tt
guarded_peeled (limit passed l st) g = guarded_peeled st g
guarded_peeled (wants s k) g = guarded_by s k (empty_tree s) g (λ x. guarded_peeled (k x) (g x).0)

-- it is nothing that may be empty
abbrev pub IsPeeled : State → Type 0
IsPeeled (done c) = Unit {0}
IsPeeled (limit passed l st) = ⊥
IsPeeled (wants s k) = empty_tree s ≡ None

peeled_by : (s : Sym) (k : Tree s → State) (o : Option (Tree s)) → empty_tree s ≡ o → ((x : Tree s) → IsPeeled (peel (k x))) → IsPeeled (peel_by o (wants s k) (λ x. peel (k x)))
peeled_by s k (Some x) e h = h x
peeled_by s k None e h = e

pub is_peeled : (st : State) → IsPeeled (peel st)
is_peeled (done c) = tt
is_peeled (limit passed l st) = is_peeled st
is_peeled (wants s k) = peeled_by s k (empty_tree s) refl (λ x. is_peeled (k x))

-- neither the brace of a bundle nor the words `module` and `mux` are signs and words that have to stand
abbrev pub IsSteadySymbol : Sym → Type 0
IsSteadySymbol (a_mark OpenCurly) = ⊥
IsSteadySymbol (a_word w) = IsTrue (is_keyword w)
IsSteadySymbol _ = Unit {0}

abbrev pub IsSteady : State → Type 0
IsSteady (done c) = Unit {0}
IsSteady (limit passed l st) = IsSteady st
IsSteady (wants s k) = IsSteadySymbol s

plain_is_steady : (s : Sym) → IsPlainSymbol s → IsSteadySymbol s
plain_is_steady (a_mark OpenCurly) h = h
plain_is_steady (a_word w) h = h
plain_is_steady _ h = tt

unlimited_is_steady : (st : State) → IsUnlimited st → IsSteady st
unlimited_is_steady (done c) h = tt
unlimited_is_steady (limit passed l st) h = absurd h
unlimited_is_steady (wants s k) h = plain_is_steady s h

pub meets_is_steady : (g : Guard) (st : State) → Meets g st → IsSteady st
meets_is_steady unlimited st h = unlimited_is_steady st h
meets_is_steady firm st h = unlimited_is_steady st (firm_is_unlimited st h)
meets_is_steady shut st h = unlimited_is_steady st (shut_is_unlimited st h)
meets_is_steady (nested p) (done c) h = tt
meets_is_steady (nested p) (limit passed l st) h = unlimited_is_steady st h.1
meets_is_steady (nested p) (wants s k) h = plain_is_steady s h
meets_is_steady (nested_shut p) (done c) h = absurd h
meets_is_steady (nested_shut p) (limit passed l st) h = unlimited_is_steady st (shut_is_unlimited st h.1)
meets_is_steady (nested_shut p) (wants s k) h = absurd h
meets_is_steady (numbered p n) (done c) h = tt
meets_is_steady (numbered p n) (limit passed l st) h = unlimited_is_steady st h.1
meets_is_steady (numbered p n) (wants s k) h = plain_is_steady s h

symbol_is_steady : (kind : Kind) (t : Terminal) (s : Sym) → SymbolFollows kind t s → IsSteadySymbol s
symbol_is_steady kind t (behind_word d p w) h = tt
symbol_is_steady kind t (behind_first d p w) h = tt
symbol_is_steady kind t (behind_direction r p w) h = tt
symbol_is_steady kind t s h = plain_is_steady s h

after_number_is_steady : (t : Terminal) (st : State) → AfterNumber t st → IsSteady st
after_number_is_steady t (done c) h = tt
after_number_is_steady t (limit passed l st) h = unlimited_is_steady st h.1
after_number_is_steady t (wants s k) h = plain_is_steady s h

pub follows_is_steady : (kind : Kind) (t : Terminal) (st : State) → Follows kind t st → IsSteady st
follows_is_steady kind t (done c) h = tt
follows_is_steady kind t (limit passed l st) (inl h) = unlimited_is_steady st h.1
follows_is_steady kind t (limit passed l st) (inr h) = after_number_is_steady t st h.1
follows_is_steady kind t (wants s k) h = symbol_is_steady kind t s h

steady_by : (s : Sym) (k : Tree s → State) (o : Option (Tree s)) → IsSteadySymbol s → ((x : Tree s) → IsSteady (peel (k x))) → IsSteady (peel_by o (wants s k) (λ x. peel (k x)))
steady_by s k (Some x) e h = h x
steady_by s k None e h = e

pub steady_peeled : (st : State) → Guarded st → IsSteady st → IsSteady (peel st)
steady_peeled (done c) g h = tt
steady_peeled (limit passed l st) g h = steady_peeled st g h
steady_peeled (wants s k) g h = steady_by s k (empty_tree s) h (λ x. steady_peeled (k x) (g x).0 (meets_is_steady (guard_of s x) (k x) (g x).1))

-- what gives way to what follows may be empty
optional_has_tree : (s : Sym) (t : Terminal) → (spot_of s t).may_be_empty ≡ true → empty_tree s ≡ None → ⊥
optional_has_tree a_width t h e = absurd (cc)
optional_has_tree (dimensions d u) t h e = absurd (cc)
optional_has_tree (parts d n) t h e = absurd (cc)
optional_has_tree (behind_word d p w) t h e = absurd (cc)
optional_has_tree (an_indented_block d) t h e = absurd (cc)
optional_has_tree (a_memory_body d) t h e = absurd (cc)
optional_has_tree some_annotations t h e = absurd (cc)
optional_has_tree a_body t h e = absurd (cc)
optional_has_tree _ t h e = absurd (cc)

pub gives_no_way : (s : Sym) (t : Terminal) (x : Tree s) → empty_tree s ≡ None → step s t.lexeme t.place ≡ without x → ⊥
gives_no_way s t x e h =
    let kept : Keeps (guard_of s) (spot_of s t) t (without x) = subst (Keeps (guard_of s) (spot_of s t) t) h (keeps s t.lexeme t.place) in
    optional_has_tree s t kept.1 e

-- what such a token passes by is empty
passed_by : (s : Sym) (k : Tree s → State) (t : Terminal) (x : Tree s) (o : Option (Tree s)) → empty_tree s ≡ o → IsSkipped s t.lexeme t.place o → step s t.lexeme t.place ≡ without x → peel_by o (wants s k) (λ y. peel (k y)) ≡ peel (k x)
passed_by s k t x (Some y) none e h = let same : y ≡ x = cc in ap (λ z. peel (k z)) same
passed_by s k t x None none e h = absurd (gives_no_way s t x none h)

pub peel_without : (s : Sym) (k : Tree s → State) (t : Terminal) (x : Tree s) → passes t.lexeme ≡ true → step s t.lexeme t.place ≡ without x → peel (wants s k) ≡ peel (k x)
peel_without s k t x h e = passed_by s k t x (empty_tree s) refl (skipped s t.lexeme t.place h) e
