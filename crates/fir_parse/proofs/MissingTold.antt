-- Where any type may stand, any expression, any statements or any modules, the word of a form that is not in the language is told.
use Rattle.std.proofs.Common.{◌≡◌, ℕ, List, Bool, true, false, IsTrue, Option, Some, None, codes, refl, sym, ap, subst, if◌then◌else◌}
use Rattle.std.specs.Str.{bytes_eq}
use Rattle.fir_ast.specs.declared.place.Place.{Place}
use Rattle.fir_parse.specs.declared.lexeme.Mark.TheVariants.{OpenCurly}
use Rattle.fir_parse.specs.declared.words.Declaration.TheVariants as declares
use Rattle.fir_parse.specs.declared.words.Lead.{Lead}
use Rattle.fir_parse.specs.declared.words.Lead.TheVariants as lead
use Rattle.fir_parse.specs.declared.words.TypeWord.TheVariants as types
use Rattle.fir_parse.specs.declared.words.ModuleWord.TheVariants as modules
use Rattle.fir_parse.specs.Lexemes.{word, mark, Terminal}
use Rattle.fir_parse.specs.MissingForms.{word_at}
use Rattle.fir_parse.specs.working.Words.{type_word_of, module_word_of, lead_of, direction_of}
use Rattle.fir_parse.specs.working.Symbols.{Sym, Tree, Begun, no_port, FieldTree, a_mark, a_word, a_name, a_field_name, a_type, fields, a_field, behind_flip, an_expression, an_index, more_names, statements, behind_first, behind_is, behind_direction, first_module, more_modules, ports_and_statements}
use Rattle.fir_parse.specs.working.States.{State, wants, Step, takes, without, refuses, unsupported, mapped}
use Rattle.fir_parse.specs.working.TypeRules.{then_more, field_step}
use Rattle.fir_parse.specs.working.StatementRules.{stuck_behind, declaration_step, declaration_of_is, may_be_else}
use Rattle.fir_parse.specs.working.CircuitRules.{body_by_word}
use Rattle.fir_parse.specs.working.Reading.{one, step}
use Rattle.fir_parse.specs.working.Reaching.{continues, missing, judge, verdict_by}
use Rattle.std.proofs.lemmas.Slice.Eq.{bytes_eq-Decides}
use Rattle.fir_base.specs.declared.direction.Direction.{Direction}
use Rattle.fir_parse.proofs.Guards.{is_keyword}
use Rattle.fir_parse.proofs.Peeled.{empty_tree, IsSteadySymbol, gives_no_way}

abbrev pub IsTaken : {T : Type 0} → Step T → Type 0
IsTaken (takes f) = Unit {0}
IsTaken _ = ⊥

-- a token that is taken where nothing may be empty
abbrev pub TakenBy : (s : Sym) → (Tree s → State) → Terminal → State → Type 0
TakenBy s k t next = (f : (Tree s → State) → State) × (step s t.lexeme t.place ≡ takes f) × (f k ≡ next)

taken_by : (s : Sym) (k : Tree s → State) (t : Terminal) (next : State) (u : Step (Tree s)) → step s t.lexeme t.place ≡ u → empty_tree s ≡ None → verdict_by u k (λ x. judge (k x) t) ≡ continues next → TakenBy s k t next
taken_by s k t next (takes f) e none h = let same : f k ≡ next = cc in (f, e, same)
taken_by s k t next (without x) e none h = absurd (gives_no_way s t x none e)
taken_by s k t next refuses e none h = absurd (cc)
taken_by s k t next (unsupported p w) e none h = absurd (cc)

pub taken : (s : Sym) (k : Tree s → State) (t : Terminal) (next : State) → empty_tree s ≡ None → judge (wants s k) t ≡ continues next → TakenBy s k t next
taken s k t next none h = taken_by s k t next (step s t.lexeme t.place) refl none h

pub is_taken : (s : Sym) (k : Tree s → State) (t : Terminal) (next : State) → TakenBy s k t next → IsTaken (step s t.lexeme t.place)
is_taken s k t next (f, e, same) = subst IsTaken (sym e) tt

-- ---- types

pub stuck_not_taken : (v : Lead) (p : Place) (w : List ℕ) → IsTaken (stuck_behind v p w) → ⊥
stuck_not_taken lead.Missing p w h = h
stuck_not_taken _ p w h = h

pub mapped_taken : {A B : Type 0} (f : A → B) (u : Step A) → IsTaken (mapped f u) → IsTaken u
mapped_taken f (takes g) h = tt
mapped_taken f (without x) h = h
mapped_taken f refuses h = h
mapped_taken f (unsupported p w) h = h

curly_of_is : (v : Lead) (d : ℕ) (p q r : Place) → IsTaken (declaration_of_is v d p q (mark OpenCurly) r) → ⊥
curly_of_is (lead.Declares declares.Wire) d p q r h = h
curly_of_is (lead.Declares declares.Reg) d p q r h = h
curly_of_is (lead.Declares declares.Node) d p q r h = h
curly_of_is (lead.Declares declares.Inst) d p q r h = h
curly_of_is (lead.Declares declares.Mem) d p q r h = h
curly_of_is (lead.Declares declares.When) d p q r h = h
curly_of_is _ d p q r h = h

-- only a type begins with a brace
pub type_told : (s : Sym) (k : Tree s → State) (q p : Place) (w : List ℕ) → type_word_of w ≡ types.Missing → IsSteadySymbol s → empty_tree s ≡ None → IsTaken (step s (mark OpenCurly) q) → judge (wants s k) (word_at w p) ≡ missing p w
type_told (a_type d) k q p w e steady none h = rw e refl
type_told (a_mark OpenCurly) k q p w e steady none h = absurd steady
type_told (a_mark _) k q p w e steady none h = absurd h
type_told (behind_first d r v) k q p w e steady none h = absurd (stuck_not_taken (lead_of v) r v h)
type_told (behind_direction v r x) k q p w e steady none h = absurd (stuck_not_taken (lead_of x) r x (mapped_taken no_port (stuck_behind (lead_of x) r x) h))
type_told (behind_is d r v t) k q p w e steady none h = absurd (curly_of_is (lead_of v) d r t q h)
type_told s k q p w e steady none h = absurd h

-- ---- modules

abbrev pub NotTaken : {T : Type 0} → Step T → Type 0
NotTaken u = IsTaken u → ⊥

-- only modules begin with that word where another word may not stand
either_taken : {T : Type 0} (b : Bool) (u v : Step T) → IsTaken u → IsTaken v → IsTaken (if b then u else v)
either_taken true u v p q = p
either_taken false u v p q = q

more_taken : (d : ℕ) (u : Step FieldTree) → IsTaken u → IsTaken (then_more d u)
more_taken d (takes g) h = tt
more_taken d (without f) h = absurd h
more_taken d refuses h = absurd h
more_taken d (unsupported p w) h = absurd h

port_or_statement_taken : (o : Option Direction) (p : Place) (w : List ℕ) → IsTaken (body_by_word o p w)
port_or_statement_taken (Some r) p w = tt
port_or_statement_taken None p w = tt

-- a second word that is taken is a name, and so may another be
declaration_taken : (v : Lead) (d : ℕ) (p : Place) (w x y : List ℕ) (q r : Place) → IsTaken (declaration_step v d p w x q) → IsTaken (declaration_step v d p w y r)
declaration_taken (lead.Declares l) d p w x y q r h = tt
declaration_taken lead.Skip d p w x y q r h = absurd h
declaration_taken lead.Missing d p w x y q r h = absurd h
declaration_taken lead.MissingPort d p w x y q r h = absurd (neither (bytes_eq x (codes "mport")) h)
  where
    neither : (b : Bool) → IsTaken {T = Begun} (if b then unsupported p w else refuses) → ⊥
    neither true z = z
    neither false z = z
declaration_taken lead.Name d p w x y q r h = absurd h

module_of_is : (v : Lead) (d : ℕ) (p q r : Place) → IsTaken (declaration_of_is v d p q (word (codes "module")) r) → ⊥
module_of_is (lead.Declares declares.Wire) d p q r h = h
module_of_is (lead.Declares declares.Reg) d p q r h = h
module_of_is (lead.Declares declares.Node) d p q r h = h
module_of_is (lead.Declares declares.Inst) d p q r h = h
module_of_is (lead.Declares declares.Mem) d p q r h = h
module_of_is (lead.Declares declares.When) d p q r h = h
module_of_is _ d p q r h = h

one_taken : {T : Type 0} (b : Bool) (x : T) → IsTaken (one b x) → b ≡ true
one_taken true x h = refl
one_taken false x h = absurd h

-- no word that has to stand is `module` or `mux`
pub no_keyword : (w v : List ℕ) (p : Place) → is_keyword w ≡ false → IsTrue (is_keyword v) → IsTaken (one (bytes_eq w v) p) → ⊥
no_keyword w v p e steady h =
    let same : w ≡ v = (bytes_eq-Decides w v).0 (one_taken (bytes_eq w v) p h) in
    let keyword : is_keyword w ≡ is_keyword v = ap is_keyword same in
    absurd (cc)

pub module_told : (s : Sym) (k : Tree s → State) (q p : Place) (w : List ℕ) → module_word_of w ≡ modules.Missing → IsSteadySymbol s → empty_tree s ≡ None → IsTaken (step s (word (codes "module")) q) → NotTaken (step s (word w) p) → judge (wants s k) (word_at w p) ≡ missing p w
module_told first_module k q p w e steady none h n = rw e refl
module_told more_modules k q p w e steady none h n = rw e refl
module_told a_name k q p w e steady none h n = absurd (n tt)
module_told a_field_name k q p w e steady none h n = absurd (n tt)
module_told (a_field d) k q p w e steady none h n = absurd (n (either_taken (bytes_eq w (codes "flip")) _ _ tt tt))
module_told (fields d) k q p w e steady none h n = absurd (n (more_taken d (field_step d (word w) p) (either_taken (bytes_eq w (codes "flip")) _ _ tt tt)))
module_told (behind_flip d r) k q p w e steady none h n = absurd (n tt)
module_told (an_expression d) k q p w e steady none h n = absurd (n tt)
module_told (an_index d) k q p w e steady none h n = absurd (n tt)
module_told more_names k q p w e steady none h n = absurd (n tt)
module_told (statements d ws) k q p w e steady none h n = absurd (n (either_taken (may_be_else ws w) _ _ tt tt))
module_told ports_and_statements k q p w e steady none h n = absurd (n (port_or_statement_taken (direction_of w) p w))
module_told (behind_first d r v) k q p w e steady none h n = absurd (n (either_taken (bytes_eq w (codes "is")) _ _ tt (declaration_taken (lead_of v) d r v (codes "module") w q p h)))
module_told (behind_direction v r x) k q p w e steady none h n = absurd (n (either_taken (bytes_eq w (codes "is")) _ _ tt tt))
module_told (behind_is d r v t) k q p w e steady none h n = absurd (module_of_is (lead_of v) d r t q h)
module_told (a_word v) k q p w e steady none h n = absurd (no_keyword (codes "module") v q refl steady h)
module_told s k q p w e steady none h n = absurd h
