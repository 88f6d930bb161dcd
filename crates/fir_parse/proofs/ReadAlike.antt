-- Where one symbol reads as another does, by the token at hand.
use Rattle.std.proofs.Common.{◌≡◌, ℕ, List, ◌∷◌, Bool, true, false, codes, if◌then◌else◌, Option, refl, ap, Bor}
use Rattle.std.specs.Str.{bytes_eq}
use Rattle.fir_base.specs.declared.direction.Direction.{Direction}
use Rattle.fir_ast.specs.declared.place.Place.{Place}
use Rattle.fir_ast.specs.Statements.{MemoryPart, PlacedName, Reset}
use Rattle.fir_ast.specs.Circuits.{CircuitTree, ModuleTree}
use Rattle.fir_parse.specs.declared.lexeme.Lexeme.{Lexeme as LexemeRef}
use Rattle.fir_parse.specs.declared.lexeme.Lexeme.TheVariants as code
use Rattle.fir_parse.specs.declared.lexeme.Mark.TheVariants.{OpenRound, Colon}
use Rattle.fir_parse.specs.declared.words.FieldWord.{FieldWord}
use Rattle.fir_parse.specs.declared.words.FieldWord.TheVariants as memory
use Rattle.fir_parse.specs.working.AtHand.{StandsFirst}
use Rattle.fir_parse.specs.Lexemes.{Terminal}
use Rattle.fir_parse.specs.working.Seen.{seen}
use Rattle.fir_parse.specs.working.Words.{field_word_of}
use Rattle.fir_parse.specs.working.States.{State, wants, Step, takes, without, refuses, unsupported, mapped}
use Rattle.fir_parse.specs.working.Symbols.{PortOr, no_port, a_name, a_reset, behind_with, a_memory_field, more_memory_fields, more_names, a_text, first_module, more_modules, behind_direction, behind_port_is}
use Rattle.fir_parse.specs.working.StatementRules.{first_step}
use Rattle.fir_parse.specs.working.MemoryRules.{by_field_word, then_fields}
use Rattle.fir_parse.specs.working.PartPlans.{reset_part_plan, level_reset_plan, no_port_plan, port_plan, invalid_plan, circuit_plan}
use Rattle.fir_parse.specs.working.Reading.{Outcome, one, goes_on, read_on}
use Rattle.fir_parse.specs.working.Reads.{Plan}
use Rattle.fir_parse.specs.Limits.{everywhere}

-- a word that is taken if it is the one that is expected
taken_or_not : {T : Type 0} (b : Bool) (g : Plan T) (p : Place) (k : T → State) (j : Place → State) (behind : State → Outcome) (x : T → Outcome) (y : Place → Outcome) → g k ≡ j p → goes_on (if b then takes g else refuses) p k behind x ≡ goes_on (one b p) p j behind y
taken_or_not true g p k j behind x y e = ap behind e
taken_or_not false g p k j behind x y e = refl

-- what is not the end of a register's line begins with the word `with`
pub resets_by_word : (d : ℕ) (a : List Terminal) (l : LexemeRef) (p : Place) → StandsFirst a l p → (l ≡ code.LineEnd → ⊥) → (end : Place) (k : Option Reset → State) → read_on everywhere end (wants (a_reset d) k) a ≡ read_on everywhere end (reset_part_plan d k) a
unfolding read_on
resets_by_word d a code.LineEnd p e h end k = absurd (h refl)
resets_by_word d a code.End p e h end k = rw e refl
resets_by_word d a (code.Word w) p e h end k = rw e (taken_or_not (bytes_eq w.now (codes "with")) _ p k _ _ _ _ refl)
resets_by_word d a _ p e h end k = rw e refl

-- behind `with :` and at no parenthesis a level of its own follows
pub resets_in_level : (d : ℕ) (w : Place) (a : List Terminal) (l : LexemeRef) (p : Place) → StandsFirst a l p → (l ≡ code.Mark OpenRound → ⊥) → (end : Place) (k : Reset → State) → read_on everywhere end (wants (behind_with d w) k) a ≡ read_on everywhere end (level_reset_plan d w k) a
unfolding read_on
resets_in_level d w a (code.Mark OpenRound) p e h end k = absurd (h refl)
resets_in_level d w a (code.Mark _) p e h end k = rw e refl
resets_in_level d w a code.End p e h end k = rw e refl
resets_in_level d w a _ p e h end k = rw e refl

-- a field more, with the token that begins it
field_goes_on : (d : ℕ) (w : FieldWord) (p : Place) (k : List MemoryPart → State) (behind : State → Outcome) (x : List MemoryPart → Outcome) (y : MemoryPart → Outcome) → goes_on (then_fields d (by_field_word w d p)) p k behind x ≡ goes_on (by_field_word w d p) p (λ f. wants (more_memory_fields d) (λ fs. k (f ∷ fs))) behind y
field_goes_on d memory.DataType p k behind x y = refl
field_goes_on d memory.Depth p k behind x y = refl
field_goes_on d memory.ReadLatency p k behind x y = refl
field_goes_on d memory.WriteLatency p k behind x y = refl
field_goes_on d memory.Reader p k behind x y = refl
field_goes_on d memory.Writer p k behind x y = refl
field_goes_on d memory.Readwriter p k behind x y = refl
field_goes_on d memory.ReadUnderWrite p k behind x y = refl
field_goes_on d memory.Name p k behind x y = refl

-- at no level's end one field more is read
pub one_field_more : (d : ℕ) (a : List Terminal) (l : LexemeRef) (p : Place) → StandsFirst a l p → (l ≡ code.LevelCloses → ⊥) → (end : Place) (k : List MemoryPart → State) → read_on everywhere end (wants (more_memory_fields d) k) a ≡ read_on everywhere end (wants (a_memory_field d) (λ f. wants (more_memory_fields d) (λ fs. k (f ∷ fs)))) a
unfolding read_on
one_field_more d a code.LevelCloses p e h end k = absurd (h refl)
one_field_more d a code.End p e h end k = rw e refl
one_field_more d a (code.Word w) p e h end k = rw e (field_goes_on d (field_word_of (seen (code.Word w))) p k _ _ _)
one_field_more d a (code.DashWord w) p e h end k = rw e (field_goes_on d (field_word_of (seen (code.DashWord w))) p k _ _ _)
one_field_more d a _ p e h end k = rw e refl

-- at no line's end one name more is read
pub one_name_more : (a : List Terminal) (l : LexemeRef) (p : Place) → StandsFirst a l p → (l ≡ code.LineEnd → ⊥) → (end : Place) (k : List PlacedName → State) → read_on everywhere end (wants more_names k) a ≡ read_on everywhere end (wants a_name (λ n. wants more_names (λ ns. k (n ∷ ns)))) a
unfolding read_on
one_name_more a code.LineEnd p e h end k = absurd (h refl)
one_name_more a code.End p e h end k = rw e refl
one_name_more a _ p e h end k = rw e refl

-- at no level's end one module more is read
pub one_module_more : (a : List Terminal) (l : LexemeRef) (p : Place) → StandsFirst a l p → (l ≡ code.LevelCloses → ⊥) → (end : Place) (k : List ModuleTree → State) → read_on everywhere end (wants more_modules k) a ≡ read_on everywhere end (wants first_module k) a
unfolding read_on
one_module_more a code.LevelCloses p e h end k = absurd (h refl)
one_module_more a code.End p e h end k = rw e refl
one_module_more a _ p e h end k = rw e refl

-- a text without a version begins with the word `circuit`
pub text_by_word : (a : List Terminal) (l : LexemeRef) (p : Place) → StandsFirst a l p → ((w : Bor (List ℕ)) → l ≡ code.Word w → bytes_eq w.now (codes "FIRRTL") ≡ false) → (end : Place) (k : CircuitTree → State) → read_on everywhere end (wants a_text k) a ≡ read_on everywhere end (circuit_plan k) a
unfolding read_on
text_by_word a (code.Word w) p e h end k = rw e (rw (h w refl) (taken_or_not (bytes_eq w.now (codes "circuit")) _ p k _ _ _ _ refl))
text_by_word a code.End p e h end k = rw e refl
text_by_word a _ p e h end k = rw e refl

mapped_goes_on : {A B : Type 0} (f : A → B) (u : Step A) (p : Place) (k : B → State) (behind : State → Outcome) (x : B → Outcome) → goes_on (mapped f u) p k behind x ≡ goes_on u p (λ y. k (f y)) behind (λ y. x (f y))
mapped_goes_on f (takes g) p k behind x = refl
mapped_goes_on f (without y) p k behind x = refl
mapped_goes_on f refuses p k behind x = refl
mapped_goes_on f (unsupported q w) p k behind x = refl

-- behind `input` or `output` and at no word, that word is a name
pub direction_is_name : (r : Direction) (p : Place) (w : List ℕ) (a : List Terminal) (l : LexemeRef) (q : Place) → StandsFirst a l q → ((x : Bor (List ℕ)) → l ≡ code.Word x → ⊥) → (end : Place) (k : PortOr → State) → read_on everywhere end (wants (behind_direction r p w) k) a ≡ read_on everywhere end (no_port_plan p w k) a
unfolding read_on
direction_is_name r p w a (code.Word x) q e h end k = absurd (h x refl)
direction_is_name r p w a code.End q e h end k = rw e refl
direction_is_name r p w a l q e h end k = rw e (mapped_goes_on no_port (first_step 0 p w (seen l) q) q k _ _)

-- behind `input` or `output` and at a word that is not `is`, that word is a port's name
pub direction_is_port : (r : Direction) (p : Place) (w : List ℕ) (a : List Terminal) (l : LexemeRef) (x : Bor (List ℕ)) (q : Place) → StandsFirst a l q → l ≡ code.Word x → bytes_eq x.now (codes "is") ≡ false → (end : Place) (k : PortOr → State) → read_on everywhere end (wants (behind_direction r p w) k) a ≡ read_on everywhere end (port_plan r k) a
unfolding read_on
direction_is_port r p w a (code.Word y) x q e f h end k = rw e (rw (let g : y ≡ x = cc in ap (λ z. bytes_eq z.now (codes "is")) g) (rw h refl))
direction_is_port r p w a _ x q e f h end k = absurd cc

-- behind `input is` or `output is` and at no colon, `is` begins the rest of a statement
pub is_not_port : (r : Direction) (p : Place) (w : List ℕ) (o : Place) (a : List Terminal) (l : LexemeRef) (q : Place) → StandsFirst a l q → (l ≡ code.Mark Colon → ⊥) → (end : Place) (k : PortOr → State) → read_on everywhere end (wants (behind_port_is r p w o) k) a ≡ read_on everywhere end (invalid_plan p w k) a
unfolding read_on
is_not_port r p w o a (code.Mark Colon) q e h end k = absurd (h refl)
is_not_port r p w o a (code.Mark _) q e h end k = rw e refl
is_not_port r p w o a code.End q e h end k = rw e refl
is_not_port r p w o a (code.Word x) q e h end k = rw e (taken_or_not (bytes_eq x.now (codes "invalid")) _ q k _ _ _ _ refl)
is_not_port r p w o a _ q e h end k = rw e refl
