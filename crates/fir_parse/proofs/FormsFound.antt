-- What each symbol of a text stands for, form by form, and what a state then derives.
use Rattle.std.proofs.Common.{◌≡◌, ℕ, ◌+◌, ◌<◌, ◌≤◌, true, false, List, [], ◌∷◌, length, Option, codes, if◌then◌else◌}
use Rattle.std.specs.Prelude.{nat_le, nat_lt}
use Rattle.std.specs.Str.{bytes_eq}
use Rattle.std.proofs.lemmas.Bool.{ltb-false, leb-false, cond_both}
use Rattle.std.proofs.lemmas.Slice.Eq.{bytes_eq-Decides}
use Rattle.fir_ast.specs.declared.place.Place.{Place}
use Rattle.fir_ast.specs.Statements.{Reset, Block}
use Rattle.fir_ast.specs.Circuits.{CircuitTree}
use Rattle.fir_base.specs.declared.direction.Direction.{Direction}
use Rattle.fir_parse.specs.declared.lexeme.Mark.TheVariants.{OpenRound, CloseRound, CloseCurly, Colon}
use Rattle.fir_parse.specs.Lexemes.{Lexeme, Terminal, word, mark, line_end, level_opens, level_closes}
use Rattle.fir_parse.specs.Numbers.{Numeral, is_allowed, literal_of}
use Rattle.fir_parse.specs.Pieces.{◌▸◌, At, Either, Given, Nothing, TokenAt, Sign, WordToken, LineEnd, Opens, Closes, Annotations, NameToken, FieldName, IntAt}
use Rattle.fir_parse.specs.TypeForms.{IsWidth, IsFlip, IsType, AreFields, AreMoreFields}
use Rattle.fir_parse.specs.ExpressionForms.{IsNumeral, IsExpression, AreParts, IsSink}
use Rattle.fir_parse.specs.StatementForms.{IsResetPair, IsRegisterReset, AreNames, under_write_word, IsMemoryPart, AreMemoryParts, IsMemoryBody, IsStatement, AreStatements, IsBlock, IsElse}
use Rattle.fir_parse.specs.CircuitForms.{direction_word, IsPort, ArePorts, IsBody, AreModules, AreSomeModules, IsVersion}
use Rattle.fir_parse.specs.working.Symbols.{Sym, Tree, FieldTree, IndexTree, plain_index, computed_index, OpenWhen, Begun, statement, open_when, Otherwise, else_block, else_when, no_else, PortOr, port, no_port, a_mark, a_word, a_name, a_field_name, a_natural, a_line_end, an_opening, a_closing, a_type, a_width, dimensions, fields, more_fields, a_field, behind_flip, an_expression, behind_word, parts, an_index, a_literal, statements, behind_first, behind_is, behind_else, behind_sink, an_indented_block, a_reset, behind_with, a_memory_body, a_memory_field, more_memory_fields, more_names, an_under_write, a_text, some_annotations, first_module, more_modules, a_body, ports_and_statements, behind_direction, behind_port_is}
use Rattle.fir_parse.specs.working.States.{State, done, limit_of, limit, wants, Step, takes, without, refuses, unsupported}
use Rattle.fir_parse.specs.working.StatementRules.{closed_before}
use Rattle.fir_parse.specs.Limits.{Limits, numbers, nesting, Within}

abbrev pub token_at : Lexeme → Place → Terminal
token_at l p = record { lexeme = l; place = p }

-- by a word
pub by_word : {T : Type 0} (F : T → Type 0) (w v : List ℕ) (x y : T) → (w ≡ v → F x) → F y → F (if bytes_eq w v then x else y)
by_word F w v x y p q = cond_both (bytes_eq w v) x y F (λ h. p ((bytes_eq-Decides w v).0 h)) (λ h. q)

-- what holds where a limit counts
pub within : {C : Type 0} (d : ℕ) → (C → nat_le 256 d ≡ false) → C → d < 256
within d h c = leb-false 256 d (h c)

pub no_taller : {C : Type 0} (h : ℕ) → (C → nat_lt 256 h ≡ false) → C → h ≤ 256
no_taller h e c = ltb-false 256 h (e c)

module _ (limits : Limits) where
  abbrev pub IsField : ℕ → FieldTree → List Terminal → List Terminal → Type 0
  IsField d f = IsFlip f.flip ▸ FieldName (record { place = f.place; name = f.name }) ▸ Sign Colon ▸ (At f.type_place ▸ IsType limits d f.data_type)

  abbrev pub IsIndex : ℕ → IndexTree → List Terminal → List Terminal → Type 0
  IsIndex d (plain_index p n) = IntAt limits n p
  IsIndex d (computed_index e) = IsExpression limits d e

  -- a when as far as its block
  abbrev pub IsOpenWhen : ℕ → OpenWhen → List Terminal → List Terminal → Type 0
  IsOpenWhen d o = TokenAt (word (codes "when")) o.place ▸ IsExpression limits d o.condition ▸ Sign Colon ▸ LineEnd ▸ Within limits nesting (d < 256) ▸ IsBlock limits (d + 1) o.block

  abbrev pub IsBegun : ℕ → Begun → List Terminal → List Terminal → Type 0
  IsBegun d (statement s) = IsStatement limits d s
  IsBegun d (open_when o) = IsOpenWhen d o

  -- behind an `else`
  abbrev pub IsOtherwise : ℕ → ℕ → Place → Otherwise → List Terminal → List Terminal → Type 0
  IsOtherwise d n p (else_block b) a z = (Sign Colon ▸ LineEnd ▸ IsBlock limits (d + n) b) a z
  IsOtherwise d n p (else_when o) a z = IsOpenWhen (d + n) o a z
  IsOtherwise d n p (no_else s) a z = IsStatement limits d s (token_at (word (codes "else")) p ∷ a) z

  -- the statements of a level, behind open whens, the last of which may have an else
  abbrev pub AreBehind : ℕ → List OpenWhen → Block → List Terminal → List Terminal → Type 0
  AreBehind d [] b a z = (AreStatements limits d b ▸ Closes) a z
  AreBehind d (w ∷ ws) b a z = (f : Block) × (rest : Block) × (b ≡ closed_before (w ∷ ws) f rest) × (IsElse limits (d + length ws) f ▸ AreStatements limits d rest ▸ Closes) a z

  abbrev pub IsBehindWith : ℕ → Place → Reset → List Terminal → List Terminal → Type 0
  IsBehindWith d p r =
      Given (p ≡ r.place)
      ▸ Either (Sign OpenRound ▸ Within limits nesting (d < 256) ▸ IsResetPair limits (d + 1) r ▸ Sign CloseRound ▸ LineEnd) (LineEnd ▸ Opens ▸ IsResetPair limits d r ▸ LineEnd ▸ Closes)

  abbrev pub IsWholeText : CircuitTree → List Terminal → List Terminal → Type 0
  IsWholeText c =
      Either Nothing (IsVersion limits) ▸ WordToken (codes "circuit") ▸ NameToken c.named ▸ Sign Colon ▸ Either Nothing Annotations ▸ LineEnd ▸ Opens ▸ AreSomeModules limits c.modules ▸ Closes

  -- with the word of a direction
  abbrev pub IsPortOr : Direction → List ℕ → PortOr → List Terminal → List Terminal → Type 0
  IsPortOr r w (port t) a z = w ≡ direction_word r → IsPort limits t a z
  IsPortOr r w (no_port s) a z = IsBegun 0 s a z

  -- the tokens from the first list to the second are those of a symbol with this tree; a symbol behind a word is taken with that word
  abbrev pub Is : (s : Sym) → Tree s → List Terminal → List Terminal → Type 0
  Is (a_mark m) q a z = TokenAt (mark m) q a z
  Is (a_word w) q a z = TokenAt (word w) q a z
  Is a_name n a z = NameToken n a z
  Is a_field_name n a z = FieldName n a z
  Is a_natural n a z = IntAt limits n.number n.place a z
  Is a_line_end q a z = TokenAt line_end q a z
  Is an_opening q a z = TokenAt level_opens q a z
  Is a_closing q a z = TokenAt level_closes q a z
  Is (a_type d) t a z = (At t.place ▸ IsType limits d t.data_type) a z
  Is a_width w a z = IsWidth limits w a z
  Is (dimensions d t) x a z = (before : List Terminal) → IsType limits d t before a → IsType limits d x before z
  Is (fields d) fs a z = (AreFields limits d fs.fields ▸ TokenAt (mark CloseCurly) fs.close) a z
  Is (more_fields d) fs a z = (AreMoreFields limits d fs.fields ▸ TokenAt (mark CloseCurly) fs.close) a z
  Is (a_field d) f a z = IsField d f a z
  Is (behind_flip d p) f a z = IsField d f (token_at (word (codes "flip")) p ∷ a) z
  Is (an_expression d) e a z = IsExpression limits d e a z
  Is (behind_word d p w) e a z = IsExpression limits d e (token_at (word w) p ∷ a) z
  Is (parts d h) ps a z = AreParts limits d h ps a z
  Is (an_index d) i a z = IsIndex d i a z
  Is (a_literal p signed width) l a z =
      (n : Option Numeral) × (l ≡ literal_of p signed width n) × (IsNumeral n ▸ Within limits numbers (is_allowed signed n ≡ true)) a z
  Is (statements d ws) b a z = AreBehind d ws b a z
  Is (behind_first d p w) s a z = IsBegun d s (token_at (word w) p ∷ a) z
  Is (behind_is d p w q) s a z = IsBegun d s (token_at (word w) p ∷ token_at (word (codes "is")) q ∷ a) z
  Is (behind_else d n p) x a z = IsOtherwise d n p x a z
  Is (behind_sink d s) t a z = (before : List Terminal) → IsSink limits d s before a → IsStatement limits d t before z
  Is (an_indented_block d) b a z = IsBlock limits d b a z
  Is (a_reset d) r a z = IsRegisterReset limits d r a z
  Is (behind_with d p) r a z = IsBehindWith d p r a z
  Is (a_memory_body d) fs a z = IsMemoryBody limits d fs a z
  Is (a_memory_field d) f a z = IsMemoryPart limits d f a z
  Is (more_memory_fields d) fs a z = (AreMemoryParts limits d fs ▸ Closes) a z
  Is more_names ns a z = (AreNames ns ▸ LineEnd) a z
  Is an_under_write u a z = WordToken (under_write_word u) a z
  Is a_text c a z = IsWholeText c a z
  Is some_annotations u a z = Either Nothing Annotations a z
  Is first_module ms a z = (AreSomeModules limits ms ▸ Closes) a z
  Is more_modules ms a z = (AreModules limits ms ▸ Closes) a z
  Is a_body x a z = IsBody limits x.ports x.block a z
  Is ports_and_statements x a z = (ArePorts limits x.ports ▸ AreStatements limits 0 x.block ▸ Closes) a z
  Is (behind_direction r p w) x a z = IsPortOr r w x (token_at (word w) p ∷ a) z
  Is (behind_port_is r p w q) x a z = IsPortOr r w x (token_at (word w) p ∷ token_at (word (codes "is")) q ∷ a) z

  -- all tokens are those of what a state expects, within the limits, and they make this circuit
  abbrev pub Derives : State → CircuitTree → List Terminal → Type 0
  Derives (done x) c ts = (x ≡ c) × (ts ≡ [])
  Derives (limit b l st) c ts = (limits (limit_of l) ts ≡ true → b ≡ false) × Derives st c ts
  Derives (wants s k) c ts = (x : Tree s) × (rest : List Terminal) × Is s x ts rest × Derives (k x) c rest

  -- a tree of the first tokens, and what is derived of the others
  abbrev pub Found : {T : Type 0} → (T → List Terminal → List Terminal → Type 0) → (T → State) → CircuitTree → List Terminal → Type 0
  Found {T = T} P k c ts = (x : T) × (rest : List Terminal) × P x ts rest × Derives (k x) c rest

  -- what is derived behind a token is derived with it
  abbrev pub Extends : {T : Type 0} → (T → List Terminal → List Terminal → Type 0) → Terminal → List Terminal → Step T → Type 0
  Extends {T = T} P t ts (takes g) = (k : T → State) (c : CircuitTree) → Derives (g k) c ts → Found P k c (t ∷ ts)
  Extends P t ts (without x) = P x (t ∷ ts) (t ∷ ts)
  Extends P t ts refuses = Unit {0}
  Extends P t ts (unsupported p w) = Unit {0}
