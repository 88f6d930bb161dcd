-- A text read from the left, token by token: the tree that it spells, or the first fault.
use Rattle.std.specs.Prelude.{ℕ, List, [], ◌∷◌, Bool, true, false, not, ◌&&◌, Result, Ok, Err, if◌then◌else◌}
use Rattle.std.specs.Str.{bytes_eq}
use Rattle.fir_ast.specs.declared.place.Place.{Place}
use Rattle.fir_ast.specs.declared.fault.FirFault.{FirFault}
use Rattle.fir_ast.specs.declared.fault.FirFault.TheVariants.{Syntax, Unsupported}
use Rattle.fir_ast.specs.Statements.{PlacedName}
use Rattle.fir_ast.specs.Circuits.{CircuitTree}
use Rattle.fir_parse.specs.declared.lexeme.Mark.{Mark}
use Rattle.fir_parse.specs.Limits.{Limit, Limits, everywhere}
use Rattle.fir_parse.specs.Lexemes.{Lexeme, word, integer, mark, line_end, level_opens, level_closes, Terminal}
use Rattle.fir_parse.specs.working.Marks.{same_mark}
use Rattle.fir_base.specs.Digits.{decimal_value}
use Rattle.fir_parse.specs.Numbers.{has_sign, is_in_range}
use Rattle.fir_parse.specs.working.Symbols.{Sym, Tree, Natural, a_mark, a_word, a_name, a_field_name, a_natural, a_line_end, an_opening, a_closing, a_type, a_width, dimensions, fields, more_fields, a_field, behind_flip, an_expression, behind_word, parts, an_index, a_literal, statements, behind_first, behind_is, behind_else, behind_sink, an_indented_block, a_reset, behind_with, a_memory_body, a_memory_field, more_memory_fields, more_names, an_under_write, a_text, some_annotations, first_module, more_modules, a_body, ports_and_statements, behind_direction, behind_port_is}
use Rattle.fir_parse.specs.working.States.{State, done, number_at, bound_fault, limit_of, limit, wants, Step, takes, without, refuses, unsupported, mapped}
use Rattle.fir_parse.specs.working.TypeRules.{type_at, type_step, width_step, dimensions_step, field_step, flip_step, fields_step, more_fields_step}
use Rattle.fir_parse.specs.working.ExpressionRules.{expression_step, behind_word_step, parts_step, index_step, literal_step}
use Rattle.fir_parse.specs.working.StatementRules.{statements_step, first_step, is_step, else_step, sink_step, block_step, reset_step, with_step}
use Rattle.fir_parse.specs.working.MemoryRules.{memory_body_step, memory_field_step, more_memory_fields_step, more_names_step, under_write_step}
use Rattle.fir_parse.specs.working.CircuitRules.{text_step, annotations_step, first_module_step, more_modules_step, body_step, ports_step, direction_step, port_is_step}

abbrev pub one : {T : Type 0} → Bool → T → Step T
one true x = takes (λ k. k x)
one false x = refuses

abbrev pub mark_step : Mark → Lexeme → Place → Step Place
mark_step m (mark n) p = one (same_mark m n) p
mark_step m _ p = refuses

abbrev pub word_step : List ℕ → Lexeme → Place → Step Place
word_step w (word x) p = one (bytes_eq x w) p
word_step w _ p = refuses

abbrev pub name_step : Lexeme → Place → Step PlacedName
name_step (word w) p = takes (λ k. k (record { place = p; name = w }))
name_step _ p = refuses

-- a word, or a run of digits
abbrev pub field_name_step : Lexeme → Place → Step PlacedName
field_name_step (word w) p = takes (λ k. k (record { place = p; name = w }))
field_name_step (integer s) p = if has_sign s then refuses else takes (λ k. k (record { place = p; name = s }))
field_name_step _ p = refuses

-- an integer without a sign
abbrev pub natural_step : Lexeme → Place → Step Natural
natural_step (integer s) p =
    if has_sign s then refuses
    else takes (λ k. limit (not (is_in_range (decimal_value s))) (number_at p) (k (record { place = p; number = decimal_value s })))
natural_step _ p = refuses

abbrev pub line_end_step : Lexeme → Place → Step Place
line_end_step line_end p = takes (λ k. k p)
line_end_step _ p = refuses

abbrev pub opening_step : Lexeme → Place → Step Place
opening_step level_opens p = takes (λ k. k p)
opening_step _ p = refuses

abbrev pub closing_step : Lexeme → Place → Step Place
closing_step level_closes p = takes (λ k. k p)
closing_step _ p = refuses

-- what a token does where something is expected
abbrev pub step : (s : Sym) → Lexeme → Place → Step (Tree s)
step (a_mark m) l p = mark_step m l p
step (a_word w) l p = word_step w l p
step a_name l p = name_step l p
step a_field_name l p = field_name_step l p
step a_natural l p = natural_step l p
step a_line_end l p = line_end_step l p
step an_opening l p = opening_step l p
step a_closing l p = closing_step l p
step (a_type d) l p = mapped (type_at p) (type_step d l p)
step a_width l p = width_step l
step (dimensions d t) l p = dimensions_step d t l p
step (fields d) l p = fields_step d l p
step (more_fields d) l p = more_fields_step d l p
step (a_field d) l p = field_step d l p
step (behind_flip d q) l p = flip_step d q l p
step (an_expression d) l p = expression_step d l p
step (behind_word d q w) l p = behind_word_step d q w l p
step (parts d h) l p = parts_step d h l p
step (an_index d) l p = index_step d l p
step (a_literal q signed width) l p = literal_step q signed width l p
step (statements d ws) l p = statements_step d ws l p
step (behind_first d q w) l p = first_step d q w l p
step (behind_is d q w r) l p = is_step d q w r l p
step (behind_else d n q) l p = else_step d n q l p
step (behind_sink d s) l p = sink_step d s l p
step (an_indented_block d) l p = block_step d l
step (a_reset d) l p = reset_step d l p
step (behind_with d q) l p = with_step d q l p
step (a_memory_body d) l p = memory_body_step d l
step (a_memory_field d) l p = memory_field_step d l p
step (more_memory_fields d) l p = more_memory_fields_step d l p
step more_names l p = more_names_step l p
step an_under_write l p = under_write_step l
step a_text l p = text_step l
step some_annotations l p = annotations_step l
step first_module l p = first_module_step l p
step more_modules l p = more_modules_step l p
step a_body l p = body_step l
step ports_and_statements l p = ports_step l p
step (behind_direction r q w) l p = direction_step r q w l p
step (behind_port_is r q w s) l p = port_is_step r q w s l p

abbrev pub Outcome : Type 0
Outcome = Result CircuitTree FirFault

-- a step at a token: how the text goes on behind it, or with it
abbrev pub goes_on : {T : Type 0} → Step T → Place → (T → State) → (State → Outcome) → (T → Outcome) → Outcome
goes_on (takes g) p k behind with_it = behind (g k)
goes_on (without x) p k behind with_it = with_it x
goes_on refuses p k behind with_it = Err (Syntax p)
goes_on (unsupported q w) p k behind with_it = Err (Unsupported q w)

-- at a token, where some limits count
abbrev pub at_token : (Limit → Bool) → State → Terminal → (State → Outcome) → Outcome
at_token counts (done c) t behind = Err (Syntax t.place)
at_token counts (limit passed b st) t behind = if counts (limit_of b) && passed then Err (bound_fault b) else at_token counts st t behind
at_token counts (wants s k) t behind = goes_on (step s t.lexeme t.place) t.place k behind (λ x. at_token counts (k x) t behind)

abbrev pub at_end : (Limit → Bool) → Place → State → Outcome
at_end counts end (done c) = Ok c
at_end counts end (limit passed b st) = if counts (limit_of b) && passed then Err (bound_fault b) else at_end counts end st
at_end counts end (wants s k) = Err (Syntax end)

-- the text goes on with these tokens, up to its end at a place
unfoldable pub read_on : Limits → Place → State → List Terminal → Outcome
read_on limits end st [] = at_end (λ l. limits l []) end st
read_on limits end st (t ∷ ts) = at_token (λ l. limits l (t ∷ ts)) st t (λ next. read_on limits end next ts)

abbrev pub whole : State
whole = wants a_text done

-- what a text of these tokens is
abbrev pub read : Place → List Terminal → Outcome
read end ts = read_on everywhere end whole ts
