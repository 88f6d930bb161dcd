-- Every step keeps the guards, and so does every token that is expected.
use Rattle.std.proofs.Common.{ℕ, List, not, refl, inl, inr}
use Rattle.std.specs.Str.{bytes_eq}
use Rattle.fir_ast.specs.declared.place.Place.{Place}
use Rattle.fir_parse.specs.declared.lexeme.Mark.{Mark}
use Rattle.fir_parse.specs.Lexemes.{Lexeme, word, integer, mark, line_end, level_opens, level_closes, Terminal}
use Rattle.fir_parse.specs.working.Marks.{same_mark}
use Rattle.fir_base.specs.Digits.{decimal_value}
use Rattle.fir_parse.specs.Numbers.{has_sign, is_in_range}
use Rattle.fir_parse.specs.working.Symbols.{Sym, Natural, a_mark, a_word, a_name, a_field_name, a_natural, a_line_end, an_opening, a_closing, a_type, a_width, dimensions, fields, more_fields, a_field, behind_flip, an_expression, behind_word, parts, an_index, a_literal, statements, behind_first, behind_is, behind_else, behind_sink, an_indented_block, a_reset, behind_with, a_memory_body, a_memory_field, more_memory_fields, more_names, an_under_write, a_text, some_annotations, first_module, more_modules, a_body, ports_and_statements, behind_direction, behind_port_is}
use Rattle.fir_parse.specs.working.States.{State, number_at, done, limit, wants, Step, takes, without, refuses, unsupported}
use Rattle.fir_parse.specs.working.Reading.{mark_step, word_step, name_step, field_name_step, natural_step, line_end_step, opening_step, closing_step, step, whole}
use Rattle.fir_parse.specs.working.Reaching.{Verdict, continues, unexpected, missing, judge, verdict_by}
use Rattle.fir_parse.proofs.Guards.{Guard, unlimited, firm, shut, nested, nested_shut, numbered, guard_of, Meets, Guarded, After, shut_is_unlimited}
use Rattle.fir_parse.proofs.Keeping.{at, neither, Spot, elsewhere, optional, Follows, AfterNumber, Keeps, always, keeps_if, keeps_mapped, keeps_one, keeps_place, keeps_taken, unlimited_follows, nested_follows}
use Rattle.fir_parse.proofs.TypeKeeps.{type_spot, keeps_type, keeps_width, keeps_dimensions, keeps_fields, keeps_more_fields, keeps_field, keeps_flip}
use Rattle.fir_parse.proofs.ExpressionKeeps.{expression_spot, word_spot, keeps_expression, keeps_behind_word, keeps_parts, keeps_index, keeps_literal}
use Rattle.fir_parse.proofs.StatementKeeps.{statement_spot, first_spot, keeps_statements, keeps_first, keeps_is, keeps_else, keeps_sink, keeps_block}
use Rattle.fir_parse.proofs.ResetKeeps.{keeps_reset, keeps_with}
use Rattle.fir_parse.proofs.MemoryKeeps.{keeps_memory_body, keeps_memory_field, keeps_more_memory_fields, keeps_more_names, keeps_under_write}
use Rattle.fir_parse.proofs.CircuitKeeps.{module_spot, keeps_text, keeps_annotations, keeps_first_module, keeps_more_modules, keeps_body, keeps_ports, keeps_direction, keeps_port_is}
use Rattle.fir_ast.specs.Statements.{PlacedName}
use Rattle.fir_parse.specs.working.TypeRules.{type_at, type_step}

-- the place of a symbol, where a token stands
abbrev pub spot_of : Sym → Terminal → Spot
spot_of (a_type d) t = type_spot t
spot_of (an_expression d) t = expression_spot
spot_of (an_index d) t = expression_spot
spot_of (behind_word d p w) t = word_spot w p t
spot_of (statements d ws) t = statement_spot
spot_of ports_and_statements t = statement_spot
spot_of (behind_first d p w) t = first_spot w p t
spot_of (behind_direction r p w) t = first_spot w p t
spot_of first_module t = module_spot t
spot_of more_modules t = module_spot t
spot_of a_width t = optional
spot_of (dimensions d u) t = optional
spot_of (parts d h) t = optional
spot_of (an_indented_block d) t = optional
spot_of (a_memory_body d) t = optional
spot_of some_annotations t = optional
spot_of a_body t = optional
spot_of _ t = elsewhere

keeps_mark : (m : Mark) (l : Lexeme) (p : Place) → Keeps nested elsewhere (at l p) (mark_step m l p)
keeps_mark m (mark n) p = keeps_place (same_mark m n) (at (mark n) p)
keeps_mark m _ p = tt

keeps_word : (w : List ℕ) (l : Lexeme) (p : Place) → Keeps (always unlimited) elsewhere (at l p) (word_step w l p)
keeps_word w (word x) p = keeps_one (bytes_eq x w) (at (word x) p) p
keeps_word w _ p = tt

keeps_name : (l : Lexeme) (p : Place) → Keeps (always shut) elsewhere (at l p) (name_step l p)
keeps_name (word w) p = λ k after. ((after _).0, unlimited_follows neither (at (word w) p) _ (shut_is_unlimited _ (after _).1))
keeps_name _ p = tt

-- behind a field's name
abbrev behind_name : PlacedName → Guard
behind_name n = nested_shut n.place

shut_follows : (t : Terminal) (st : State) → Meets (nested_shut t.place) st → Follows neither t st
shut_follows t (done c) h = absurd h
shut_follows t (limit passed l st) h = inl (h.0, shut_is_unlimited st h.1)
shut_follows t (wants s k) h = absurd h

keeps_field_name : (l : Lexeme) (p : Place) → Keeps behind_name elsewhere (at l p) (field_name_step l p)
keeps_field_name (word w) p = λ k after. ((after _).0, shut_follows (at (word w) p) _ (after _).1)
keeps_field_name (integer s) p =
    keeps_if behind_name elsewhere (at (integer s) p) (has_sign s) refuses (takes (λ k. k (record { place = p; name = s }))) tt (λ k after. ((after _).0, shut_follows (at (integer s) p) _ (after _).1))
keeps_field_name _ p = tt

-- behind an integer
abbrev behind_natural : Natural → Guard
behind_natural n = numbered n.place n.number

numbered_follows : (s : List ℕ) (p : Place) (st : State) → Meets (numbered p (decimal_value s)) st → AfterNumber (at (integer s) p) st
numbered_follows s p (done c) h = h
numbered_follows s p (limit passed l st) h = ((decimal_value s, h.0, (s, refl, refl)), h.1)
numbered_follows s p (wants x k) h = h

keeps_natural : (l : Lexeme) (p : Place) → Keeps behind_natural elsewhere (at l p) (natural_step l p)
keeps_natural (integer s) p =
    keeps_if behind_natural elsewhere (at (integer s) p) (has_sign s) refuses
    (takes (λ k. limit (not (is_in_range (decimal_value s))) (number_at p) (k (record { place = p; number = decimal_value s })))) tt
    (λ k after. ((after _).0, inr (refl, numbered_follows s p _ (after _).1)))
keeps_natural _ p = tt

keeps_line_end : (l : Lexeme) (p : Place) → Keeps nested elsewhere (at l p) (line_end_step l p)
keeps_line_end line_end p = λ k after. ((after p).0, nested_follows neither (at line_end p) _ (after p).1)
keeps_line_end _ p = tt

keeps_opening : (l : Lexeme) (p : Place) → Keeps (always unlimited) elsewhere (at l p) (opening_step l p)
keeps_opening level_opens p = keeps_taken elsewhere (at level_opens p) p
keeps_opening _ p = tt

keeps_closing : (l : Lexeme) (p : Place) → Keeps (always unlimited) elsewhere (at l p) (closing_step l p)
keeps_closing level_closes p = keeps_taken elsewhere (at level_closes p) p
keeps_closing _ p = tt

pub keeps : (s : Sym) (l : Lexeme) (p : Place) → Keeps (guard_of s) (spot_of s (at l p)) (at l p) (step s l p)
keeps (a_mark m) l p = keeps_mark m l p
keeps (a_word w) l p = keeps_word w l p
keeps a_name l p = keeps_name l p
keeps a_field_name l p = keeps_field_name l p
keeps a_natural l p = keeps_natural l p
keeps a_line_end l p = keeps_line_end l p
keeps an_opening l p = keeps_opening l p
keeps a_closing l p = keeps_closing l p
keeps (a_type d) l p = keeps_mapped (always firm) (type_spot (at l p)) (at l p) (type_at p) (type_step d l p) (keeps_type d l p)
keeps a_width l p = keeps_width l p
keeps (dimensions d t) l p = keeps_dimensions d t l p
keeps (fields d) l p = keeps_fields d l p
keeps (more_fields d) l p = keeps_more_fields d l p
keeps (a_field d) l p = keeps_field d l p
keeps (behind_flip d q) l p = keeps_flip d q l p
keeps (an_expression d) l p = keeps_expression d l p
keeps (behind_word d q w) l p = keeps_behind_word d q w l p
keeps (parts d h) l p = keeps_parts d h l p
keeps (an_index d) l p = keeps_index d l p
keeps (a_literal q signed width) l p = keeps_literal q signed width l p
keeps (statements d ws) l p = keeps_statements d ws l p
keeps (behind_first d q w) l p = keeps_first d q w l p
keeps (behind_is d q w r) l p = keeps_is d q w r l p
keeps (behind_else d n q) l p = keeps_else d n q l p
keeps (behind_sink d s) l p = keeps_sink d s l p
keeps (an_indented_block d) l p = keeps_block d l p
keeps (a_reset d) l p = keeps_reset d l p
keeps (behind_with d q) l p = keeps_with d q l p
keeps (a_memory_body d) l p = keeps_memory_body d l p
keeps (a_memory_field d) l p = keeps_memory_field d l p
keeps (more_memory_fields d) l p = keeps_more_memory_fields d l p
keeps more_names l p = keeps_more_names l p
keeps an_under_write l p = keeps_under_write l p
keeps a_text l p = keeps_text l p
keeps some_annotations l p = keeps_annotations l p
keeps first_module l p = keeps_first_module l p
keeps more_modules l p = keeps_more_modules l p
keeps a_body l p = keeps_body l p
keeps ports_and_statements l p = keeps_ports l p
keeps (behind_direction r q w) l p = keeps_direction r q w l p
keeps (behind_port_is r q w s) l p = keeps_port_is r q w s l p

-- the guards hold behind a token that is expected
abbrev pub StaysGuarded : Verdict → Type 0
StaysGuarded (continues next) = Guarded next
StaysGuarded unexpected = Unit {0}
StaysGuarded (missing p w) = Unit {0}

stays_by : {T : Type 0} (g : T → Guard) (spot : Spot) (t : Terminal) (u : Step T) (k : T → State) (with_it : T → Verdict) → Keeps g spot t u → ((x : T) → After (g x) (k x)) → ((x : T) → StaysGuarded (with_it x)) → StaysGuarded (verdict_by u k with_it)
stays_by g spot t (takes f) k with_it keep after h = (keep k after).0
stays_by g spot t (without x) k with_it keep after h = h x
stays_by g spot t refuses k with_it keep after h = tt
stays_by g spot t (unsupported p w) k with_it keep after h = tt

pub stays_guarded : (st : State) (t : Terminal) → Guarded st → StaysGuarded (judge st t)
stays_guarded (done c) t h = tt
stays_guarded (limit passed l st) t h = stays_guarded st t h
stays_guarded (wants s k) t h = stays_by (guard_of s) (spot_of s t) t (step s t.lexeme t.place) k (λ x. judge (k x) t) (keeps s t.lexeme t.place) h (λ x. stays_guarded (k x) t (h x).0)

pub whole_guarded : Guarded whole
whole_guarded = λ c. (tt, tt)
