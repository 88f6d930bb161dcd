-- Where the guards hold, a text can be completed.
use Rattle.std.proofs.Common.{refl, []}
use Rattle.fir_parse.specs.working.Symbols.{Sym, Tree, a_mark, a_word, a_name, a_field_name, a_natural, a_line_end, an_opening, a_closing, a_type, a_width, dimensions, fields, more_fields, a_field, behind_flip, an_expression, behind_word, parts, an_index, a_literal, statements, behind_first, behind_is, behind_else, behind_sink, an_indented_block, a_reset, behind_with, a_memory_body, a_memory_field, more_memory_fields, more_names, an_under_write, a_text, some_annotations, first_module, more_modules, a_body, ports_and_statements, behind_direction, behind_port_is}
use Rattle.fir_parse.specs.working.States.{State, done, limit, wants}
use Rattle.fir_parse.specs.working.Reading.{read_on}
use Rattle.fir_parse.proofs.Guards.{guard_of, Meets, Guarded}
use Rattle.fir_parse.proofs.Completions.{Completion, below_limit}
use Rattle.fir_parse.proofs.CompleteParts.{complete_mark, complete_word, complete_name, complete_field_name, complete_natural, complete_line_end, complete_opening, complete_closing, complete_type, complete_width, complete_dimensions, complete_fields, complete_more_fields, complete_field, complete_flip, complete_expression, complete_behind_word, complete_parts, complete_index, complete_literal}
use Rattle.fir_parse.proofs.CompleteStatements.{complete_statements, complete_first, complete_is, complete_else, complete_sink, complete_block, complete_reset, complete_with, complete_memory_body, complete_memory_field, complete_more_memory_fields, complete_more_names, complete_under_write, complete_text, complete_annotations, complete_first_module, complete_more_modules, complete_body, complete_ports, complete_direction, complete_port_is}

-- whatever is expected, the text is completed if it is behind that
complete_symbol : (s : Sym) (k : Tree s → State) → ((x : Tree s) → Completion (k x) × Meets (guard_of s x) (k x)) → Completion (wants s k)
complete_symbol (a_mark m) k h = complete_mark m k (λ x. (h x).0)
complete_symbol (a_word w) k h = complete_word w k (λ x. (h x).0)
complete_symbol a_name k h = complete_name k (λ x. (h x).0)
complete_symbol a_field_name k h = complete_field_name k (λ x. (h x).0)
complete_symbol a_natural k h = complete_natural k (λ x. (h x).0)
complete_symbol a_line_end k h = complete_line_end k (λ x. (h x).0)
complete_symbol an_opening k h = complete_opening k (λ x. (h x).0)
complete_symbol a_closing k h = complete_closing k (λ x. (h x).0)
complete_symbol (a_type d) k h = complete_type d k h
complete_symbol a_width k h = complete_width k (λ x. (h x).0)
complete_symbol (dimensions d t) k h = complete_dimensions d t k h
complete_symbol (fields d) k h = complete_fields d k (λ x. (h x).0)
complete_symbol (more_fields d) k h = complete_more_fields d k (λ x. (h x).0)
complete_symbol (a_field d) k h = complete_field d k h
complete_symbol (behind_flip d p) k h = complete_flip d p k h
complete_symbol (an_expression d) k h = complete_expression d k h
complete_symbol (behind_word d p w) k h = complete_behind_word d p w k h
complete_symbol (parts d n) k h = complete_parts d n k h
complete_symbol (an_index d) k h = complete_index d k (λ x. (h x).0)
complete_symbol (a_literal p signed width) k h = complete_literal p signed width k (λ x. (h x).0)
complete_symbol (statements d ws) k h = complete_statements d ws k (λ x. (h x).0)
complete_symbol (behind_first d p w) k h = complete_first d p w k (λ x. (h x).0)
complete_symbol (behind_is d p w q) k h = complete_is d p w q k (λ x. (h x).0)
complete_symbol (behind_else d n p) k h = complete_else d n p k (λ x. (h x).0)
complete_symbol (behind_sink d s) k h = complete_sink d s k (λ x. (h x).0)
complete_symbol (an_indented_block d) k h = complete_block d k (λ x. (h x).0)
complete_symbol (a_reset d) k h = complete_reset d k (λ x. (h x).0)
complete_symbol (behind_with d p) k h = complete_with d p k (λ x. (h x).0)
complete_symbol (a_memory_body d) k h = complete_memory_body d k (λ x. (h x).0)
complete_symbol (a_memory_field d) k h = complete_memory_field d k (λ x. (h x).0)
complete_symbol (more_memory_fields d) k h = complete_more_memory_fields d k (λ x. (h x).0)
complete_symbol more_names k h = complete_more_names k (λ x. (h x).0)
complete_symbol an_under_write k h = complete_under_write k (λ x. (h x).0)
complete_symbol a_text k h = complete_text k (λ x. (h x).0)
complete_symbol some_annotations k h = complete_annotations k (λ x. (h x).0)
complete_symbol first_module k h = complete_first_module k (λ x. (h x).0)
complete_symbol more_modules k h = complete_more_modules k (λ x. (h x).0)
complete_symbol a_body k h = complete_body k (λ x. (h x).0)
complete_symbol ports_and_statements k h = complete_ports k (λ x. (h x).0)
complete_symbol (behind_direction r p w) k h = complete_direction r p w k (λ x. (h x).0)
complete_symbol (behind_port_is r p w q) k h = complete_port_is r p w q k (λ x. (h x).0)

pub completable : (st : State) → Guarded st → Completion st
unfolding read_on
completable (done c) h = record { more = []; circuit = c; completes = λ end. refl }
completable (limit passed l st) h = below_limit passed l st (completable st h)
completable (wants s k) h = complete_symbol s k (λ x. (completable (k x) (h x).0, (h x).1))
