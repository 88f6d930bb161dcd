-- Memories (FIRRTL spec, "Memory Instances"):
--   field = "data-type" "=>" type NL | ("depth" | "read-latency" | "write-latency") "=>" int NL
--         | ("reader" | "writer" | "readwriter") "=>" name+ NL | "read-under-write" "=>" ("old" | "new" | "undefined") NL
use Rattle.std.specs.Prelude.{ℕ, List, [], ◌∷◌, Option, Some, None}
use Rattle.fir_ast.specs.declared.place.Place.{Place}
use Rattle.fir_ast.specs.declared.statements.ReadUnderWrite.{ReadUnderWrite}
use Rattle.fir_ast.specs.Statements.{PlacedName, MemoryPart, data_type, depth, read_latency, write_latency, reader, writer, readwriter, read_under_write}
use Rattle.fir_parse.specs.declared.lexeme.Mark.TheVariants.{Arrow}
use Rattle.fir_parse.specs.declared.words.FieldWord.{FieldWord}
use Rattle.fir_parse.specs.declared.words.FieldWord.TheVariants as memory
use Rattle.fir_parse.specs.Lexemes.{Lexeme, word, line_end, level_opens, level_closes}
use Rattle.fir_parse.specs.working.Words.{field_word_of, under_write_of}
use Rattle.fir_parse.specs.working.Symbols.{a_mark, a_name, a_natural, a_type, a_memory_field, more_memory_fields, more_names, an_under_write}
use Rattle.fir_parse.specs.working.States.{State, wants, Step, takes, without, refuses, unsupported}
use Rattle.fir_parse.specs.working.StatementRules.{ends_line}

-- "=>" int NL
abbrev pub number_plan : (ℕ → State) → State
number_plan k = wants (a_mark Arrow) (λ q. wants a_natural (λ n. ends_line n.number k))

abbrev pub number_field : (Place → ℕ → MemoryPart) → Place → (MemoryPart → State) → State
number_field make p k = number_plan (λ n. k (make p n))

-- "=>" name+ NL
abbrev pub names_plan : (List PlacedName → State) → State
names_plan k = wants (a_mark Arrow) (λ q. wants a_name (λ n. wants more_names (λ ns. k (n ∷ ns))))

abbrev pub names_field : (Place → List PlacedName → MemoryPart) → Place → (MemoryPart → State) → State
names_field make p k = names_plan (λ ns. k (make p ns))

abbrev pub by_field_word : FieldWord → ℕ → Place → Step MemoryPart
by_field_word memory.DataType d p = takes (λ k. wants (a_mark Arrow) (λ q. wants (a_type d) (λ t. ends_line (data_type p t.place t.data_type) k)))
by_field_word memory.Depth d p = takes (λ k. number_field depth p k)
by_field_word memory.ReadLatency d p = takes (λ k. number_field read_latency p k)
by_field_word memory.WriteLatency d p = takes (λ k. number_field write_latency p k)
by_field_word memory.Reader d p = takes (λ k. names_field reader p k)
by_field_word memory.Writer d p = takes (λ k. names_field writer p k)
by_field_word memory.Readwriter d p = takes (λ k. names_field readwriter p k)
by_field_word memory.ReadUnderWrite d p = takes (λ k. wants (a_mark Arrow) (λ q. wants an_under_write (λ u. ends_line (read_under_write p u) k)))
by_field_word memory.Name d p = refuses

abbrev pub memory_field_step : ℕ → Lexeme → Place → Step MemoryPart
memory_field_step d l p = by_field_word (field_word_of l) d p

-- IN field+ OUT, or none
abbrev pub memory_body_step : ℕ → Lexeme → Step (List MemoryPart)
memory_body_step d level_opens = takes (λ k. wants (a_memory_field d) (λ f. wants (more_memory_fields d) (λ fs. k (f ∷ fs))))
memory_body_step d _ = without []

-- one field more, with the token that begins it
abbrev pub then_fields : ℕ → Step MemoryPart → Step (List MemoryPart)
then_fields d (takes g) = takes (λ k. g (λ f. wants (more_memory_fields d) (λ fs. k (f ∷ fs))))
then_fields d (without f) = refuses
then_fields d refuses = refuses
then_fields d (unsupported p w) = unsupported p w

abbrev pub more_memory_fields_step : ℕ → Lexeme → Place → Step (List MemoryPart)
more_memory_fields_step d level_closes p = takes (λ k. k [])
more_memory_fields_step d l p = then_fields d (memory_field_step d l p)

-- the names of one line, up to its end
abbrev pub more_names_step : Lexeme → Place → Step (List PlacedName)
more_names_step line_end p = takes (λ k. k [])
more_names_step (word w) p = takes (λ k. wants more_names (λ ns. k (record { place = p; name = w } ∷ ns)))
more_names_step _ p = refuses

abbrev pub under_write : Option ReadUnderWrite → Step ReadUnderWrite
under_write (Some u) = takes (λ k. k u)
under_write None = refuses

abbrev pub under_write_step : Lexeme → Step ReadUnderWrite
under_write_step (word w) = under_write (under_write_of w)
under_write_step _ = refuses
