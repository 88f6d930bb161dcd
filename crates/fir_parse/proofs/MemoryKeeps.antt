-- The steps of memories keep the guards.
use Rattle.std.proofs.Common.{ℕ, refl, Option, Some, None}
use Rattle.fir_ast.specs.declared.place.Place.{Place}
use Rattle.fir_ast.specs.declared.statements.ReadUnderWrite.{ReadUnderWrite}
use Rattle.fir_ast.specs.Statements.{MemoryPart}
use Rattle.fir_parse.specs.declared.words.FieldWord.{FieldWord}
use Rattle.fir_parse.specs.declared.words.FieldWord.TheVariants as memory
use Rattle.fir_parse.specs.Lexemes.{Lexeme, Terminal, word, line_end, level_opens, level_closes}
use Rattle.fir_parse.specs.working.Words.{field_word_of, under_write_of}
use Rattle.fir_parse.specs.working.States.{Step, takes, without, refuses, unsupported}
use Rattle.fir_parse.specs.working.MemoryRules.{by_field_word, memory_field_step, memory_body_step, then_fields, more_memory_fields_step, more_names_step, under_write, under_write_step}
use Rattle.fir_parse.proofs.Guards.{unlimited, loosened}
use Rattle.fir_parse.proofs.Keeping.{at, elsewhere, optional, Keeps, always, keeps_taken}

keeps_by_field_word : (t : Terminal) (f : FieldWord) (d : ℕ) (p : Place) → Keeps (always unlimited) elsewhere t (by_field_word f d p)
keeps_by_field_word t memory.DataType d p = λ k after. (λ q. (λ x. (λ r. loosened r _ (after _), refl), tt), tt)
keeps_by_field_word t memory.Depth d p = λ k after. (λ q. (λ n. (λ r. loosened r _ (after _), tt), tt), tt)
keeps_by_field_word t memory.ReadLatency d p = λ k after. (λ q. (λ n. (λ r. loosened r _ (after _), tt), tt), tt)
keeps_by_field_word t memory.WriteLatency d p = λ k after. (λ q. (λ n. (λ r. loosened r _ (after _), tt), tt), tt)
keeps_by_field_word t memory.Reader d p = λ k after. (λ q. (λ n. (λ ns. after _, refl), tt), tt)
keeps_by_field_word t memory.Writer d p = λ k after. (λ q. (λ n. (λ ns. after _, refl), tt), tt)
keeps_by_field_word t memory.Readwriter d p = λ k after. (λ q. (λ n. (λ ns. after _, refl), tt), tt)
keeps_by_field_word t memory.ReadUnderWrite d p = λ k after. (λ q. (λ u. (λ r. loosened r _ (after _), tt), tt), tt)
keeps_by_field_word t memory.Name d p = tt

pub keeps_memory_field : (d : ℕ) (l : Lexeme) (p : Place) → Keeps (always unlimited) elsewhere (at l p) (memory_field_step d l p)
keeps_memory_field d l p = keeps_by_field_word (at l p) (field_word_of l) d p

pub keeps_memory_body : (d : ℕ) (l : Lexeme) (p : Place) → Keeps (always unlimited) optional (at l p) (memory_body_step d l)
keeps_memory_body d level_opens p = λ k after. (λ f. (λ fs. after _, tt), tt)
keeps_memory_body d _ p = (tt, refl)

keeps_then_fields : (d : ℕ) (t : Terminal) (u : Step MemoryPart) → Keeps (always unlimited) elsewhere t u → Keeps (always unlimited) elsewhere t (then_fields d u)
keeps_then_fields d t (takes g) keep = λ k after. keep _ (λ f. (λ fs. after _, tt))
keeps_then_fields d t (without f) keep = tt
keeps_then_fields d t refuses keep = tt
keeps_then_fields d t (unsupported p w) keep = keep

keeps_one_more : (d : ℕ) (l : Lexeme) (p : Place) → Keeps (always unlimited) elsewhere (at l p) (then_fields d (memory_field_step d l p))
keeps_one_more d l p = keeps_then_fields d (at l p) (memory_field_step d l p) (keeps_memory_field d l p)

pub keeps_more_memory_fields : (d : ℕ) (l : Lexeme) (p : Place) → Keeps (always unlimited) elsewhere (at l p) (more_memory_fields_step d l p)
keeps_more_memory_fields d level_closes p = keeps_taken elsewhere (at level_closes p) _
keeps_more_memory_fields d l p = keeps_one_more d l p

pub keeps_more_names : (l : Lexeme) (p : Place) → Keeps (always unlimited) elsewhere (at l p) (more_names_step l p)
keeps_more_names line_end p = keeps_taken elsewhere (at line_end p) _
keeps_more_names (word w) p = λ k after. (λ ns. after _, tt)
keeps_more_names _ p = tt

keeps_rule : (t : Terminal) (u : Option ReadUnderWrite) → Keeps (always unlimited) elsewhere t (under_write u)
keeps_rule t (Some u) = keeps_taken elsewhere t u
keeps_rule t None = tt

pub keeps_under_write : (l : Lexeme) (p : Place) → Keeps (always unlimited) elsewhere (at l p) (under_write_step l)
keeps_under_write (word w) p = keeps_rule (at (word w) p) (under_write_of w)
keeps_under_write _ p = tt
