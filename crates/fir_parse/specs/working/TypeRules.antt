-- Types (FIRRTL spec, "Types"):
--   type = ( ("UInt" | "SInt") [ "<" int ">" ] | "Clock" | "Reset" | "AsyncReset" | "{" [ part { "," part } ] "}" ) { "[" int "]" }
--   part = [ "flip" ] fieldname ":" type
use Rattle.std.specs.Prelude.{ℕ, ◌+◌, List, Bool, true, false, Option, Some, None, codes, if◌then◌else◌}
use Rattle.std.specs.Str.{bytes_eq}
use Rattle.fir_ast.specs.declared.place.Place.{Place}
use Rattle.fir_ast.specs.Types.{DataType, uint, sint, clock, reset, async_reset, bundle, vector, no_fields, field}
use Rattle.fir_parse.specs.declared.lexeme.Mark.TheVariants.{Less, Greater, OpenSquare, CloseSquare, OpenCurly, CloseCurly, Comma, Colon}
use Rattle.fir_parse.specs.declared.words.TypeWord.{TypeWord}
use Rattle.fir_parse.specs.declared.words.TypeWord.TheVariants as types
use Rattle.fir_parse.specs.Lexemes.{Lexeme, word, mark, integer}
use Rattle.fir_parse.specs.working.Words.{type_word_of}
use Rattle.fir_parse.specs.Numbers.{has_sign}
use Rattle.fir_parse.specs.Heights.{type_height}
use Rattle.fir_parse.specs.working.Symbols.{TypeTree, FieldsTree, FieldTree, a_mark, a_natural, a_type, a_width, dimensions, fields, more_fields, a_field, behind_flip}
use Rattle.fir_parse.specs.working.States.{State, wants, Step, takes, without, refuses, unsupported, opens, ends_form}

abbrev pub type_at : Place → DataType → TypeTree
type_at p t = record { place = p; data_type = t }

abbrev pub ground : ℕ → DataType → Step DataType
ground d t = takes (λ k. wants (dimensions d t) k)

abbrev pub by_type_word : TypeWord → ℕ → Place → List ℕ → Step DataType
by_type_word types.UInt d p w = takes (λ k. wants a_width (λ n. wants (dimensions d (uint n)) k))
by_type_word types.SInt d p w = takes (λ k. wants a_width (λ n. wants (dimensions d (sint n)) k))
by_type_word types.Clock d p w = ground d clock
by_type_word types.Reset d p w = ground d reset
by_type_word types.AsyncReset d p w = ground d async_reset
by_type_word types.Missing d p w = unsupported p w
by_type_word types.Name d p w = refuses

abbrev pub type_step : ℕ → Lexeme → Place → Step DataType
type_step d (word w) p = by_type_word (type_word_of w) d p w
type_step d (mark OpenCurly) p =
    takes (λ k. opens d p (wants (fields (d + 1)) (λ fs. ends_form (type_height (bundle fs.fields)) fs.close (wants (dimensions d (bundle fs.fields)) k))))
type_step d _ p = refuses

-- "<" int ">", or none
abbrev pub width_step : Lexeme → Step (Option ℕ)
width_step (mark Less) = takes (λ k. wants a_natural (λ n. wants (a_mark Greater) (λ q. k (Some n.number))))
width_step _ = without None

-- { "[" int "]" } behind a type
abbrev pub dimensions_step : ℕ → DataType → Lexeme → Place → Step DataType
dimensions_step d t (mark OpenSquare) p =
    takes (λ k. opens d p (wants a_natural (λ n. wants (a_mark CloseSquare) (λ q. ends_form (type_height (vector t n.number)) q (wants (dimensions d (vector t n.number)) k)))))
dimensions_step d t _ p = without t

abbrev pub with_field : FieldTree → FieldsTree → FieldsTree
with_field f fs = record { fields = field f.place f.flip f.name f.type_place f.data_type fs.fields; close = fs.close }

-- one field more of a bundle, with the token that begins it
abbrev pub then_more : ℕ → Step FieldTree → Step FieldsTree
then_more d (takes g) = takes (λ k. g (λ f. wants (more_fields d) (λ fs. k (with_field f fs))))
then_more d (without f) = refuses
then_more d refuses = refuses
then_more d (unsupported p w) = unsupported p w

-- behind a field's name
abbrev pub field_rest : ℕ → Place → Bool → List ℕ → (FieldTree → State) → State
field_rest d p flip w k = wants (a_mark Colon) (λ q. wants (a_type d) (λ t. k (record { place = p; flip = flip; name = w; type_place = t.place; data_type = t.data_type })))

abbrev pub field_behind_name : ℕ → Place → Bool → List ℕ → Step FieldTree
field_behind_name d p flip w = takes (λ k. field_rest d p flip w k)

abbrev pub field_step : ℕ → Lexeme → Place → Step FieldTree
field_step d (word w) p = if bytes_eq w (codes "flip") then takes (λ k. wants (behind_flip d p) k) else field_behind_name d p false w
field_step d (integer s) p = if has_sign s then refuses else field_behind_name d p false s
field_step d _ p = refuses

-- before a colon `flip` is a name
abbrev pub flip_step : ℕ → Place → Lexeme → Place → Step FieldTree
flip_step d p (mark Colon) q = takes (λ k. wants (a_type d) (λ t. k (record { place = p; flip = false; name = codes "flip"; type_place = t.place; data_type = t.data_type })))
flip_step d p (word w) q = field_behind_name d q true w
flip_step d p (integer s) q = if has_sign s then refuses else field_behind_name d q true s
flip_step d p _ q = refuses

abbrev pub fields_step : ℕ → Lexeme → Place → Step FieldsTree
fields_step d (mark CloseCurly) p = takes (λ k. k (record { fields = no_fields; close = p }))
fields_step d l p = then_more d (field_step d l p)

abbrev pub more_fields_step : ℕ → Lexeme → Place → Step FieldsTree
more_fields_step d (mark CloseCurly) p = takes (λ k. k (record { fields = no_fields; close = p }))
more_fields_step d (mark Comma) p = takes (λ k. wants (a_field d) (λ f. wants (more_fields d) (λ fs. k (with_field f fs))))
more_fields_step d _ p = refuses
