-- The fields of a bundle, between its braces.
use Rattle.std.specs.Prelude.{ℕ, List, [], ◌++◌, codes}
use Rattle.fir_ast.specs.declared.types.Field.{Field, fold-Field}
use Rattle.fir_ast.specs.Types.{DataType, Fields, no_fields, field}
use Rattle.fir_ast.specs.working.TypeViews.{type_step, field_step}
use Rattle.fir_ast.specs.Texts.{flip_text, type_text, next_fields_text}

-- what a field puts before the fields behind it
abbrev pub field_of : Field → Fields → Fields
field_of = fold-Field DataType (Fields → Fields) type_step field_step

abbrev pub bundle_text : Fields → List ℕ
bundle_text no_fields = []
bundle_text (field place flip name begins t rest) = flip_text flip ++ name ++ codes ": " ++ type_text t ++ next_fields_text rest
