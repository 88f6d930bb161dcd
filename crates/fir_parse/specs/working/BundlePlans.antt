-- What stands between the braces of a bundle, field by field.
use Rattle.std.specs.Prelude.{ℕ, List, Option, Some, None}
use Rattle.fir_ast.specs.declared.place.Place.{Place}
use Rattle.fir_ast.specs.Types.{Fields, no_fields}
use Rattle.fir_parse.specs.working.Symbols.{FieldsTree, a_field, more_fields}
use Rattle.fir_parse.specs.working.States.{wants}
use Rattle.fir_parse.specs.working.TypeRules.{with_field}
use Rattle.fir_parse.specs.working.Reads.{Plan}
use Rattle.fir_parse.specs.working.Trees.{onto}

-- a field, and what is behind it
abbrev pub some_fields : ℕ → Plan FieldsTree
some_fields d k = wants (a_field d) (λ f. wants (more_fields d) (λ fs. k (with_field f fs)))

-- behind a comma there is one field more, and behind the closing brace, at its place, none
abbrev pub behind_field : ℕ → Option Place → Plan FieldsTree
behind_field d None = some_fields d
behind_field d (Some p) = λ k. k (record { fields = no_fields; close = p })

-- fields before those behind them
abbrev pub before : List (Fields → Fields) → FieldsTree → FieldsTree
before fs rest = record { fields = onto fs rest.fields; close = rest.close }
