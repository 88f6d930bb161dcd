-- Fields as data, from what each of them puts before those behind it.
use Rattle.std.specs.Prelude.{List, [], ◌∷◌}
use Rattle.fir_ast.specs.Types.{Fields, no_fields}

-- a field is what it puts before the fields behind it
abbrev pub fields_of : List (Fields → Fields) → Fields
fields_of [] = no_fields
fields_of (f ∷ fs) = f (fields_of fs)
