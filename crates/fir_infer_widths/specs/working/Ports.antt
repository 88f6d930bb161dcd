-- The bundle of a memory's ports.
use Rattle.std.specs.Prelude.{Bool, true, false}
use Rattle.fir_ast.specs.Types.{DataType, bundle, field}

abbrev pub has_fields : DataType → Bool
has_fields (bundle (field p flip x begins t rest)) = true
has_fields _ = false
