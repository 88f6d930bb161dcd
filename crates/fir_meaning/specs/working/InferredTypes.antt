-- The type of a node without the widths that are found anew: all but those below vectors of length 0, where no leaf stands (FIRRTL spec, "Nodes",
-- "Width Inference").
use Rattle.std.specs.Prelude.{◌==◌, if◌then◌else◌}
use Rattle.fir_ast.specs.Types.{DataType, bundle, vector, Fields, no_fields, field}
use Rattle.fir_meaning.specs.TypeKinds.{bare}

abbrev mutual
  pub inferred : DataType → DataType
  inferred (bundle fs) = bundle (inferred_fields fs)
  inferred (vector t n) = vector (if n == 0 then t else inferred t) n
  inferred t = bare t

  pub inferred_fields : Fields → Fields
  inferred_fields no_fields = no_fields
  inferred_fields (field p flip x begins t rest) = field p flip x begins (inferred t) (inferred_fields rest)
