-- Types of what may not be there (FIRRTL spec, "Types").
-- What has no type has no leaves. A leaf that is not there is a number of the type and width that are written, of no bits where no width is.
use Rattle.std.specs.Prelude.{true, false, unwrap_or, Option, Some, None, List, []}
use Rattle.fir_bits.specs.declared.types.NumTy.{NumTy}
use Rattle.fir_ast.specs.Types.{DataType, bundle, no_fields, uint, sint, reset, async_reset}
use Rattle.fir_meaning.specs.TypeLeaves.{TypeLeaf, type_leaves}

abbrev pub no_leaves : DataType
no_leaves = bundle no_fields

-- the type of a leaf that is not there: with the width that is written, or of no bits; a reset has one
abbrev pub absent_type : DataType → NumTy
absent_type (uint width) = record { signed = false; width = unwrap_or width 0 }
absent_type (sint width) = record { signed = true; width = unwrap_or width 0 }
absent_type reset = record { signed = false; width = 1 }
absent_type async_reset = record { signed = false; width = 1 }
absent_type t = record { signed = false; width = 0 }

abbrev pub type_where : Option DataType → DataType
type_where None = no_leaves
type_where (Some t) = t

abbrev pub leaves_of_data : Option DataType → List TypeLeaf
leaves_of_data None = []
leaves_of_data (Some t) = type_leaves t
