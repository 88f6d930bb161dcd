-- What the code has of an expression: its type, and the number of its first leaf.
use Rattle.std.specs.Prelude.{◌≡◌, List}
use Rattle.fir_ast.specs.Types.{DataType}
use Rattle.fir_meaning.specs.TypeKinds.{bare}
use Rattle.fir_meaning.specs.WidthExpressions.{Width}
use Rattle.fir_meaning.specs.SizedTypes.{Sized, bare_type}
use Rattle.fir_types.specs.working.Seen.{found_type}
use Rattle.fir_width.specs.declared.side.Side.{Side}
use Rattle.fir_width.specs.working.FlatWidths.{flat}
use Rattle.fir_width.specs.working.StandingWidths.{Stands}

-- the type is that of the sized type, whose leaves stand from the number on
pub record IsSide (ts : List DataType) (meant : List Width) (side : Side) (s : Sized) : Type 0 where
  pub shape : bare_type s ≡ bare (found_type ts side.found)
  pub stands : Stands meant side.first (flat s)
