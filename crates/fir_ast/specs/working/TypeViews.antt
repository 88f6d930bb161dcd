-- The plain data that a type of the code stands for.
use Rattle.std.specs.Prelude.{List}
use Rattle.fir_ast.specs.declared.types.Ty.{Ty, fold-Ty}
use Rattle.fir_ast.specs.declared.types.Ty.TheOpen.{Ty-F, Field-F}
use Rattle.fir_ast.specs.Types.{DataType, uint, sint, clock, reset, async_reset, bundle, vector, Fields, field}
use Rattle.fir_ast.specs.View.{fields_of}

abbrev pub type_step : Ty-F DataType (Fields → Fields) → DataType
type_step (Ty-F.UInt w) = uint w
type_step (Ty-F.SInt w) = sint w
type_step Ty-F.Clock = clock
type_step Ty-F.Reset = reset
type_step Ty-F.AsyncReset = async_reset
type_step (Ty-F.Bundle fs) = bundle (fields_of fs.items)
type_step (Ty-F.Vector t n) = vector t.value n

abbrev pub field_step : Field-F DataType (Fields → Fields) → Fields → Fields
field_step f rest = field f.place f.flip f.name f.type_place f.ty rest

abbrev pub type_of : Ty → DataType
type_of = fold-Ty DataType (Fields → Fields) type_step field_step
