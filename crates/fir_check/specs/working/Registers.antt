-- The faults of a reset, condition and init apart, and which sorts may reset.
use Rattle.std.specs.Prelude.{List, Bool, true, false}
use Rattle.fir_ast.specs.Types.{DataType}
use Rattle.fir_ast.specs.Expressions.{Expression}
use Rattle.fir_ast.specs.Faults.{Fault}
use Rattle.fir_meaning.specs.Checked.{after}
use Rattle.fir_meaning.specs.ExpressionPlaces.{place_of}
use Rattle.fir_meaning.specs.TypedScopes.{TypedScope}
use Rattle.fir_meaning.specs.ExpressionTypes.{expression_type}
use Rattle.fir_meaning.specs.TypeGroup.{reset_at, init_at}
use Rattle.fir_types.specs.declared.sort.Sort.{Sort}
use Rattle.fir_types.specs.declared.sort.Sort.TheVariants as sort

abbrev pub condition_faults : TypedScope → Expression → List Fault
condition_faults typed e = (after (expression_type typed e) (reset_at (place_of e))).shows

abbrev pub init_faults : TypedScope → DataType → Expression → List Fault
init_faults typed t e = (after (expression_type typed e) (init_at (place_of e) t)).shows

abbrev pub may_reset : Sort → Bool
may_reset sort.UInt = true
may_reset sort.Reset = true
may_reset sort.AsyncReset = true
may_reset _ = false
