-- The type of an operation, without a width, or E12 (FIRRTL spec, "Primitive Operations").
-- Operands are UInt or SInt, and for the conversions resets too, which count as a UInt.
use Rattle.std.specs.Prelude.{ℕ, List, [], ◌∷◌, Bool, true, false, if◌then◌else◌, Option, Some, None, Result, Ok, Err}
use Rattle.fir_bits.specs.declared.operators.PrimOp.{PrimOp}
use Rattle.fir_bits.specs.declared.operators.PrimOp.TheVariants.{AsUInt, AsSInt, AsAsyncReset}
use Rattle.fir_bits.specs.declared.types.NumTy.{NumTy}
use Rattle.fir_bits.specs.Forms.{form_of, takes, first_type}
use Rattle.fir_bits.specs.Types.{signed_of}
use Rattle.fir_ast.specs.declared.place.Place.{Place}
use Rattle.fir_ast.specs.Types.{DataType, uint, sint, reset, async_reset}
use Rattle.fir_ast.specs.Faults.{Fault}
use Rattle.fir_meaning.specs.KindFaults.{wrong_kinds}
use Rattle.fir_meaning.specs.Checked.{joined}

abbrev pub is_conversion : PrimOp → Bool
is_conversion AsUInt = true
is_conversion AsSInt = true
is_conversion AsAsyncReset = true
is_conversion _ = false

abbrev pub type_of_sign : Bool → NumTy
type_of_sign signed = record { signed = signed; width = 0 }

-- an operand's signedness, where its kind may stand there
abbrev pub operand_kind : Bool → DataType → Option NumTy
operand_kind resets (uint width) = Some (type_of_sign false)
operand_kind resets (sint width) = Some (type_of_sign true)
operand_kind true reset = Some (type_of_sign false)
operand_kind true async_reset = Some (type_of_sign false)
operand_kind _ _ = None

abbrev pub operand_kinds : Bool → List DataType → Option (List NumTy)
operand_kinds resets [] = Some []
operand_kinds resets (t ∷ ts) = joined (λ s ss. s ∷ ss) (operand_kind resets t) (operand_kinds resets ts)

abbrev pub ground_of : Bool → DataType
ground_of true = sint None
ground_of false = uint None

abbrev pub result_of : PrimOp → List NumTy → DataType
result_of AsAsyncReset kinds = async_reset
result_of op kinds = ground_of (signed_of op (first_type kinds).signed)

abbrev pub operation_on : Place → PrimOp → List ℕ → List DataType → Option (List NumTy) → Result DataType Fault
operation_on p op integers ts None = Err (wrong_kinds p ts)
operation_on p op integers ts (Some kinds) = if takes (form_of op) kinds integers then Ok (result_of op kinds) else Err (wrong_kinds p ts)

abbrev pub type_of_operation : Place → PrimOp → List ℕ → List DataType → Result DataType Fault
type_of_operation p op integers ts = operation_on p op integers ts (operand_kinds (is_conversion op) ts)
