-- The type of the result of each primitive operation, or the fault, from the types of the operands and the integers.
-- FIRRTL spec, "Primitive Operations".
use Rattle.std.specs.Prelude.{ℕ, not, if◌then◌else◌, List, slice_index, Result, Ok, Err}
use Rattle.fir_bits.specs.Forms.{form_of, takes, first_type, second_type}
use Rattle.fir_bits.specs.Widths.{width_of, is_narrow}
use Rattle.fir_bits.specs.declared.operators.PrimOp.{PrimOp}
use Rattle.fir_bits.specs.declared.types.NumTy.{NumTy}
use Rattle.fir_bits.specs.declared.types.OpFault.{OpFault}
use Rattle.fir_bits.specs.declared.types.OpFault.TheVariants.{Kinds, Over, Legality}
use Rattle.fir_bits.specs.Types.{signed_of, is_legal}

-- the type where the kinds are those of the operation, from its operands and integers
abbrev pub typed_at : PrimOp → NumTy → NumTy → ℕ → ℕ → Result NumTy OpFault
typed_at op a b n m =
    if not (is_narrow op a.signed a.width b.width n m) then Err Over
    else if not (is_legal op a.width n m) then Err Legality
    else Ok (record { signed = signed_of op a.signed; width = width_of op a.signed a.width b.width n m })

-- the type of the result: the kinds come first, then the widths, then what the integers may be
abbrev pub typed : PrimOp → List NumTy → List ℕ → Result NumTy OpFault
typed op args consts =
    if not (takes (form_of op) args consts) then Err Kinds
    else typed_at op (first_type args) (second_type args) (slice_index consts 0) (slice_index consts 1)
