-- The types of operands (FIRRTL spec, "Primitive Operations").
use Rattle.fir_bits.specs.declared.types.NumTy.{NumTy}
use Rattle.fir_bits.specs.declared.values.Num.{Num}

-- the type of an operand
abbrev pub type_of : Num → NumTy
type_of a = record { signed = a.signed; width = a.value.width }
