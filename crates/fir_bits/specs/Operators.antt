-- The value of each primitive operation, from the result's width r, the operands a and b and the integers n and m.
-- FIRRTL spec, "Primitive Operations". Arithmetic is that of the integers that the operands stand for, and its result is the integer's low r bits.
use Rattle.std.specs.Prelude.{ℕ, ◌+◌, ◌-◌, ◌*◌, ◌/◌, ◌%◌, ◌^◌, Bool, false, not, if◌then◌else◌, ◌==◌, List, slice_index, slice_index_or, ℤ, pos, ◌+ℤ◌, ◌-ℤ◌, ◌*ℤ◌, neg_ℤ, int_lt, int_le, bit_and, bit_or, bit_xor, count_ones}
use Rattle.std.specs.Ordering.{int_eq}
use Rattle.fir_bits.specs.Values.{BitVector, complement, extended, low_bits}
use Rattle.fir_bits.specs.Integers.{reading, bits_of, quotient, remainder, shifted_down}
use Rattle.fir_bits.specs.Widths.{width_of}
use Rattle.fir_bits.specs.Types.{signed_of}
use Rattle.fir_bits.specs.declared.operators.PrimOp.{PrimOp}
use Rattle.fir_bits.specs.declared.operators.PrimOp.TheVariants.{Add, Sub, Mul, Div, Rem, Lt, Leq, Gt, Geq, Eq, Neq, Pad, Shl, Shr, Dshl, Dshr, Cvt, Neg, Not, And, Or, Xor, Andr, Orr, Xorr, Cat, Bits, Head, Tail, AsUInt, AsSInt, AsAsyncReset}
use Rattle.fir_bits.specs.declared.values.Num.{Num}

-- the integer that an operand stands for
abbrev pub integer_of : Num → ℤ
integer_of a = reading a.signed a.value.width a.value.number

-- an operand at a width of at least its own
abbrev pub widened : Num → ℕ → ℕ
widened a to = extended a.signed a.value.width a.value.number to

-- a truth as one bit
abbrev pub flag : Bool → ℕ
flag b = if b then 1 else 0

-- the number of each result
abbrev pub operation_value : PrimOp → ℕ → Num → Num → ℕ → ℕ → ℕ
operation_value Add r a b n m = bits_of r (integer_of a +ℤ integer_of b)
operation_value Sub r a b n m = bits_of r (integer_of a -ℤ integer_of b)
operation_value Mul r a b n m = bits_of r (integer_of a *ℤ integer_of b)
operation_value Div r a b n m = bits_of r (quotient (integer_of a) (integer_of b))
operation_value Rem r a b n m = bits_of r (remainder (integer_of a) (integer_of b))
operation_value Lt r a b n m = flag (int_lt (integer_of a) (integer_of b))
operation_value Leq r a b n m = flag (int_le (integer_of a) (integer_of b))
operation_value Gt r a b n m = flag (int_lt (integer_of b) (integer_of a))
operation_value Geq r a b n m = flag (int_le (integer_of b) (integer_of a))
operation_value Eq r a b n m = flag (int_eq (integer_of a) (integer_of b))
operation_value Neq r a b n m = flag (not (int_eq (integer_of a) (integer_of b)))
operation_value Pad r a b n m = widened a r
operation_value Shl r a b n m = bits_of r (integer_of a *ℤ pos (2 ^ n))
operation_value Shr r a b n m = bits_of r (shifted_down (integer_of a) n)
operation_value Dshl r a b n m = bits_of r (integer_of a *ℤ pos (2 ^ b.value.number))
operation_value Dshr r a b n m = bits_of r (shifted_down (integer_of a) b.value.number)
operation_value Cvt r a b n m = bits_of r (integer_of a)
operation_value Neg r a b n m = bits_of r (neg_ℤ (integer_of a))
operation_value Not r a b n m = complement a.value.width a.value.number
operation_value And r a b n m = bit_and (widened a r) (widened b r)
operation_value Or r a b n m = bit_or (widened a r) (widened b r)
operation_value Xor r a b n m = bit_xor (widened a r) (widened b r)
operation_value Andr r a b n m = flag (a.value.number == 2 ^ a.value.width - 1)
operation_value Orr r a b n m = flag (not (a.value.number == 0))
operation_value Xorr r a b n m = count_ones a.value.number % 2
operation_value Cat r a b n m = a.value.number * 2 ^ b.value.width + b.value.number
operation_value Bits r a b n m = a.value.number / 2 ^ m % 2 ^ (n + 1 - m)
operation_value Head r a b n m = a.value.number / 2 ^ (a.value.width - n)
operation_value Tail r a b n m = low_bits (a.value.width - n) a.value.number
operation_value AsUInt r a b n m = a.value.number
operation_value AsSInt r a b n m = a.value.number
operation_value AsAsyncReset r a b n m = a.value.number

-- an operand that is not there: a UInt of no bits
abbrev pub no_operand : Num
no_operand = record { signed = false; value = record { width = 0; number = 0 } }

-- the first two operands
abbrev pub first_operand : List Num → Num
first_operand args = slice_index_or args 0 no_operand

abbrev pub second_operand : List Num → Num
second_operand args = slice_index_or args 1 no_operand

-- the result on two operands and two integers, of which the operation reads those that it has
abbrev pub applied_at : PrimOp → Num → Num → ℕ → ℕ → BitVector
applied_at op a b n m =
    let r = width_of op a.signed a.value.width b.value.width n m in
    record { width = r; number = operation_value op r a b n m }

-- the result on operands and integers
abbrev pub applied : PrimOp → List Num → List ℕ → BitVector
applied op args consts = applied_at op (first_operand args) (second_operand args) (slice_index consts 0) (slice_index consts 1)

-- the result with its kind
abbrev pub outcome : PrimOp → List Num → List ℕ → Num
outcome op args consts = record { signed = signed_of op (first_operand args).signed; value = applied op args consts }
