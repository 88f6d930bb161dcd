-- The operands and integers that each primitive operation takes.
-- FIRRTL spec, "Primitive Operations": operands of one signedness, a shift amount that is a UInt, and integers, as many as the operation has.
use Rattle.std.specs.Prelude.{ℕ, Bool, true, false, not, ◌&&◌, ◌==◌, List, length, slice_index_or}
use Rattle.std.specs.Bool.{beq}
use Rattle.fir_bits.specs.declared.operators.PrimOp.{PrimOp}
use Rattle.fir_bits.specs.declared.operators.PrimOp.TheVariants.{Add, Sub, Mul, Div, Rem, Lt, Leq, Gt, Geq, Eq, Neq, Pad, Shl, Shr, Dshl, Dshr, Cvt, Neg, Not, And, Or, Xor, Andr, Orr, Xorr, Cat, Bits, Head, Tail, AsUInt, AsSInt, AsAsyncReset}
use Rattle.fir_bits.specs.declared.operators.Form.{Form}
use Rattle.fir_bits.specs.declared.operators.Form.TheVariants.{Pair, Shift, Single, WithInteger, WithRange}
use Rattle.fir_bits.specs.declared.types.NumTy.{NumTy}

-- what each operation takes
abbrev pub form_of : PrimOp → Form
form_of Add = Pair
form_of Sub = Pair
form_of Mul = Pair
form_of Div = Pair
form_of Rem = Pair
form_of Lt = Pair
form_of Leq = Pair
form_of Gt = Pair
form_of Geq = Pair
form_of Eq = Pair
form_of Neq = Pair
form_of Pad = WithInteger
form_of Shl = WithInteger
form_of Shr = WithInteger
form_of Dshl = Shift
form_of Dshr = Shift
form_of Cvt = Single
form_of Neg = Single
form_of Not = Single
form_of And = Pair
form_of Or = Pair
form_of Xor = Pair
form_of Andr = Single
form_of Orr = Single
form_of Xorr = Single
form_of Cat = Pair
form_of Bits = WithRange
form_of Head = WithInteger
form_of Tail = WithInteger
form_of AsUInt = Single
form_of AsSInt = Single
form_of AsAsyncReset = Single

-- how many operands and how many integers each form has
abbrev pub operands : Form → ℕ
operands Pair = 2
operands Shift = 2
operands Single = 1
operands WithInteger = 1
operands WithRange = 1

abbrev pub integers : Form → ℕ
integers Pair = 0
integers Shift = 0
integers Single = 0
integers WithInteger = 1
integers WithRange = 2

-- whether so many operands and integers are those of the form
abbrev pub has_counts : Form → ℕ → ℕ → Bool
has_counts form m n = (m == operands form) && (n == integers form)

-- the type of an operand that is not there: a UInt of no bits
abbrev pub no_type : NumTy
no_type = record { signed = false; width = 0 }

-- the types of the first two operands
abbrev pub first_type : List NumTy → NumTy
first_type args = slice_index_or args 0 no_type

abbrev pub second_type : List NumTy → NumTy
second_type args = slice_index_or args 1 no_type

-- whether operands of these types are of the form's kinds
abbrev pub has_kinds : Form → List NumTy → Bool
has_kinds Pair args = beq (first_type args).signed (second_type args).signed
has_kinds Shift args = not (second_type args).signed
has_kinds _ args = true

-- whether the operands and integers are those of the form
abbrev pub takes : Form → List NumTy → List ℕ → Bool
takes form args consts = has_counts form (length args) (length consts) && has_kinds form args
