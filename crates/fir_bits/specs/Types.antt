-- The type of the result of each primitive operation, or the fault.
-- FIRRTL spec, "Primitive Operations".
use Rattle.std.specs.Prelude.{ℕ, Bool, true, false, ◌&&◌, ◌==◌, nat_le, nat_lt}
use Rattle.fir_bits.specs.declared.operators.PrimOp.{PrimOp}
use Rattle.fir_bits.specs.declared.operators.PrimOp.TheVariants.{Add, Sub, Mul, Div, Rem, Lt, Leq, Gt, Geq, Eq, Neq, Pad, Shl, Shr, Dshl, Dshr, Cvt, Neg, Not, And, Or, Xor, Andr, Orr, Xorr, Cat, Bits, Head, Tail, AsUInt, AsSInt, AsAsyncReset}

-- whether the result is an SInt, from the first operand's signedness
abbrev pub signed_of : PrimOp → Bool → Bool
signed_of Add signed = signed
signed_of Sub signed = signed
signed_of Mul signed = signed
signed_of Div signed = signed
signed_of Rem signed = signed
signed_of Lt signed = false
signed_of Leq signed = false
signed_of Gt signed = false
signed_of Geq signed = false
signed_of Eq signed = false
signed_of Neq signed = false
signed_of Pad signed = signed
signed_of Shl signed = signed
signed_of Shr signed = signed
signed_of Dshl signed = signed
signed_of Dshr signed = signed
signed_of Cvt signed = true
signed_of Neg signed = true
signed_of Not signed = false
signed_of And signed = false
signed_of Or signed = false
signed_of Xor signed = false
signed_of Andr signed = false
signed_of Orr signed = false
signed_of Xorr signed = false
signed_of Cat signed = false
signed_of Bits signed = false
signed_of Head signed = false
signed_of Tail signed = false
signed_of AsUInt signed = false
signed_of AsSInt signed = true
signed_of AsAsyncReset signed = false

-- whether the integers fit the operand's width w
abbrev pub is_legal : PrimOp → ℕ → ℕ → ℕ → Bool
is_legal Bits w hi lo = nat_le lo hi && nat_lt hi w
is_legal Head w n m = nat_le n w
is_legal Tail w n m = nat_le n w
is_legal AsAsyncReset w n m = w == 1
is_legal _ w n m = true
