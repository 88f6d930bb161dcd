-- The result's width of each primitive operation, from the first operand's signedness and width w, the second one's width v and the integers n and m.
-- FIRRTL spec, "Primitive Operations". What is illegal has a width too: `tail` of more bits than there are has 0, `head` n, and `bits` n - m + 1, or 0 where m is above n.
use Rattle.std.specs.Prelude.{ℕ, ◌+◌, ◌-◌, ◌^◌, min, max, Bool, ◌&&◌, if◌then◌else◌, nat_le}
use Rattle.fir_bits.specs.declared.operators.PrimOp.{PrimOp}
use Rattle.fir_bits.specs.declared.operators.PrimOp.TheVariants.{Add, Sub, Mul, Div, Rem, Lt, Leq, Gt, Geq, Eq, Neq, Pad, Shl, Shr, Dshl, Dshr, Cvt, Neg, Not, And, Or, Xor, Andr, Orr, Xorr, Cat, Bits, Head, Tail, AsUInt, AsSInt, AsAsyncReset}

-- the width of each result
abbrev pub width_of : PrimOp → Bool → ℕ → ℕ → ℕ → ℕ → ℕ
width_of Add signed w v n m = max w v + 1
width_of Sub signed w v n m = max w v + 1
width_of Mul signed w v n m = w + v
width_of Div signed w v n m = if signed then w + 1 else w
width_of Rem signed w v n m = min w v
width_of Lt signed w v n m = 1
width_of Leq signed w v n m = 1
width_of Gt signed w v n m = 1
width_of Geq signed w v n m = 1
width_of Eq signed w v n m = 1
width_of Neq signed w v n m = 1
width_of Pad signed w v n m = max w n
width_of Shl signed w v n m = w + n
width_of Shr signed w v n m = max (w - n) 1
width_of Dshl signed w v n m = w + (2 ^ v - 1)
width_of Dshr signed w v n m = w
width_of Cvt signed w v n m = if signed then w else w + 1
width_of Neg signed w v n m = w + 1
width_of Not signed w v n m = w
width_of And signed w v n m = max w v
width_of Or signed w v n m = max w v
width_of Xor signed w v n m = max w v
width_of Andr signed w v n m = 1
width_of Orr signed w v n m = 1
width_of Xorr signed w v n m = 1
width_of Cat signed w v n m = w + v
width_of Bits signed w v n m = n + 1 - m
width_of Head signed w v n m = n
width_of Tail signed w v n m = w - n
width_of AsUInt signed w v n m = w
width_of AsSInt signed w v n m = w
width_of AsAsyncReset signed w v n m = 1

-- whether the operands and the result have at most 128 bits
abbrev pub is_narrow : PrimOp → Bool → ℕ → ℕ → ℕ → ℕ → Bool
is_narrow op signed w v n m = nat_le w 128 && nat_le v 128 && nat_le (width_of op signed w v n m) 128

-- the width for a least solution of widths, where all that is over 128 is one value above it
abbrev pub counted_width : PrimOp → Bool → ℕ → ℕ → ℕ → ℕ → ℕ
counted_width op signed w v n m = if is_narrow op signed w v n m then width_of op signed w v n m else 129
