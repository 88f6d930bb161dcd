-- The number of each result is below two to the power of its width.
use Rattle.std.proofs.Common.{◌≡◌, ℕ, ◌+◌, ◌-◌, ◌*◌, ◌/◌, ◌^◌, ◌<◌, ◌≤◌, Bool, true, false, max, arith, lit<, ℤ, pos, negsuc, if◌then◌else◌, ◌&&◌, IsTrue}
use Rattle.std.specs.Prelude.{count_ones}
use Rattle.std.proofs.lemmas.Nat.{pow_pos, mod_below, and_le_l, or_lt, xor_lt, mul-add-lt, pow-add, shr_below}
use Rattle.std.proofs.lemmas.Bool.{eqb-true}
use Rattle.fir_bits.proofs.Powers.{pow_le}
use Rattle.fir_bits.specs.Values.{IsBitVector, is_negative}
use Rattle.fir_bits.specs.Integers.{bits_of}
use Rattle.fir_bits.specs.Types.{is_legal}
use Rattle.fir_bits.specs.Operators.{flag, widened, applied_at}
use Rattle.fir_bits.specs.declared.operators.PrimOp.{PrimOp}
use Rattle.fir_bits.specs.declared.operators.PrimOp.TheVariants.{Add, Sub, Mul, Div, Rem, Lt, Leq, Gt, Geq, Eq, Neq, Pad, Shl, Shr, Dshl, Dshr, Cvt, Neg, Not, And, Or, Xor, Andr, Orr, Xorr, Cat, Bits, Head, Tail, AsUInt, AsSInt, AsAsyncReset}
use Rattle.fir_bits.specs.declared.values.Num.{Num}

-- the low bits of an integer
pub bits_of-below : (w : ℕ) (z : ℤ) → bits_of w z < 2 ^ w
bits_of-below w (pos n) = mod_below n (2 ^ w) (pow_pos w)
bits_of-below w (negsuc n) = omega (arith, pow_pos w)

-- a truth as one bit
pub flag_below : (b : Bool) → flag b < 2 ^ 1
flag_below true = lit< tt
flag_below false = lit< tt

-- a number filled with ones or zeros
filled_below : (b : Bool) (n w to : ℕ) → n < 2 ^ w → w ≤ to → (if b then n + (2 ^ to - 2 ^ w) else n) < 2 ^ to
filled_below true n w to below wider = omega (arith, pow_le w to wider)
filled_below false n w to below wider = omega (arith, pow_le w to wider)

-- an operand at a greater width
pub widened_below : (a : Num) (to : ℕ) → IsBitVector a.value → a.value.width ≤ to → widened a to < 2 ^ to
widened_below a to is wider =
    filled_below (a.signed && is_negative a.value.width a.value.number) a.value.number a.value.width to is.below wider

-- two values side by side
pub joined_below : (a b w v : ℕ) → a < 2 ^ w → b < 2 ^ v → a * 2 ^ v + b < 2 ^ (w + v)
joined_below a b w v h k = omega (arith, mul-add-lt a (2 ^ v) b (2 ^ w) h k, pow-add 2 w v)

-- the high n bits of w
high_below : (a w n : ℕ) → a < 2 ^ w → a / 2 ^ (w - n) < 2 ^ n
high_below a w n h = shr_below a n (w - n) (omega (arith, h, pow_le w (n + (w - n)) (omega arith)))

-- the number of each result
pub number_below : (op : PrimOp) (a b : Num) (n m : ℕ) → IsBitVector a.value → IsBitVector b.value → IsTrue (is_legal op a.value.width n m) → (applied_at op a b n m).number < 2 ^ (applied_at op a b n m).width
number_below Add a b n m is_a is_b legal = bits_of-below _ _
number_below Sub a b n m is_a is_b legal = bits_of-below _ _
number_below Mul a b n m is_a is_b legal = bits_of-below _ _
number_below Div a b n m is_a is_b legal = bits_of-below _ _
number_below Rem a b n m is_a is_b legal = bits_of-below _ _
number_below Lt a b n m is_a is_b legal = flag_below _
number_below Leq a b n m is_a is_b legal = flag_below _
number_below Gt a b n m is_a is_b legal = flag_below _
number_below Geq a b n m is_a is_b legal = flag_below _
number_below Eq a b n m is_a is_b legal = flag_below _
number_below Neq a b n m is_a is_b legal = flag_below _
number_below Pad a b n m is_a is_b legal = widened_below a _ is_a (omega arith)
number_below Shl a b n m is_a is_b legal = bits_of-below _ _
number_below Shr a b n m is_a is_b legal = bits_of-below _ _
number_below Dshl a b n m is_a is_b legal = bits_of-below _ _
number_below Dshr a b n m is_a is_b legal = bits_of-below _ _
number_below Cvt a b n m is_a is_b legal = bits_of-below _ _
number_below Neg a b n m is_a is_b legal = bits_of-below _ _
number_below Not a b n m is_a is_b legal = omega (arith, pow_pos a.value.width)
number_below And a b n m is_a is_b legal = omega (arith, and_le_l (widened a (max a.value.width b.value.width)) (widened b (max a.value.width b.value.width)), widened_below a (max a.value.width b.value.width) is_a (omega arith))
number_below Or a b n m is_a is_b legal = or_lt _ _ _ (widened_below a _ is_a (omega arith)) (widened_below b _ is_b (omega arith))
number_below Xor a b n m is_a is_b legal = xor_lt _ _ _ (widened_below a _ is_a (omega arith)) (widened_below b _ is_b (omega arith))
number_below Andr a b n m is_a is_b legal = flag_below _
number_below Orr a b n m is_a is_b legal = flag_below _
number_below Xorr a b n m is_a is_b legal = mod_below (count_ones a.value.number) 2 (lit< tt)
number_below Cat a b n m is_a is_b legal = joined_below a.value.number b.value.number a.value.width b.value.width is_a.below is_b.below
number_below Bits a b n m is_a is_b legal = mod_below _ _ (pow_pos (n + 1 - m))
number_below Head a b n m is_a is_b legal = high_below a.value.number a.value.width n is_a.below
number_below Tail a b n m is_a is_b legal = mod_below _ _ (pow_pos (a.value.width - n))
number_below AsUInt a b n m is_a is_b legal = is_a.below
number_below AsSInt a b n m is_a is_b legal = is_a.below
number_below AsAsyncReset a b n m is_a is_b legal = let one : a.value.width ≡ 1 = eqb-true _ _ legal in rw one at is_a.below
