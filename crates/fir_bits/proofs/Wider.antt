-- Wider operands never give a narrower result.
use Rattle.std.proofs.Common.{ℕ, ◌≤◌, Bool, true, false, ◌&&◌, if◌then◌else◌, arith, nat_le}
use Rattle.std.proofs.lemmas.Bool.Decides.{nat_tests}
use Rattle.fir_bits.proofs.Powers.{pow_le}
use Rattle.fir_bits.specs.Widths.{width_of, counted_width}
use Rattle.fir_bits.specs.declared.operators.PrimOp.{PrimOp}
use Rattle.fir_bits.specs.declared.operators.PrimOp.TheVariants.{Div, Cvt, Dshl}

-- the width of each result
pub width_of-le : (op : PrimOp) (signed : Bool) (w v n m wider_w wider_v : ℕ) → w ≤ wider_w → v ≤ wider_v → width_of op signed w v n m ≤ width_of op signed wider_w wider_v n m
width_of-le Div true w v n m wider_w wider_v h k = omega arith
width_of-le Div false w v n m wider_w wider_v h k = omega arith
width_of-le Dshl signed w v n m wider_w wider_v h k = omega (arith, pow_le v wider_v k)
width_of-le Cvt true w v n m wider_w wider_v h k = omega arith
width_of-le Cvt false w v n m wider_w wider_v h k = omega arith
width_of-le _ signed w v n m wider_w wider_v h k = omega arith

-- a width counts as 129 where a test is not passed
counted_le : (a b c x y z : ℕ) → a ≤ x → b ≤ y → c ≤ z → (if nat_le a 128 && nat_le b 128 && nat_le c 128 then c else 129) ≤ (if nat_le x 128 && nat_le y 128 && nat_le z 128 then z else 129)
counted_le a b c x y z h k l = grind (arith, nat_tests)

-- and so with the widths that count as 129
pub counted_width-le : (op : PrimOp) (signed : Bool) (w v n m wider_w wider_v : ℕ) → w ≤ wider_w → v ≤ wider_v → counted_width op signed w v n m ≤ counted_width op signed wider_w wider_v n m
counted_width-le op signed w v n m wider_w wider_v h k =
    counted_le w v (width_of op signed w v n m) wider_w wider_v (width_of op signed wider_w wider_v n m) h k (width_of-le op signed w v n m wider_w wider_v h k)
