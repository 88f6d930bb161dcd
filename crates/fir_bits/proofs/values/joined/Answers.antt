use Rattle.std.proofs.Common.{◌≡◌, arith}
use Rattle.fir_bits.proofs.Powers.{pow_le}
use Rattle.fir_bits.proofs.Masks.{or_joined}
use Rattle.fir_bits.proofs.values.joined.Goals as goal

pub returns-then-by-eq128 : goal.returns-then-by-eq128
returns-then-by-eq128 c =
    let none : c.args.a.now.value.number ≡ 0 = omega (arith, pow_le c.args.a.now.value.width 0 (omega arith)) in
    rw none (omega arith)

pub returns-else-by-eq128 : goal.returns-else-by-eq128
returns-else-by-eq128 c =
    let a = c.args.a.now.value in
    let b = c.args.b.now.value in
    rw (c.bits-high.ensures.value, c.bits-low.ensures.value, c.width-by.ensures.value)
    (or_joined a.number b.number a.width b.width (omega arith) (omega arith) c.requires)
