use Rattle.std.proofs.Common.{arith, ap}
use Rattle.fir_bits.specs.Values.{BitVector}
use Rattle.fir_bits.proofs.Powers.{pow_le}
use Rattle.fir_bits.proofs.bits.Bits.extend.Goals as goal
use Rattle.fir_bits.proofs.bits.Bits.extend.Goals.{then-signed+then-self-greatest, else-signed}

pub overflow_sub-bits : goal.overflow_sub-bits
overflow_sub-bits c =
    let width_is = ap (λ (v : BitVector). v.width) c.self.view_is in
    omega (arith, pow_le c.self.inside.width c.args.to (omega arith))

pub invariant_of-result : goal.invariant_of-result
invariant_of-result c =
    let width_is = ap (λ (v : BitVector). v.width) c.self.view_is in
    let powers = pow_le c.self.inside.width c.args.to (omega arith) in
    record {
      narrow = c.requires.narrow;
      below = elim c.if-signed.branch [ then-signed+then-self-greatest w ↦ omega arith | else-signed w ↦ omega arith ];
    }
