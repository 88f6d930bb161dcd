use Rattle.std.proofs.Common.{Bool, ap, sym, ◌∙◌}
use Rattle.fir_bits.specs.Integers.{bits_of, of_sign}
use Rattle.fir_bits.proofs.Masks.{bits_of-negative, bits_of-not_negative}
use Rattle.ver_sim.proofs.signed.bits.Goals as goal

pub returns-then-x-gt0 : goal.returns-then-x-gt0
returns-then-x-gt0 c =
    bits_of-negative c.args.width c.mask-greatest.result c.args.x.magnitude c.mask-greatest.ensures c.if-x-gt0.true
    ∙ ap (λ (b : Bool). bits_of c.args.width (of_sign b c.args.x.magnitude)) (sym c.if-x.true)

pub returns-else-x : goal.returns-else-x
returns-else-x c = bits_of-not_negative c.args.width c.mask-greatest.result c.args.x.negative c.args.x.magnitude c.mask-greatest.ensures c.else-x.either
