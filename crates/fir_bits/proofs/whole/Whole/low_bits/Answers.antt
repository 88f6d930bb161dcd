use Rattle.std.proofs.Common.{Bool, ap, sym, ◌∙◌}
use Rattle.fir_bits.specs.Integers.{bits_of, of_sign}
use Rattle.fir_bits.proofs.Masks.{bits_of-negative, bits_of-not_negative}
use Rattle.fir_bits.proofs.whole.Whole.low_bits.Goals as goal
use Rattle.fir_bits.proofs.whole.Whole.low_bits.Goals.{else-self-via-then-self+else-self-gt0, else-self-via-else-self}

pub returns-then-self-gt0 : goal.returns-then-self-gt0
returns-then-self-gt0 c =
    let value_is = ap (λ (b : Bool). of_sign b c.self.inside.magnitude) (sym c.if-self.true) ∙ c.self.view_is in
    bits_of-negative c.args.width c.mask-greatest.result c.self.inside.magnitude c.mask-greatest.ensures c.if-self-gt0.true
    ∙ ap (bits_of c.args.width) value_is

pub returns-else-self : goal.returns-else-self
returns-else-self c =
    bits_of-not_negative c.args.width c.mask-greatest.result c.self.inside.negative c.self.inside.magnitude c.mask-greatest.ensures c.else-self.either
    ∙ ap (bits_of c.args.width) c.self.view_is
