use Rattle.std.proofs.Common.{ℕ, ◌^◌, ◌%◌, ap, ◌∙◌}
use Rattle.fir_bits.specs.Values.{BitVector}
use Rattle.fir_bits.proofs.Masks.{and_greatest}
use Rattle.fir_bits.proofs.bits.Bits.cut.Goals as goal

pub returns : goal.returns
returns c =
    let with_number : ℕ → BitVector = λ n. record { width = c.args.to; number = n } in
    let number_is = ap (λ (v : BitVector). v.number % 2 ^ c.args.to) c.self.view_is in
    ap with_number (and_greatest c.args.to c.mask.result c.self.inside.bits c.mask.ensures ∙ number_is)
