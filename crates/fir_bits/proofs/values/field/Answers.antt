use Rattle.std.proofs.Common.{◌/◌, ◌%◌, ◌^◌, ap, ◌∙◌}
use Rattle.fir_bits.proofs.Masks.{and_greatest}
use Rattle.fir_bits.proofs.values.field.Goals as goal

pub returns : goal.returns
returns c =
    let shifted_is = c.shifted_right.ensures ∙ ap (λ n. n / 2 ^ c.args.lo) c.bits.ensures.value in
    and_greatest c.args.count c.mask.result c.shifted_right.result c.mask.ensures ∙ ap (λ n. n % 2 ^ c.args.count) shifted_is
