use Rattle.std.proofs.Common.{◌<◌, ◌^◌, length, arith, ◌∙◌}
use Rattle.fir_infer_widths.specs.working.Walks.{types_in}
use Rattle.fir_infer_widths.proofs.RangeSides.{count_exact}
use Rattle.fir_infer_widths.proofs.forms.leaf_count.Goals as goal

pub returns : goal.returns
returns c = λ meant rules s keeps is.
    let numbers = c.len-numbers.ensures meant rules keeps in
    let in_range = c.len-numbers.type_inv in
    let small : length meant < 2 ^ 64 = omega arith in
    c.count.ensures ∙ count_exact (types_in c.args.ground.now) meant c.args.side s small is
