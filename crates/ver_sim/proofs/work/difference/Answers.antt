use Rattle.std.proofs.Common.{◌∙◌}
use Rattle.ver_sim.proofs.CutNumbers.{difference_cut}
use Rattle.ver_sim.proofs.work.difference.Goals as goal

pub returns : goal.returns
returns c =
    c.low_bits-2.ensures ∙ difference_cut c.args.first c.args.second c.args.width c.mask-greatest.result c.requires c.mask-greatest.ensures c.if-second-greatest.false
