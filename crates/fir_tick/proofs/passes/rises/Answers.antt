use Rattle.std.proofs.Common.{◌∙◌}
use Rattle.std.proofs.lemmas.List.Sorted.{searched}
use Rattle.fir_tick.proofs.Fits.{search_rises}
use Rattle.fir_tick.proofs.passes.rises.Goals as goal

pub returns : goal.returns
returns c =
    let ks = c.args.named.now in
    let k = c.args.clock in
    let r = c.binary_search.result in
    c.is_ok.ensures.value ∙ search_rises ks k r (searched ks k r c.binary_search.ensures.position c.requires)
