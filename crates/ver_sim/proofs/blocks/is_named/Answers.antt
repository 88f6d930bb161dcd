use Rattle.std.proofs.Common.{◌∙◌}
use Rattle.std.proofs.lemmas.List.Sorted.{searched}
use Rattle.ver_sim.proofs.RisingClocks.{search_rises}
use Rattle.ver_sim.proofs.blocks.is_named.Goals as goal

pub returns : goal.returns
returns c =
    let ks = c.args.named.now in
    let k = c.args.clock in
    let r = c.binary_search.result in
    c.is_ok.ensures.value ∙ search_rises ks k r (searched ks k r c.binary_search.ensures.position c.requires)
