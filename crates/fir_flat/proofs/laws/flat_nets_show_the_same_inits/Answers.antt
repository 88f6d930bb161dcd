use Rattle.fir_flat.proofs.FlatInits.{shows_the_same_inits}
use Rattle.fir_flat.proofs.laws.flat_nets_show_the_same_inits.Goals as goal

pub returns : goal.returns
returns c = shows_the_same_inits
