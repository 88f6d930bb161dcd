use Rattle.fir_flat.proofs.FlatLoops.{shows_the_same_loops}
use Rattle.fir_flat.proofs.laws.flat_nets_show_the_same_loops.Goals as goal

pub returns : goal.returns
returns c = shows_the_same_loops
