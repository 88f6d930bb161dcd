use Rattle.fir_flat.proofs.FlatInits.{hides_no_init}
use Rattle.fir_flat.proofs.laws.flat_nets_hide_no_init.Goals as goal

pub returns : goal.returns
returns c = hides_no_init
