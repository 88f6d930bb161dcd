use Rattle.fir_flat.proofs.FlatLoops.{hides_no_loop}
use Rattle.fir_flat.proofs.laws.flat_nets_hide_no_loop.Goals as goal

pub returns : goal.returns
returns c = hides_no_loop
