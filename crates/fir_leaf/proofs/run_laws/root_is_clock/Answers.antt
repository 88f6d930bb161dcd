use Rattle.fir_leaf.proofs.RootClocks.{root_is_clock}
use Rattle.fir_leaf.proofs.run_laws.root_is_clock.Goals as goal

pub returns : goal.returns
returns c = root_is_clock
