use Rattle.fir_leaf.proofs.ClockRings.{root_before}
use Rattle.fir_leaf.proofs.run_laws.root_before.Goals as goal

pub returns : goal.returns
returns c = root_before
