use Rattle.fir_leaf.proofs.ClockRings.{one_root_of}
use Rattle.fir_leaf.proofs.run_laws.one_root_of.Goals as goal

pub returns : goal.returns
returns c = one_root_of
