use Rattle.fir_leaf.proofs.RootClocks.{has_one_root}
use Rattle.fir_leaf.proofs.run_laws.has_one_root.Goals as goal

pub returns : goal.returns
returns c = has_one_root
