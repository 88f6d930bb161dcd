use Rattle.fir_leaf.proofs.Elaborating.{one_design}
use Rattle.fir_leaf.proofs.design_laws.one_design.Goals as goal

pub returns : goal.returns
returns c = one_design
