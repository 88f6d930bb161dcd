use Rattle.fir_leaf.proofs.Elaborating.{has_design}
use Rattle.fir_leaf.proofs.design_laws.has_design.Goals as goal

pub returns : goal.returns
returns c = has_design
