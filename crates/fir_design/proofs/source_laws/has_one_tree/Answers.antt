use Rattle.fir_design.proofs.OneTrees.{has_one_tree}
use Rattle.fir_design.proofs.source_laws.has_one_tree.Goals as goal

pub returns : goal.returns
returns c = has_one_tree
