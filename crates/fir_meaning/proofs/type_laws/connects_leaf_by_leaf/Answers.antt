use Rattle.fir_meaning.proofs.PairedLeaves.{pairs_leaves}
use Rattle.fir_meaning.proofs.type_laws.connects_leaf_by_leaf.Goals as goal

pub returns : goal.returns
returns c = pairs_leaves
