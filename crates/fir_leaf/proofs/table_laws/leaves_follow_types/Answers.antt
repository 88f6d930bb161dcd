use Rattle.fir_leaf.proofs.LeafDeclarations.{leaves_follow_types}
use Rattle.fir_leaf.proofs.table_laws.leaves_follow_types.Goals as goal

pub returns : goal.returns
returns c = leaves_follow_types
