use Rattle.fir_leaf.proofs.DeclaredLeaves.{leaves_declared}
use Rattle.fir_leaf.proofs.table_laws.leaves_are_declared.Goals as goal

pub returns : goal.returns
returns c = leaves_declared
