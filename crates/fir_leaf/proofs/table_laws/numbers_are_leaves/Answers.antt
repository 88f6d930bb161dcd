use Rattle.fir_leaf.proofs.TableStores.{numbers_are_leaves}
use Rattle.fir_leaf.proofs.table_laws.numbers_are_leaves.Goals as goal

pub returns : goal.returns
returns c = numbers_are_leaves
