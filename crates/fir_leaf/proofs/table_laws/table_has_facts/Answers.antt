use Rattle.fir_leaf.proofs.TableFacts.{table_has_facts}
use Rattle.fir_leaf.proofs.table_laws.table_has_facts.Goals as goal

pub returns : goal.returns
returns c = table_has_facts
