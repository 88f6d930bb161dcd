use Rattle.ver_parse.proofs.OneFault.{no_tree}
use Rattle.ver_parse.proofs.laws.no_tree_beside_a_token_fault.Goals as goal

pub returns : goal.returns
returns c = no_tree
