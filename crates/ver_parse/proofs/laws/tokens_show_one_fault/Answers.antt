use Rattle.ver_parse.proofs.OneFault.{one_fault}
use Rattle.ver_parse.proofs.laws.tokens_show_one_fault.Goals as goal

pub returns : goal.returns
returns c = one_fault
