use Rattle.ver_ast.proofs.OneTick.{one_next}
use Rattle.ver_ast.proofs.laws.settled_has_one_next.Goals as goal

pub returns : goal.returns
returns c v valid state tick env s within = one_next v valid state tick env s within
