use Rattle.ver_ast.proofs.OneTick.{one_run}
use Rattle.ver_ast.proofs.laws.runs_at_most_once.Goals as goal

pub returns : goal.returns
returns c v valid state ticks run other h k = one_run v valid state ticks run other h k
