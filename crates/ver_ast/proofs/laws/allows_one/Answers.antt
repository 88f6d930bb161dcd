use Rattle.ver_ast.proofs.OneTick.{one_allowed}
use Rattle.ver_ast.proofs.laws.allows_one.Goals as goal

pub returns : goal.returns
returns c v valid state tick shown other clocks others next more h k = one_allowed v valid state tick shown other clocks others next more h k
