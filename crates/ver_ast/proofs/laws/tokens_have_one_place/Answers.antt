use Rattle.ver_ast.proofs.OnePlace.{one_place}
use Rattle.ver_ast.proofs.laws.tokens_have_one_place.Goals as goal

pub returns : goal.returns
returns c bytes ts us h k = one_place bytes ts us h k
