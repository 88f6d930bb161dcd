use Rattle.fir_meaning.proofs.SizedExpressions.{sized_as_typed}
use Rattle.fir_meaning.proofs.width_laws.sized_as_typed.Goals as goal

pub returns : goal.returns
returns c = sized_as_typed
