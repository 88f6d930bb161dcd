use Rattle.ver_runner.proofs.LackedTicks.{lacks_allow_nothing}
use Rattle.ver_runner.proofs.laws.lacks_allow_nothing.Goals as goal

pub returns : goal.returns
returns c = lacks_allow_nothing
