use Rattle.ver_runner.proofs.FrontLines.{lacked_does_not_run}
use Rattle.ver_runner.proofs.laws.lacked_does_not_run.Goals as goal

pub returns : goal.returns
returns c = lacked_does_not_run
