use Rattle.ver_runner.proofs.FrontLines.{fronts_begin}
use Rattle.ver_runner.proofs.laws.fronts_begin.Goals as goal

pub returns : goal.returns
returns c = fronts_begin c.trace_is_spelled_or_bad.ensures
