use Rattle.fir_runner.proofs.FirstLines.{fronts_begin}
use Rattle.fir_runner.proofs.fronts.fronts_begin.Goals as goal

pub returns : goal.returns
returns c = fronts_begin c.front_lines_begin.ensures
