use Rattle.ver_runner.proofs.CountedEnds as ends
use Rattle.ver_runner.proofs.laws.counts_end_lines.Goals as goal

pub returns : goal.returns
returns c = ends.counts_end_lines
