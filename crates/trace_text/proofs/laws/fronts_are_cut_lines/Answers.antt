use Rattle.trace_text.proofs.CutLines.{fronts_are_cut_lines as cut_lines}
use Rattle.trace_text.proofs.laws.fronts_are_cut_lines.Goals as goal

pub returns : goal.returns
returns c = cut_lines
