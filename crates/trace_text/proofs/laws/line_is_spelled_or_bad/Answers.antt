use Rattle.trace_text.proofs.JudgedLines.{line_judged}
use Rattle.trace_text.proofs.laws.line_is_spelled_or_bad.Goals as goal

pub returns : goal.returns
returns c = line_judged
