use Rattle.trace_text.proofs.FirstBad.{spelled_or_bad}
use Rattle.trace_text.proofs.laws.trace_is_spelled_or_bad.Goals as goal

pub returns : goal.returns
returns c = spelled_or_bad
