use Rattle.trace_text.proofs.BadLines.{spelled_not_bad}
use Rattle.trace_text.proofs.laws.spelled_is_not_bad.Goals as goal

pub returns : goal.returns
returns c = spelled_not_bad
