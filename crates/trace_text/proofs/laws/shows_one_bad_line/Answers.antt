use Rattle.trace_text.proofs.BadLines.{one_bad_line}
use Rattle.trace_text.proofs.laws.shows_one_bad_line.Goals as goal

pub returns : goal.returns
returns c = one_bad_line
