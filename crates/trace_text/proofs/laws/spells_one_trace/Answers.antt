use Rattle.trace_text.proofs.BadLines.{one_trace}
use Rattle.trace_text.proofs.laws.spells_one_trace.Goals as goal

pub returns : goal.returns
returns c = one_trace
