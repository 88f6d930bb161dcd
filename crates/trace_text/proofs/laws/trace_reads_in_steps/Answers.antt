use Rattle.trace_text.proofs.Stepped.{reads_in_steps}
use Rattle.trace_text.proofs.laws.trace_reads_in_steps.Goals as goal

pub returns : goal.returns
returns c = reads_in_steps
