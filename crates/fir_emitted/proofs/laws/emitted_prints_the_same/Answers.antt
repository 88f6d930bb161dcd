use Rattle.trace_lines.specs.Saying.{SaysBadly, SaysFront}
use Rattle.trace_text.specs.TraceSpells.{TraceSpells}
use Rattle.fir_emitted.proofs.Printing.{has_shape, of_emitted}
use Rattle.fir_emitted.proofs.laws.emitted_prints_the_same.Goals as goal

pub returns : goal.returns
returns c = record {
  shaped = has_shape;
  whole = λ trace. of_emitted c.runs_at_most_once.ensures (TraceSpells trace);
  front = λ trace. of_emitted c.runs_at_most_once.ensures (SaysFront trace);
  bad = λ trace line. of_emitted c.runs_at_most_once.ensures (SaysBadly trace line);
}
