use Rattle.trace_lines.proofs.Growing.{run_more}
use Rattle.trace_lines.proofs.laws.runs_grow.Goals as goal

pub returns : goal.returns
returns g c circuit init ticks shown tick last = run_more (g.C.Circuits.allows circuit) tick last init ticks shown
