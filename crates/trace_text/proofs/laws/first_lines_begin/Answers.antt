use Rattle.trace_text.proofs.RunFronts.{first_lines_begin as lines_begin}
use Rattle.trace_text.proofs.laws.first_lines_begin.Goals as goal

pub returns : goal.returns
returns g c circuit = lines_begin (g.C.Circuits.allows circuit)
