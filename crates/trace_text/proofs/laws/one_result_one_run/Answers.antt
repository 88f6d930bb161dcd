use Rattle.trace_text.proofs.RunFronts.{one_result_one_run as one_run}
use Rattle.trace_text.proofs.laws.one_result_one_run.Goals as goal

pub returns : goal.returns
returns g c circuit = one_run (g.C.Circuits.allows circuit)
