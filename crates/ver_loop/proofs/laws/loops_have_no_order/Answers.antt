use Rattle.ver_check.proofs.FaultlessProcesses.{faultless_ready}
use Rattle.ver_loop.proofs.NoOrder.{no_closed_walk}
use Rattle.ver_loop.proofs.laws.loops_have_no_order.Goals as goal

pub returns : goal.returns
returns c = λ v misfits undriven f shown order o. no_closed_walk v (faultless_ready v misfits undriven) order o shown.walk shown.closed
