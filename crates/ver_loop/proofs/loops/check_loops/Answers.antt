use Rattle.ver_valid.proofs.Ready.{reads_known, targets_distinct}
use Rattle.ver_check.proofs.FaultlessProcesses.{faultless_ready}
use Rattle.ver_loop.proofs.loops.check_loops.Goals as goal

pub closed_walk-requires-clause-distinct : goal.closed_walk-requires-clause-distinct
closed_walk-requires-clause-distinct c = targets_distinct c.args.v.now (faultless_ready c.args.v.now c.requires.misfits c.requires.undriven)

pub closed_walk-requires-clause-known : goal.closed_walk-requires-clause-known
closed_walk-requires-clause-known c = reads_known c.args.v.now (faultless_ready c.args.v.now c.requires.misfits c.requires.undriven)

pub loop_fault-requires-clause-distinct : goal.loop_fault-requires-clause-distinct
loop_fault-requires-clause-distinct c = targets_distinct c.args.v.now (faultless_ready c.args.v.now c.requires.misfits c.requires.undriven)
