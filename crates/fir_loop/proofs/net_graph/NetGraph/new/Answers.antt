use Rattle.fir_loop.proofs.Numbering.{targets_within}
use Rattle.fir_loop.proofs.net_graph.NetGraph.new.Goals as goal

pub invariant_of-result-clause-within : goal.invariant_of-result-clause-within
invariant_of-result-clause-within c = targets_within c.args.net.now c.requires
