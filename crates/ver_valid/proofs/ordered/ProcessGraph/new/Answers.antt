use Rattle.ver_valid.proofs.ProcessReads.{edges, target_within}
use Rattle.ver_valid.proofs.ordered.ProcessGraph.new.Goals as goal

pub invariant_of-result : goal.invariant_of-result
invariant_of-result c = record { within = target_within c.args.v.now _ (edges c.args.v.now _ c.in_ok-process_drivers.ensures) }
