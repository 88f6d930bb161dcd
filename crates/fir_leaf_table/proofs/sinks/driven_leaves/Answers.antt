use Rattle.std.proofs.Common.{None}
use Rattle.fir_types.specs.working.Seen.{flow_seen}
use Rattle.fir_leaf_table.proofs.DrivenWalks.{driven_next}
use Rattle.fir_leaf_table.proofs.sinks.driven_leaves.Goals as goal

pub loop-position-preserved : goal.loop-position-preserved
loop-position-preserved c =
    driven_next c.args.frame.now c.loop-position.position None (flow_seen c.flow_at-flow.result) c.loop-position.driven.items
    c.push_driven.new.driven.items c.loop-position-test.true c.loop-position.invariant c.flow_at-flow.ensures c.in_ok-push_driven.ensures
