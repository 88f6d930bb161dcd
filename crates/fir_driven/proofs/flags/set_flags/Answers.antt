use Rattle.fir_driven.proofs.FlagSteps.{set_more}
use Rattle.fir_driven.proofs.flags.set_flags.Goals as goal

pub loop-leaf-preserved : goal.loop-leaf-preserved
loop-leaf-preserved c = set_more _ _ _ c.args.leaves.now c.loop-leaf.leaf-index 0 c.args.flag c.loop-leaf-test.true c.loop-leaf.invariant c.set_flag.ensures
