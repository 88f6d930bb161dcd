use Rattle.fir_loop.proofs.Circles.{paths_more}
use Rattle.fir_loop.proofs.circle.paths_of.Goals as goal

pub loop-leaf-preserved : goal.loop-leaf-preserved
loop-leaf-preserved c = rw (c.in_ok-push.ensures.items, c.in_ok-copy.ensures) (paths_more c.args.net.now _ _ _ _ _ c.loop-leaf.invariant c.loop-leaf-test.true c.leaf-item.is c.leaf_of.ensures)
