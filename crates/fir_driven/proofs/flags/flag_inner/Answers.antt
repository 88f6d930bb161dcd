use Rattle.std.proofs.Common.{◌<◌, ◌≤◌, get_or, arith}
use Rattle.fir_driven.specs.working.Covering.{depth_in}
use Rattle.fir_driven.proofs.FlagSteps.{inner_more, inner_same}
use Rattle.fir_driven.proofs.flags.flag_inner.Goals as goal
use Rattle.fir_driven.proofs.flags.flag_inner.Goals.{then-depth_of-depth, else-depth_of-depth}

pub loop-leaf-preserved : goal.loop-leaf-preserved
loop-leaf-preserved c =
    let i = c.loop-leaf.leaf-index in
    let leaves = c.args.leaves.now in
    let depths = c.args.depths.now in
    let k = c.args.depth in
    elim c.if-depth_of-depth.branch [
      | then-depth_of-depth w ↦
          let further : k < depth_in depths (get_or leaves i 0) = omega (arith, c.depth_of.ensures) in
          rw w.flags-is (inner_more _ _ _ leaves depths i 0 k c.loop-leaf-test.true c.loop-leaf.invariant further w.set_flag.ensures)
      | else-depth_of-depth w ↦
          let outside : depth_in depths (get_or leaves i 0) ≤ k = omega (arith, c.depth_of.ensures) in
          rw w.flags-is (inner_same _ _ leaves depths i 0 k c.loop-leaf-test.true c.loop-leaf.invariant outside)
    ]
