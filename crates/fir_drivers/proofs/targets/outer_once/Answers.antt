use Rattle.std.proofs.Common.{◌<◌, ◌≤◌, get_or, arith, take_all}
use Rattle.fir_driven.specs.working.Covering.{depth_in}
use Rattle.fir_drivers.proofs.OuterLeaves.{outer_more, outer_same, takes_outer}
use Rattle.fir_drivers.proofs.targets.outer_once.Goals as goal
use Rattle.fir_drivers.proofs.targets.outer_once.Goals.{then-depth_of-depth, else-depth_of-depth}

pub loop-leaf-preserved : goal.loop-leaf-preserved
loop-leaf-preserved c =
    let i = c.loop-leaf.leaf-index in
    let leaves = c.args.leaves.now in
    let depths = c.args.depths.now in
    let k = c.args.depth in
    elim c.if-depth_of-depth.branch [
      | then-depth_of-depth w ↦
          let outside : depth_in depths (get_or leaves i 0) ≤ k = omega (arith, c.depth_of.ensures) in
          rw w.marks-is (outer_more _ _ _ leaves depths i 0 k c.loop-leaf-test.true c.loop-leaf.invariant outside w.set_flag.ensures)
      | else-depth_of-depth w ↦
          let further : k < depth_in depths (get_or leaves i 0) = omega (arith, c.depth_of.ensures) in
          rw w.marks-is (outer_same _ _ leaves depths i 0 k c.loop-leaf-test.true c.loop-leaf.invariant further)
    ]

pub returns : goal.returns
returns c = λ unmarked.
    let leaves = c.args.leaves.now in
    let marked = rw (take_all c.loop-leaf.leaf-index leaves c.loop-leaf-test.false) at c.loop-leaf.invariant in
    takes_outer c.args.depths.now c.args.depth leaves c.move_marked.new.found.items c.args.marks.now.items c.loop-leaf.marks.items
    c.move_marked.new.marks.items unmarked marked (rw c.new-outer.ensures.items at c.in_ok-move_marked.ensures)
