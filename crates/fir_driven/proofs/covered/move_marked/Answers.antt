use Rattle.std.proofs.Common.{◌≡◌, true, false, get_or}
use Rattle.fir_driven.specs.working.Covering.{flag_at}
use Rattle.fir_driven.proofs.MarkedLeaves.{moves_more, moves_same}
use Rattle.fir_driven.proofs.covered.move_marked.Goals as goal
use Rattle.fir_driven.proofs.covered.move_marked.Goals.{then-is_flagged+in_ok-push, else-is_flagged}

pub loop-leaf-preserved : goal.loop-leaf-preserved
loop-leaf-preserved c =
    let i = c.loop-leaf.leaf-index in
    let leaves = c.args.leaves.now in
    let marks = c.loop-leaf.marks.items in
    let is = rw c.deref.ensures.value at c.is_flagged.ensures in
    elim c.if-is_flagged.branch [
      | then-is_flagged+in_ok-push w ↦
          let marked : flag_at marks (get_or leaves i 0) ≡ true = cc in
          rw (w.marks-is, w.found-is)
          (moves_more _ _ leaves i 0 _ _ c.loop-leaf-test.true c.loop-leaf.invariant _ _ marked w.set_flag.ensures w.in_ok-push.ensures.items)
      | else-is_flagged w ↦
          let unmarked : flag_at marks (get_or leaves i 0) ≡ false = cc in
          rw (w.marks-is, w.found-is) (moves_same _ _ leaves i 0 _ _ c.loop-leaf-test.true c.loop-leaf.invariant unmarked)
    ]
