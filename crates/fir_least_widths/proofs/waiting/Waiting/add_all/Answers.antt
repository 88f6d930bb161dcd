use Rattle.fir_least_widths.proofs.WaitingMarks.{one_added}
use Rattle.fir_least_widths.proofs.waiting.Waiting.add_all.Goals as goal

pub loop-place-preserved : goal.loop-place-preserved
loop-place-preserved c =
    rw c.in_ok-add.ensures (one_added _ _ _ _ c.requires c.loop-place-test.true c.loop-place.invariant)
