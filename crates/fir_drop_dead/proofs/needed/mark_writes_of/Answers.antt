use Rattle.std.proofs.Common.{◌∙◌, List, ap, sym}
use Rattle.fir_net.specs.declared.array.ArrayWrite.{ArrayWrite}
use Rattle.fir_drop_dead.specs.working.Marks.{marked_all}
use Rattle.fir_drop_dead.specs.working.Needed.{writes_reads}
use Rattle.fir_drop_dead.proofs.NeededRoots.{arrays_more}
use Rattle.fir_drop_dead.proofs.needed.mark_writes_of.Goals as goal

pub loop-array-preserved : goal.loop-array-preserved
loop-array-preserved c =
    c.mark_writes.ensures ∙ ap (λ (ws : List ArrayWrite). marked_all (writes_reads ws) c.loop-array.marks) c.as_slice.ensures
    ∙ ap (marked_all (writes_reads c.array-item.result.writes)) c.loop-array.invariant
    ∙ sym (arrays_more c.args.arrays.now c.loop-array.array-index c.array-item.result c.args.marks.now c.loop-array-test.true c.array-item.is)
