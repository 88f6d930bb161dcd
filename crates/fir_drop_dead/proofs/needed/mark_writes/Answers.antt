use Rattle.std.proofs.Common.{◌∙◌, ap, sym}
use Rattle.fir_drop_dead.specs.working.IsLive.{write_reads}
use Rattle.fir_drop_dead.specs.working.Marks.{marked_all}
use Rattle.fir_drop_dead.proofs.NeededRoots.{writes_more}
use Rattle.fir_drop_dead.proofs.needed.mark_writes.Goals as goal

pub loop-write-preserved : goal.loop-write-preserved
loop-write-preserved c =
    c.mark_write.ensures ∙ ap (marked_all (write_reads c.write-item.result)) c.loop-write.invariant
    ∙ sym (writes_more c.args.writes.now c.loop-write.write-index c.write-item.result c.args.marks.now c.loop-write-test.true c.write-item.is)
