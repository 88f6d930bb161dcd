use Rattle.std.proofs.Common.{◌∙◌, ap, sym}
use Rattle.fir_drop_dead.specs.working.Marks.{marked}
use Rattle.fir_drop_dead.proofs.MarkSteps.{marked_more}
use Rattle.fir_drop_dead.proofs.marks.Marks.mark_all.Goals as goal

pub loop-read-preserved : goal.loop-read-preserved
loop-read-preserved c =
    c.mark.ensures ∙ ap (marked c.read-item.result) c.loop-read.invariant
    ∙ sym (marked_more c.args.reads.now c.loop-read.read-index c.read-item.result c.args.self.now c.loop-read-test.true c.read-item.is)
