use Rattle.std.proofs.Common.{◌∙◌, ap, sym}
use Rattle.fir_flatten.specs.working.KeptNodes.{marked}
use Rattle.fir_flatten.proofs.MarkedReads.{marked_more}
use Rattle.fir_flatten.proofs.kept_nodes.mark_all.Goals as goal

pub loop-read-preserved : goal.loop-read-preserved
loop-read-preserved c =
    c.mark.ensures ∙ ap (marked c.read-item.result) c.loop-read.invariant
    ∙ sym (marked_more c.args.reads.now c.loop-read.read-index c.read-item.result c.args.needed.now c.loop-read-test.true c.read-item.is)
