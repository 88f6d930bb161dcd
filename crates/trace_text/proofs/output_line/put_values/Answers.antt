use Rattle.trace_text.proofs.PaddedDigits.{counted}
use Rattle.trace_text.proofs.ClosedLines.{values_more}
use Rattle.trace_text.proofs.output_line.put_values.Goals as goal

pub loop-value-preserved : goal.loop-value-preserved
loop-value-preserved c =
    let text = counted c.div_ceil.result c.width.result c.bits.result c.value-item.result c.div_ceil.ensures c.width.ensures.value c.bits.ensures.value in
    let more = values_more c.args.line.now.items c.args.values.now c.loop-value.value-index c.value-item.result c.loop-value-test.true c.value-item.is in
    let put = c.in_ok-put_padded.ensures in
    let items = c.in_ok-extend_from_slice.ensures.items in
    cc c.loop-value.invariant
