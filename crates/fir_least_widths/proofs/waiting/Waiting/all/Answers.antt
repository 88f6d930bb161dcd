use Rattle.std.proofs.Common.{rules, ◌≡◌, replicate, true}
use Rattle.fir_least_widths.proofs.WaitingMarks.{all_wait}
use Rattle.fir_least_widths.proofs.waiting.Waiting.all.Goals as goal

pub invariant_of-result : goal.invariant_of-result
invariant_of-result c =
    let e : c.in_ok-vec.field-0.items ≡ replicate c.args.count true = search rules in
    rw e (all_wait _ _ _ c.loop-i-test.false c.loop-i.auto.i-end c.loop-i.invariant.long c.loop-i.invariant.each)
