use Rattle.fir_resolve.proofs.ModuleCircles.{names_more}
use Rattle.fir_resolve.proofs.recursion.names_at.Goals as goal

pub loop-number-preserved : goal.loop-number-preserved
loop-number-preserved c =
    rw (c.in_ok-push.ensures.items, c.in_ok-copy.ensures, ← c.index-modules-number.is)
    (names_more c.args.modules.now c.args.numbers.now c.loop-number.number-index c.index-modules-number.result c.loop-number.names.items c.loop-number.invariant
    c.loop-number-test.true c.requires c.index-modules-number.is)
