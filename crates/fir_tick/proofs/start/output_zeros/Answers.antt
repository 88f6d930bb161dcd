use Rattle.std.proofs.Common.{map, sym, ap, ◌∙◌}
use Rattle.std.proofs.lemmas.List.{map_more, take_all}
use Rattle.fir_tick.specs.working.Passes.{output_zero}
use Rattle.fir_tick.proofs.start.output_zeros.Goals as goal

pub loop-plan-preserved : goal.loop-plan-preserved
loop-plan-preserved c =
    rw (c.in_ok-push.ensures.items, c.of.ensures, c.loop-plan.invariant) (sym (map_more output_zero c.args.plans.now c.loop-plan.plan-index _ c.loop-plan-test.true))

pub returns : goal.returns
returns c = c.loop-plan.invariant ∙ ap (map output_zero) (take_all c.loop-plan.plan-index c.args.plans.now c.loop-plan-test.false)
