use Rattle.std.proofs.Common.{sym, ◌∙◌}
use Rattle.std.proofs.lemmas.List.{at_drop_all}
use Rattle.ver_sim.specs.working.Turns.{turns}
use Rattle.ver_sim.proofs.InTurn.{turns_next, turns_none}
use Rattle.ver_sim.proofs.steps.take_steps.Goals as goal

pub loop-number-preserved : goal.loop-number-preserved
loop-number-preserved c = turns_next _ _ c.args.order.now c.loop-number.number-index _ _ _ c.loop-number-test.true c.loop-number.invariant c.take_turn.ensures

pub returns : goal.returns
returns c =
    sym (at_drop_all (λ l. turns c.args.tasks.now c.args.state.now l c.loop-number.values) c.args.order.now c.loop-number.number-index c.loop-number-test.false ∙ turns_none _ _ _) ∙ c.loop-number.invariant
