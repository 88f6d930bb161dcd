use Rattle.std.proofs.Common.{sym, ◌∙◌}
use Rattle.ver_sim.proofs.InTurn.{same_option, shown_more}
use Rattle.ver_sim.proofs.unsettled.first_unsettled.Goals as goal

pub loop-number-preserved : goal.loop-number-preserved
loop-number-preserved c =
    shown_more c.args.tasks.now c.args.state.now c.args.values.now c.loop-number.number c.index-tasks-number.result c.value_of-wanted.result c.at-shown.result
    c.index-tasks-number.is c.loop-number.invariant c.value_of-wanted.ensures c.at-shown.ensures
    (same_option c.value_of-wanted.result c.at-shown.result (sym c.ne.ensures ∙ c.if-ne.false))
