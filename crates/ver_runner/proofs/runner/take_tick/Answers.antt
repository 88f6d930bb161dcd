use Rattle.std.proofs.Common.{sym, ◌∙◌, subst}
use Rattle.ver_order.specs.working.Rounds.{IsRound}
use Rattle.ver_order.specs.Rounds.{process_count}
use Rattle.ver_runner.proofs.Shuffles.{is_round}
use Rattle.ver_runner.proofs.runner.take_tick.Goals as goal

pub tick_in_rounds-requires-clause-round : goal.tick_in_rounds-requires-clause-round
tick_in_rounds-requires-clause-round c =
    let count = process_count c.args.sim.now.tree in
    let round = rw c.in-Some.is at c.requires.order in
    subst (IsRound count) (sym (c.as_slice.ensures.value ∙ round)) (is_round count c.in-Some.order.number)
