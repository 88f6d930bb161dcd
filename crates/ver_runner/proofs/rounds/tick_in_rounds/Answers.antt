use Rattle.std.proofs.Common.{sym, ◌∙◌}
use Rattle.ver_runner.proofs.TickTaken.{lacks, not_none, not_refused, allows, counts}
use Rattle.ver_runner.proofs.rounds.tick_in_rounds.Goals as goal

pub returns-in-Some-clause-no_value : goal.returns-in-Some-clause-no_value
returns-in-Some-clause-no_value c =
    lacks c.args.sim.now c.set.new.self c.take_rounds-rounds.new.sim c.requires.valid c.args.tick.now.tick c.args.round.now c.requires.round c.set.ensures.tree c.set.ensures.state
    c.set.ensures.inputs c.set.ensures.sources c.take_rounds-rounds.ensures.tree c.take_rounds-rounds.ensures.state c.take_rounds-rounds.result c.take_rounds-rounds.ensures.some
    c.take_rounds-rounds.ensures.none c.in-Some.no_value (sym c.no_value.ensures ∙ c.in-Some.is)

pub unreachable-requires : goal.unreachable-requires
unreachable-requires c =
    not_none c.args.sim.now c.set.new.self c.take_rounds-rounds.new.sim c.requires.valid c.args.tick.now.tick c.args.round.now c.requires.round c.set.ensures.tree c.set.ensures.state
    c.set.ensures.inputs c.set.ensures.sources c.take_rounds-rounds.ensures.tree c.take_rounds-rounds.ensures.state c.take_rounds-rounds.result c.take_rounds-rounds.ensures.some
    c.take_rounds-rounds.ensures.none (sym c.no_value.ensures ∙ c.in_default.is) c.in_default-rounds.is

pub unreachable-requires-in-Err : goal.unreachable-requires-in-Err
unreachable-requires-in-Err c =
    not_refused c.args.sim.now c.set.new.self c.take_rounds-rounds.new.sim c.requires.valid c.args.tick.now.tick c.args.round.now c.requires.round c.set.ensures.tree c.set.ensures.state
    c.set.ensures.inputs c.set.ensures.sources c.take_rounds-rounds.ensures.tree c.take_rounds-rounds.ensures.state c.take_rounds-rounds.result c.take_rounds-rounds.ensures.some
    c.take_rounds-rounds.ensures.none (sym c.no_value.ensures ∙ c.in_default.is) c.in-Err.field-0 c.in-Err.ensures.not_yet

pub returns-clause-allows : goal.returns-clause-allows
returns-clause-allows c =
    allows c.args.sim.now c.set.new.self c.take_rounds-rounds.new.sim c.requires.valid c.args.tick.now.tick c.args.round.now c.requires.round c.set.ensures.tree c.set.ensures.state
    c.set.ensures.inputs c.set.ensures.sources c.take_rounds-rounds.ensures.tree c.take_rounds-rounds.ensures.state c.take_rounds-rounds.result c.take_rounds-rounds.ensures.some
    c.take_rounds-rounds.ensures.none (sym c.no_value.ensures ∙ c.in_default.is) c.edge.new.self c.edge.ensures.outputs
    c.edge.ensures.tree c.in-Ok.ensures.next

pub returns-clause-counts : goal.returns-clause-counts
returns-clause-counts c =
    counts c.args.sim.now c.set.new.self c.take_rounds-rounds.new.sim c.requires.valid c.args.tick.now.tick c.args.round.now c.requires.round c.set.ensures.tree c.set.ensures.state
    c.set.ensures.inputs c.set.ensures.sources c.take_rounds-rounds.ensures.tree c.take_rounds-rounds.ensures.state c.take_rounds-rounds.result c.take_rounds-rounds.ensures.some
    c.take_rounds-rounds.ensures.none (sym c.no_value.ensures ∙ c.in_default.is) c.edge.new.self c.edge.ensures.outputs
    c.edge.ensures.tree c.in-Ok.ensures.next c.in-Ok.ensures.shown c.in-Some-rounds.count c.in-Some-rounds.is
